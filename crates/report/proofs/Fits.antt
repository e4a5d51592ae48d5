-- No line of `fuse` is cut: each fits into a line, so that the first n bytes are its whole text.
use Prim.Native.Nat.{ℕ, ◌≤◌}
use mathlib.Core.Path.{◌≡◌}
use native.Mathlib.Omega.{arith}
use lib.ListN.{length, length-append, take}
use Rattle.text.specs.Line.{line_room, line_of}
use Rattle.text.proofs.Lines.{line_text}
use Rattle.text.proofs.Digits.{decimal_20, signed_21}
use Rattle.lictor_core.specs.Codes.{state_code, reason_code, source_code}
use Rattle.lictor_core.specs.declared.tally.Tally.{Tally}
use Rattle.lictor_core.specs.declared.verdict.SafetyVerdict.{SafetyVerdict}
use Rattle.margin.specs.declared.Margin.{Margin}
use Rattle.margin.specs.declared.Margin.TheVariants.{NoMargin, PlusFar, MinusFar, Millis}
use Rattle.margin.specs.Margin.{margin_of}
use Rattle.report.specs.Lines.{margin_text, tick_text, stopped_of, end_text, refused_text}

pub margin_21 : (m : Margin) → length (margin_text m) ≤ 21
unfolding margin_text
margin_21 NoMargin = omega arith
margin_21 PlusFar = omega arith
margin_21 MinusFar = omega arith
margin_21 (Millis z) = signed_21 z

pub tick_fits : (v : SafetyVerdict) → length (tick_text v) ≤ line_room
unfolding tick_text
tick_fits v =
    simp length-append
    (omega (
      arith,
      decimal_20 v.seq,
      decimal_20 v.t,
      decimal_20 (state_code v.state),
      decimal_20 (reason_code v.reason),
      decimal_20 v.trips,
      decimal_20 (source_code v.action_src),
      margin_21 (margin_of v.brake_margin),
    ))

pub end_fits : (t : Tally) → length (end_text t) ≤ line_room
unfolding end_text
end_fits t = simp length-append (omega (arith, decimal_20 t.ticks, decimal_20 (stopped_of t)))

pub refused_fits : (number place : ℕ) → length (refused_text number place) ≤ line_room
unfolding refused_text
refused_fits number place = simp length-append (omega (arith, decimal_20 number, decimal_20 place))

-- what a writer of the first n bytes writes
pub tick_whole : (v : SafetyVerdict) → take (line_of (tick_text v)).n (line_of (tick_text v)).text ≡ tick_text v
tick_whole v = line_text (tick_text v) (tick_fits v)

pub end_whole : (t : Tally) → take (line_of (end_text t)).n (line_of (end_text t)).text ≡ end_text t
end_whole t = line_text (end_text t) (end_fits t)

pub refused_whole : (number place : ℕ) → take (line_of (refused_text number place)).n (line_of (refused_text number place)).text ≡ refused_text number place
refused_whole number place = line_text (refused_text number place) (refused_fits number place)
