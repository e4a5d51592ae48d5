-- What the definitions print, by computation: of margins what rounds to zero or is no number, and
-- the lines of the example of 01-scope.md. Margins at a half and at the ends are in `starred`.
use Prim.Native.Nat.{ℕ}
use mathlib.Core.Path.{◌≡◌, refl}
use mathlib.Core.List.{List, [], ◌∷◌, map}
use lib.Count.{count_trailing_zeros}
use lib.Ieee.{nan, binary64, of_bits, of_fields, odd}
use Rattle.text.specs.Ascii.{ascii}
use Rattle.text.specs.Number.{decimal_in, signed_of}
use Rattle.margin.specs.Margin.{nearest_whole, margin_of}
use Rattle.lictor_core.specs.declared.reason.ReasonCode.TheVariants.{FaultSchema}
use Rattle.lictor_core.specs.declared.state.FuseState.TheVariants.{Fault}
use Rattle.lictor_core.specs.declared.tally.Tally.{Tally}
use Rattle.lictor_core.specs.declared.verdict.ActionSource.TheVariants.{Hold}
use Rattle.lictor_core.specs.declared.verdict.SafetyVerdict.{SafetyVerdict}
use Rattle.report.specs.Lines.{margin_text, tick_text, stopped_of, end_text, refused_text}

-- what is printed of the margin with these bits
abbrev pub printed_margin : ℕ → List ℕ
printed_margin b = margin_text (margin_of (of_bits binary64 b))

-- −0 and −0.0004; NaN; the infinities
pub edges : map printed_margin (0x8000_0000_0000_0000 ∷ 0xbf3a_36e2_eb1c_432d ∷ 0x7ff8_0000_0000_0000 ∷ 0x7ff0_0000_0000_0000 ∷ 0xfff0_0000_0000_0000 ∷ [])
    ≡ ascii "0" ∷ ascii "0" ∷ ascii "none" ∷ ascii "+far" ∷ ascii "-far" ∷ []
unfolding margin_text margin_of nearest_whole signed_of decimal_in of_bits of_fields odd count_trailing_zeros
edges = refl

-- the two lines of the example of 01-scope.md, and a refusal's
pub example_tick : (v : SafetyVerdict) → v.seq ≡ 0 → v.t ≡ 0 → v.state ≡ Fault → v.reason ≡ FaultSchema → v.trips ≡ 256 → v.action_src ≡ Hold → v.brake_margin ≡ nan
    → tick_text v ≡ ascii "tick 0 0 7 18 256 3 none\n"
unfolding tick_text margin_text margin_of decimal_in
example_tick v seq t state reason trips src margin = rw (seq, t, state, reason, trips, src, margin) refl

pub example_end : (t : Tally) → t.ticks ≡ 1 → stopped_of t ≡ 1 → end_text t ≡ ascii "end 1 1\n"
unfolding end_text decimal_in stopped_of
example_end t ticks stopped = rw (ticks, stopped) refl

pub example_refused : refused_text 5 18446744073709551615 ≡ ascii "refused 5 18446744073709551615\n"
unfolding refused_text decimal_in
example_refused = refl
