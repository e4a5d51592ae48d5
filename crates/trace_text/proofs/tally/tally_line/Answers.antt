-- Each line by its number; there are no others.
use native.Mathlib.Omega.{arith}
use mathlib.Core.List.{[]}
use mathlib.Core.Path.{sym, ap, ◌∙◌}
use lib.ListN.{get_or-eq_default}
use Rattle.text.specs.Line.{line_of}
use Rattle.text.specs.Commas.{floats_text, numbers_text}
use Rattle.trace_text.specs.Trace.{tally_lines}
use Rattle.trace_text.proofs.Codes.{state_is}
use Rattle.std.specs.Prelude.{ℕ, Option, None, Some, MatchOption, IsSomeAnd}
use Rattle.std.proofs.Common.{of_calls}
use mathlib.Core.Path.{◌≡◌}
use Rattle.lictor_core.specs.declared.reason.ReasonCode.{ReasonCode}
use Rattle.lictor_core.specs.Codes.{reason_code}
use Rattle.text.specs.Number.{decimal_of, optional_text}
use Rattle.trace_text.specs.Row.{reason_mark_text}
use Rattle.trace_text.proofs.tally.tally_line.Goals as goal

marked : (m : Option ReasonCode) (r : Option ℕ) (P : ReasonCode → ℕ → Type 0) → MatchOption m (r ≡ None) (λ w. IsSomeAnd r (P w))
    → ((w : ReasonCode) (n : ℕ) → P w n → n ≡ reason_code w) → optional_text decimal_of r ≡ reason_mark_text m
marked None r P h f = ap (optional_text decimal_of) h
marked (Some w) (Some n) P h f = ap decimal_of (f w n h)
marked (Some w) None P h f = absurd h

pub returns-in-0 : goal.returns-in-0
unfolding tally_lines
returns-in-0 c = rw c.in-0.is c.row.ensures

pub returns-in-1 : goal.returns-in-1
unfolding tally_lines
returns-in-1 c = rw c.in-1.is c.row-in-1.ensures

pub returns-in-2 : goal.returns-in-2
unfolding tally_lines
returns-in-2 c = rw c.in-2.is c.row-in-2.ensures

pub returns-in-3 : goal.returns-in-3
unfolding tally_lines
returns-in-3 c = rw c.in-3.is c.row-in-3.ensures

pub returns-in-4 : goal.returns-in-4
unfolding tally_lines
returns-in-4 c = rw c.in-4.is c.row-in-4.ensures

pub returns-in-5 : goal.returns-in-5
unfolding tally_lines
returns-in-5 c = rw c.in-5.is c.row-in-5.ensures

pub returns-in-6 : goal.returns-in-6
unfolding tally_lines
returns-in-6 c = rw c.in-6.is c.row-in-6.ensures

pub returns-in-7 : goal.returns-in-7
unfolding tally_lines
returns-in-7 c = rw c.in-7.is c.row-in-7.ensures

pub returns-in-8 : goal.returns-in-8
unfolding tally_lines
returns-in-8 c = rw c.in-8.is c.row-in-8.ensures

pub returns-in-9 : goal.returns-in-9
unfolding tally_lines
returns-in-9 c = rw c.in-9.is c.row-in-9.ensures

pub returns-in-10 : goal.returns-in-10
unfolding tally_lines
returns-in-10 c = rw c.in-10.is c.row-in-10.ensures

pub returns-in-11 : goal.returns-in-11
unfolding tally_lines
returns-in-11 c = rw c.in-11.is c.row-in-11.ensures

pub returns-in-12 : goal.returns-in-12
unfolding tally_lines
returns-in-12 c = rw c.in-12.is c.row-in-12.ensures

pub returns-in-13 : goal.returns-in-13
unfolding tally_lines
returns-in-13 c = rw c.in-13.is c.row-in-13.ensures

pub returns-in-14 : goal.returns-in-14
unfolding tally_lines
returns-in-14 c = rw c.in-14.is c.row-in-14.ensures

pub returns-in-15 : goal.returns-in-15
unfolding tally_lines
returns-in-15 c = rw c.in-15.is c.row-in-15.ensures

pub returns-in-16 : goal.returns-in-16
unfolding tally_lines numbers_text
returns-in-16 c = rw c.in-16.is c.list_row.ensures

pub returns-in-17 : goal.returns-in-17
unfolding tally_lines numbers_text
returns-in-17 c = rw c.in-17.is c.list_row-in-17.ensures

pub returns-in-18 : goal.returns-in-18
unfolding tally_lines
returns-in-18 c = rw c.in-18.is c.row-in-18.ensures

pub returns-in-19 : goal.returns-in-19
unfolding tally_lines
returns-in-19 c = rw (c.in-19.is, ← marked c.args.t.first_trip_reason c.map.result _ c.map.ensures.cases (λ w n h. search of_calls)) c.row-in-19.ensures

pub returns-in-20 : goal.returns-in-20
unfolding tally_lines
returns-in-20 c = rw c.in-20.is c.row-in-20.ensures

pub returns-in-21 : goal.returns-in-21
unfolding tally_lines
returns-in-21 c = rw c.in-21.is c.row-in-21.ensures

pub returns-in-22 : goal.returns-in-22
unfolding tally_lines
returns-in-22 c = rw c.in-22.is c.row-in-22.ensures

pub returns-in-23 : goal.returns-in-23
unfolding tally_lines
returns-in-23 c = rw c.in-23.is c.row-in-23.ensures

pub returns-in-24 : goal.returns-in-24
unfolding tally_lines floats_text
returns-in-24 c = rw c.in-24.is c.list_row-in-24.ensures

pub returns-in-25 : goal.returns-in-25
unfolding tally_lines
returns-in-25 c = rw (c.in-25.is, ← state_is c.args.t.terminal_state) c.row-in-25.ensures

pub returns-in_default : goal.returns-in_default
unfolding tally_lines
returns-in_default c = c.new.ensures ∙ ap line_of (sym (get_or-eq_default (tally_lines c.args.t) [] {n = c.args.at} (omega arith)))
