-- Each line by its number; there are no others.
use native.Mathlib.Omega.{arith}
use mathlib.Core.List.{[]}
use mathlib.Core.Path.{sym, ap, ◌∙◌}
use lib.ListN.{get_or-eq_default}
use Rattle.text.specs.Line.{line_of}
use Rattle.text.specs.Commas.{floats_text}
use Rattle.trace_text.specs.Trace.{verdict_lines}
use Rattle.trace_text.proofs.Codes.{reason_is, source_is, state_is, status_is}
use Rattle.trace_text.proofs.verdict.verdict_line.Goals as goal

pub returns-in-0 : goal.returns-in-0
unfolding verdict_lines
returns-in-0 c = rw c.in-0.is c.row.ensures

pub returns-in-1 : goal.returns-in-1
unfolding verdict_lines
returns-in-1 c = rw c.in-1.is c.row-in-1.ensures

pub returns-in-2 : goal.returns-in-2
unfolding verdict_lines
returns-in-2 c = rw (c.in-2.is, ← status_is c.args.v.status) c.row-in-2.ensures

pub returns-in-3 : goal.returns-in-3
unfolding verdict_lines
returns-in-3 c = rw (c.in-3.is, ← state_is c.args.v.state) c.row-in-3.ensures

pub returns-in-4 : goal.returns-in-4
unfolding verdict_lines
returns-in-4 c = rw (c.in-4.is, ← state_is c.args.v.prev_state) c.row-in-4.ensures

pub returns-in-5 : goal.returns-in-5
unfolding verdict_lines
returns-in-5 c = rw c.in-5.is c.row-in-5.ensures

pub returns-in-6 : goal.returns-in-6
unfolding verdict_lines floats_text
returns-in-6 c = rw c.in-6.is c.list_row.ensures

pub returns-in-7 : goal.returns-in-7
unfolding verdict_lines
returns-in-7 c = rw c.in-7.is c.row-in-7.ensures

pub returns-in-8 : goal.returns-in-8
unfolding verdict_lines
returns-in-8 c = rw (c.in-8.is, ← source_is c.args.v.action_src) c.row-in-8.ensures

pub returns-in-9 : goal.returns-in-9
unfolding verdict_lines
returns-in-9 c = rw c.in-9.is c.row-in-9.ensures

pub returns-in-10 : goal.returns-in-10
unfolding verdict_lines
returns-in-10 c = rw c.in-10.is c.row-in-10.ensures

pub returns-in-11 : goal.returns-in-11
unfolding verdict_lines floats_text
returns-in-11 c = rw c.in-11.is c.list_row-in-11.ensures

pub returns-in-12 : goal.returns-in-12
unfolding verdict_lines
returns-in-12 c = rw c.in-12.is c.row-in-12.ensures

pub returns-in-13 : goal.returns-in-13
unfolding verdict_lines
returns-in-13 c = rw c.in-13.is c.row-in-13.ensures

pub returns-in-14 : goal.returns-in-14
unfolding verdict_lines
returns-in-14 c = rw c.in-14.is c.row-in-14.ensures

pub returns-in-15 : goal.returns-in-15
unfolding verdict_lines
returns-in-15 c = rw c.in-15.is c.row-in-15.ensures

pub returns-in-16 : goal.returns-in-16
unfolding verdict_lines
returns-in-16 c = rw c.in-16.is c.row-in-16.ensures

pub returns-in-17 : goal.returns-in-17
unfolding verdict_lines
returns-in-17 c = rw c.in-17.is c.row-in-17.ensures

pub returns-in-18 : goal.returns-in-18
unfolding verdict_lines
returns-in-18 c = rw c.in-18.is c.row-in-18.ensures

pub returns-in-19 : goal.returns-in-19
unfolding verdict_lines
returns-in-19 c = rw (c.in-19.is, ← reason_is c.args.v.reason) c.row-in-19.ensures

pub returns-in-20 : goal.returns-in-20
unfolding verdict_lines
returns-in-20 c = rw c.in-20.is c.row-in-20.ensures

pub returns-in-21 : goal.returns-in-21
unfolding verdict_lines
returns-in-21 c = rw c.in-21.is c.row-in-21.ensures

pub returns-in-22 : goal.returns-in-22
unfolding verdict_lines
returns-in-22 c = rw c.in-22.is c.row-in-22.ensures

pub returns-in_default : goal.returns-in_default
unfolding verdict_lines
returns-in_default c = c.new.ensures ∙ ap line_of (sym (get_or-eq_default (verdict_lines c.args.v) [] {n = c.args.at} (omega arith)))
