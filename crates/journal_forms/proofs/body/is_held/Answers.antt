use mathlib.Core.Path.{sym, ◌∙◌}
use native.Mathlib.Omega.{arith}
use Rattle.journal_forms.proofs.Held.{next_run, run_there, left_more, left_fails, left_end}
use Rattle.journal_forms.proofs.body.is_held.Goals as goal

pub overflow_add-at : goal.overflow_add-at
overflow_add-at c = omega (arith, run_there c.args.from c.args.runs.now c.args.body.now _ _ c.loop-run.invariant _ (next_run c.args.runs.now c.loop-run.run-index c.loop-run-test.true) c.requires)

pub floats_held-requires : goal.floats_held-requires
floats_held-requires c = omega (arith, run_there c.args.from c.args.runs.now c.args.body.now _ _ c.loop-run.invariant _ (next_run c.args.runs.now c.loop-run.run-index c.loop-run-test.true) c.requires)

pub run_bytes-at-requires : goal.run_bytes-at-requires
run_bytes-at-requires c = omega (arith, run_there c.args.from c.args.runs.now c.args.body.now _ _ c.loop-run.invariant _ (next_run c.args.runs.now c.loop-run.run-index c.loop-run-test.true) c.requires)

pub overflow_add-at-in-loop-run : goal.overflow_add-at-in-loop-run
overflow_add-at-in-loop-run c = omega (arith, c.run_bytes-at.ensures, run_there c.args.from c.args.runs.now c.args.body.now _ _ c.loop-run.invariant _ (next_run c.args.runs.now c.loop-run.run-index c.loop-run-test.true) c.requires)

pub returns-then-not-floats_held : goal.returns-then-not-floats_held
returns-then-not-floats_held c = grind (arith, run_there c.args.from c.args.runs.now c.args.body.now _ _ c.loop-run.invariant _ (next_run c.args.runs.now c.loop-run.run-index c.loop-run-test.true) c.requires) ∙ left_fails c.args.from c.args.runs.now c.args.body.now _ _ c.loop-run.invariant _ (next_run c.args.runs.now c.loop-run.run-index c.loop-run-test.true) (sym c.floats_held.ensures ∙ c.if-not-floats_held.true)

pub loop-run-preserved : goal.loop-run-preserved
loop-run-preserved c = left_more c.args.from c.args.runs.now c.args.body.now _ _ c.loop-run.invariant _ (next_run c.args.runs.now c.loop-run.run-index c.loop-run-test.true) (sym c.floats_held.ensures ∙ c.if-not-floats_held.false) _ c.run_bytes-at.ensures

pub returns : goal.returns
returns c = left_end c.args.from c.args.runs.now c.args.body.now _ _ c.loop-run.invariant c.loop-run-test.false
