use native.Mathlib.Omega.{arith}
use Rattle.journal_forms.specs.Forms.{other}
use Rattle.journal_forms.proofs.Held.{next_run}
use Rattle.journal_forms.proofs.Putting.{part_from, run_asks, runs_more, runs_all}
use Rattle.journal_forms.proofs.body.put_body.Goals as goal

pub put_run-end-requires : goal.put_run-end-requires
put_run-end-requires c = run_asks c.args.from (other c.args.from) c.args.runs.now c.args.body.now c.args.out.now c.args.n c.requires.0 c.requires.1 _ _ _ _ c.loop-run.invariant _ (next_run c.args.runs.now c.loop-run.run-index c.loop-run-test.true)

pub run_bytes-at-requires : goal.run_bytes-at-requires
run_bytes-at-requires c = omega (arith, (run_asks c.args.from (other c.args.from) c.args.runs.now c.args.body.now c.args.out.now c.args.n c.requires.0 c.requires.1 _ _ _ _ c.loop-run.invariant _ (next_run c.args.runs.now c.loop-run.run-index c.loop-run-test.true)).0)

pub overflow_add-at : goal.overflow_add-at
overflow_add-at c = omega (arith, c.run_bytes-at.ensures, (run_asks c.args.from (other c.args.from) c.args.runs.now c.args.body.now c.args.out.now c.args.n c.requires.0 c.requires.1 _ _ _ _ c.loop-run.invariant _ (next_run c.args.runs.now c.loop-run.run-index c.loop-run-test.true)).0)

pub loop-run-preserved : goal.loop-run-preserved
loop-run-preserved c = runs_more c.args.from (other c.args.from) c.args.runs.now c.args.body.now c.args.out.now c.args.n c.requires.0 c.requires.1 _ _ _ _ c.loop-run.invariant _ (next_run c.args.runs.now c.loop-run.run-index c.loop-run-test.true) _ c.run_bytes-at.ensures _ _ c.put_run-end.ensures c.put_run-end.auto.out

pub returns : goal.returns
returns c = runs_all c.args.from (other c.args.from) c.args.runs.now c.args.body.now c.args.out.now c.args.n c.requires.0 c.requires.1 _ _ _ _ c.loop-run.invariant c.loop-run-test.false _ (part_from c.args.body.now c.loop-run.at) _ _ c.put_part.ensures
