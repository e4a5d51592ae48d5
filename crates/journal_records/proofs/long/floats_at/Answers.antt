-- One turn a float: the first i places hold theirs.
use native.Mathlib.Omega.{arith}
use Rattle.std.proofs.lemmas.List.{length-replicate}
use Rattle.journal_records.proofs.Filled.{filled_none, filled_more}
use Rattle.journal_records.proofs.long.floats_at.Goals as goal

pub loop-i-init : goal.loop-i-init
loop-i-init g c = filled_none _ _ _ _ (length-replicate _ _)

pub loop-i-preserved : goal.loop-i-preserved
loop-i-preserved g c = filled_more _ _ _ _ _ _ (omega (arith, c.loop-i.invariant.long)) c.loop-i.invariant c.f64_at.ensures
