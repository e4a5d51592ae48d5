use Rattle.std.proofs.Common.{arith, rules}
use Rattle.lictor_core.proofs.RowLaws.{by_start, by_took, by_left, by_done}
use Rattle.lictor_core.proofs.rows.first_by.Goals as goal
use Rattle.lictor_core.proofs.rows.first_by.Goals.{then-at-n, else-at-n}

pub loop-at-init : goal.loop-at-init
loop-at-init g c = (search rules, by_start _ _ _)

pub loop-at-preserved : goal.loop-at-preserved
loop-at-preserved g c = let kept = c.loop-at.invariant.1 in
    (search rules, elim c.if-at-n.branch [ then-at-n w ↦ by_took _ _ _ kept (omega arith) w.f.ensures w.out-is | else-at-n w ↦ by_left _ _ _ kept (omega arith) w.out-is ])

pub returns : goal.returns
returns g c = by_done _ _ _ c.loop-at.invariant.1 (omega arith)
