use Rattle.std.proofs.Common.{◌≤◌, min}
use Rattle.lictor_core.specs.Rows.{RowBy}
use Rattle.lictor_core.proofs.rows.first_by.Given as goal

abbrev pub invariant-loop-at : goal.invariant-loop-at
invariant-loop-at g l = (l.at ≤ 8) × RowBy (λ i y. goal.F-post g l.f i y) l.initial.out (min l.at (min l.n 8)) l.out
