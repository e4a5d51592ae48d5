-- `fmath::min` meets its contract. Assumes nothing.
use mathlib.Core.Path.{sym}
use Rattle.fmath.proofs.Order.{min_less, min_not_less}
use Rattle.fmath.proofs.min.Goals as goal

pub returns-then-a-b : goal.returns-then-a-b
returns-then-a-b c = sym (min_less _ _ c.if-a-b.true)

pub returns-else-a-b : goal.returns-else-a-b
returns-else-a-b c = sym (min_not_less _ _ c.if-a-b.false)
