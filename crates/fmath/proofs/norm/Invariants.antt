use mathlib.Core.Path.{◌≡◌}
use lib.ListN.{take}
use Rattle.fmath.specs.Root.{plus_zero}
use Rattle.fmath.specs.Float.{add_squares}
use Rattle.fmath.proofs.norm.Given as goal

-- what is left to add is what the iterator still gives
abbrev pub invariant-loop-x : goal.invariant-loop-x
invariant-loop-x l = add_squares plus_zero (take l.n l.v) ≡ add_squares l.sum (take l.x-iterator.n l.x-iterator.iter.rest.now)
