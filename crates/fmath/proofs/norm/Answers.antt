-- `fmath::norm` meets its contract: the squares passed are in `sum`, and those left are still to be
-- added. Assumes nothing.
use mathlib.Core.Path.{sym, ap, ◌∙◌}
use lib.Ieee.{of_bits}
use Rattle.fmath.specs.Root.{root_of}
use Rattle.fmath.specs.Float.{norm_of}
use Rattle.fmath.proofs.Lists.{squares_on, squares_end}
use Rattle.fmath.proofs.norm.Goals as goal

pub loop-x-init : goal.loop-x-init
unfolding of_bits
loop-x-init c = cc

pub loop-x-preserved : goal.loop-x-preserved
loop-x-preserved c = let k = c.in-Some.ensures.steps in c.loop-x.invariant ∙ squares_on _ _ _ _ _ _ k.0 k.1

pub returns : goal.returns
unfolding norm_of
returns c = c.sqrt.ensures ∙ ap root_of (sym (c.loop-x.invariant ∙ squares_end _ _ _ (λ p. (c.in-None.ensures.steps p).0)))
