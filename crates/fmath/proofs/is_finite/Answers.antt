use mathlib.Core.Path.{◌∙◌}
use Rattle.fmath.proofs.Lists.{finite_is}
use Rattle.fmath.proofs.is_finite.Goals as goal

pub returns : goal.returns
returns c = c.is_finite.ensures.value ∙ finite_is c.args.x
