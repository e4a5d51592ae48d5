use mathlib.Core.Path.{refl}
use Rattle.proximity_text.specs.Near.{inside}
use Rattle.proximity_text.proofs.is_inside.Goals as goal

pub returns : goal.returns
unfolding inside
returns c = refl
