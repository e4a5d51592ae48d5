use mathlib.Core.Path.{refl}
use Rattle.proximity_text.specs.Near.{near}
use Rattle.proximity_text.proofs.is_near.Goals as goal

pub returns : goal.returns
unfolding near
returns c = refl
