use mathlib.Core.Path.{refl}
use Rattle.player.proofs.Feeding.{obeys}
use Rattle.player.proofs.give_width.Goals as goal

pub returns : goal.returns
returns g c = rw c.with_width-reader.ensures (obeys _ c.args.p _ _ _ refl _ refl _ c.requires _ _ c.width_given-shown.ensures)
