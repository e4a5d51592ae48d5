use mathlib.Core.Path.{refl}
use Rattle.printer.specs.Printer.{shown_text, remembered}
use Rattle.printer.proofs.Rooms.{silent}
use Rattle.printer.proofs.began.Goals as goal

pub returns : goal.returns
unfolding shown_text remembered
returns g c = silent _ _ _ _ refl refl
