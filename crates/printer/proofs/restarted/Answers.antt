use mathlib.Core.Path.{refl}
use Rattle.printer.specs.Printer.{shown_text, remembered}
use Rattle.printer.proofs.Rooms.{quiet}
use Rattle.printer.proofs.restarted.Goals as goal

pub returns : goal.returns
unfolding shown_text remembered
returns g c = rw c.silent.ensures (quiet _ _ _ _ refl _ c.after_reset.ensures)
