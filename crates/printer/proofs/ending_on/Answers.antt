use Rattle.printer.proofs.Rooms.{on_output}
use Rattle.printer.proofs.ending_on.Goals as goal

pub returns : goal.returns
returns g c = on_output _ _
