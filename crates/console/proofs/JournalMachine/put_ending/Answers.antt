use Rattle.printer.proofs.Rooms.{ending_there}
use Rattle.console.proofs.JournalMachine.put_ending.Goals as goal

pub returns : goal.returns
returns g c h = ending_there _ _ _ _ h c.ended.ensures
