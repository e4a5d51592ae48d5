use Rattle.printer.proofs.Rooms.{line_there}
use Rattle.printer.proofs.lines.LinesPrinter.put_tick.Goals as goal

pub returns : goal.returns
returns c h = line_there _ _ _ h _ _ c.show_tick.ensures
