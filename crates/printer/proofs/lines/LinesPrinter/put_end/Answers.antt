use Rattle.report.proofs.Fits.{end_fits}
use Rattle.printer.proofs.Rooms.{line_put}
use Rattle.printer.proofs.lines.LinesPrinter.put_end.Goals as goal

pub returns : goal.returns
returns c h = line_put _ _ c.end_line.ensures (end_fits _) _ _ h _ _ c.put_line.ensures
