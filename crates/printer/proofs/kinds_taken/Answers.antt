use Rattle.printer.specs.Printer.{kinds_taken}
use Rattle.printer.proofs.kinds_taken.Goals as goal

pub returns : goal.returns
unfolding kinds_taken
returns g c = c.journal_kinds.ensures
