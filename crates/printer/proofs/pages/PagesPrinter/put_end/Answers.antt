use Rattle.text.proofs.Puts.{put_none}
use Rattle.printer.proofs.pages.PagesPrinter.put_end.Goals as goal

pub returns : goal.returns
returns c h = put_none _ _
