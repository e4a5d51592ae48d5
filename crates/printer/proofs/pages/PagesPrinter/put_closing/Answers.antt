use Rattle.printer.proofs.Rooms.{closed_none, closed_page}
use Rattle.printer.proofs.pages.PagesPrinter.put_closing.Goals as goal

pub returns-then-notes-eq0 : goal.returns-then-notes-eq0
returns-then-notes-eq0 c h = closed_none c.args.notes _ c.if-notes-eq0.true

pub returns : goal.returns
returns c h = closed_page c.args.notes _ c.if-notes-eq0.false h _ _ c.show_page.ensures
