use mathlib.Core.Path.{sym, ◌∙◌}
use Rattle.printer.proofs.Rooms.{row_alone, row_closes}
use Rattle.printer.proofs.pages.PagesPrinter.put_tick.Goals as goal

pub returns-then-fills_page : goal.returns-then-fills_page
returns-then-fills_page c h = row_closes c.args.notes _ _ _ h _ _ c.show_row-end.ensures (sym c.fills_page.ensures ∙ c.if-fills_page.true) c.show_row-end.auto.out
    _ _ c.show_page.ensures

pub returns : goal.returns
returns c h = row_alone c.args.notes _ _ _ h _ _ c.show_row-end.ensures (sym c.fills_page.ensures ∙ c.if-fills_page.false)
