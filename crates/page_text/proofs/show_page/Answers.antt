use mathlib.Core.Path.{sym, ◌∙◌}
use Rattle.text.specs.Line.{line_room}
use Rattle.text.proofs.Lines.{held_text}
use Rattle.text.proofs.Puts.{no_room}
use Rattle.page_text.specs.Rows.{page_row, as_line}
use Rattle.page_text.proofs.Rows.{page_row_fits}
use Rattle.page_text.proofs.show_page.Goals as goal

pub returns-then-not-has_room : goal.returns-then-not-has_room
returns-then-not-has_room c =
    let m = no_room line_room _ _ _ (sym c.has_room.ensures ∙ c.if-not-has_room.true) in
    record { ends = m.0; memory = m.1 }

pub returns : goal.returns
returns c =
    let n = c.args.number in
    let shown = rw (held_text _ (as_line (page_row n)) (page_row_fits n) c.page_line.ensures) at c.show_line.ensures in
    record { ends = shown.0; memory = shown.1 }
