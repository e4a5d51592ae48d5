use native.Mathlib.Omega.{arith}
use mathlib.Core.Path.{◌≡◌, sym, ◌∙◌}
use mathlib.Core.List.{[]}
use Rattle.text.specs.Line.{line_room, bytes_of}
use Rattle.text.proofs.Lines.{line_text, push_line}
use Rattle.text.proofs.Puts.{no_room}
use Rattle.page_text.specs.Rows.{tick_row, as_line}
use Rattle.page_text.proofs.Rows.{tick_width, tick_row_fits}
use Rattle.page_text.proofs.show_row.Goals as goal

pub returns-then-not-has_room : goal.returns-then-not-has_room
returns-then-not-has_room c =
    let g = c.well_formed in
    let m = no_room line_room _ _ _ (sym c.has_room.ensures ∙ c.if-not-has_room.true) in
    record { ends = m.0; memory = m.1; width = tick_width c.args.v (record { seq = omega (arith, g); t = omega (arith, g); trips = omega (arith, g) }) }

pub returns : goal.returns
returns c =
    let g = c.well_formed in
    let v = c.args.v in
    let row = as_line (tick_row v) in
    let whole : bytes_of c.push_row.new.l ≡ row = rw (c.push_row.ensures, c.new-l.ensures, push_line [] row) (line_text row (tick_row_fits v)) in
    let shown = rw whole at c.show_line.ensures in
    record { ends = shown.0; memory = shown.1; width = tick_width v (record { seq = omega (arith, g); t = omega (arith, g); trips = omega (arith, g) }) }
