use mathlib.Core.Path.{sym, ◌∙◌}
use borrow.Author.Tests.{leb-true}
use Rattle.text.proofs.Puts.{no_room, with_room}
use Rattle.proximity_text.specs.Lines.{lines_room}
use Rattle.proximity_text.proofs.show_lines.Goals as goal

pub put_lines-requires : goal.put_lines-requires
put_lines-requires c = leb-true _ _ (sym c.has_room.ensures ∙ c.if-has_room.true)

pub returns-then-has_room : goal.returns-then-has_room
returns-then-has_room c = let m = with_room lines_room _ _ _ (sym c.has_room.ensures ∙ c.if-has_room.true) _ _ c.put_lines.ensures in
    record { ends = m.0; memory = m.1 }

pub returns : goal.returns
returns c = let m = no_room lines_room _ _ _ (sym c.has_room.ensures ∙ c.if-has_room.false) in
    record { ends = m.0; memory = m.1 }
