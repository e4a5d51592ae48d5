use mathlib.Core.Path.{sym, ◌∙◌}
use borrow.Author.Tests.{leb-true}
use Rattle.text.proofs.Puts.{no_room, with_room}
use Rattle.report.proofs.render.show_trace.Goals as goal

pub put_trace-requires : goal.put_trace-requires
put_trace-requires c = leb-true _ _ (sym c.has_room.ensures ∙ c.if-has_room.true)

pub returns-then-has_room : goal.returns-then-has_room
returns-then-has_room c = let asked = c in
    with_room _ _ _ _ (sym asked.has_room.ensures ∙ asked.if-has_room.true) _ _ c.put_trace.ensures

pub returns : goal.returns
returns c = no_room _ _ _ _ (sym c.has_room.ensures ∙ c.if-has_room.false)
