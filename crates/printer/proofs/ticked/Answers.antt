use mathlib.Core.Path.{sym, ◌∙◌}
use borrow.Author.Tests.{leb-true}
use Rattle.printer.specs.Printer.{shown_text, remembered}
use Rattle.printer.proofs.Rooms.{not_shown, is_shown}
use Rattle.printer.proofs.ticked.Goals as goal

pub returns-then-has_room : goal.returns-then-has_room
unfolding shown_text remembered
returns-then-has_room g c = rw c.after_tick-after.ensures (is_shown _ _ _ _ (sym c.has_room.ensures ∙ c.if-has_room.true) _ _ (c.put_tick-end.ensures (leb-true _ _ (sym c.has_room.ensures ∙ c.if-has_room.true))))

pub returns : goal.returns
returns g c = not_shown _ _ _ _ (sym c.has_room.ensures ∙ c.if-has_room.false)
