use mathlib.Core.Path.{refl, sym, ◌∙◌}
use Rattle.player.specs.Play.{goes_on_of}
use Rattle.player.proofs.goes_on.Goals as goal

pub returns-then-has_room : goal.returns-then-has_room
unfolding goes_on_of
returns-then-has_room c = rw (sym c.has_room.ensures ∙ c.if-has_room.true) refl

pub returns-else-has_room : goal.returns-else-has_room
unfolding goes_on_of
returns-else-has_room c = rw (sym c.has_room.ensures ∙ c.if-has_room.false) c.if-has_room.false
