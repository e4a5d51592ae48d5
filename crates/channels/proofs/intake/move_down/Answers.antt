use Rattle.std.proofs.Common.{arith, ◌∙◌}
use Rattle.channels.proofs.Moving.{moved_is, moved_none}
use Rattle.channels.proofs.intake.move_down.Goals as goal

pub returns-then-at-end : goal.returns-then-at-end
returns-then-at-end c = c.copy_within.ensures.after ∙ moved_is _ _ _ _ c.min-end.ensures

pub returns-else-at-end : goal.returns-else-at-end
returns-else-at-end c = moved_none _ _ _ _ c.min-end.ensures (omega (arith, c.if-at-end.false))
