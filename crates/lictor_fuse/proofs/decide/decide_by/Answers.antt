use Rattle.lictor_fuse.proofs.One.{one_way}
use Rattle.lictor_fuse.proofs.decide.decide_by.Goals as goal

pub returns : goal.returns
returns c = rw (c.closed.ensures, c.close-end.ensures, c.stepped-done.ensures, c.ask-asked.ensures) (one_way _ _ _ _ _ _ _)
