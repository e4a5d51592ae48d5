use Rattle.margin.proofs.Double.{none_left}
use Rattle.margin.proofs.millis.Goals as goal

pub returns-then-k-gt63 : goal.returns-then-k-gt63
returns-then-k-gt63 c = none_left _ _ c.requires.0 c.if-k-gt63.true
