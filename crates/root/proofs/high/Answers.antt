-- `root::high` meets its contract. Assumes nothing.
use Rattle.root.proofs.Steps.{high_is}
use Rattle.root.proofs.high.Goals as goal

pub returns : goal.returns
returns c = high_is c.args.x c.args.y
