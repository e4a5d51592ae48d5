-- `root::normed` meets its contract. Assumes nothing.
use Rattle.root.proofs.Steps.{moved_up}
use Rattle.root.proofs.normed.Goals as goal

pub overflow_sub-up : goal.overflow_sub-up
overflow_sub-up c = (moved_up c.args.t c.requires.0 c.requires.1).0

pub returns : goal.returns
returns c = (moved_up c.args.t c.requires.0 c.requires.1).1
