-- `root::pattern` meets its contract. Assumes nothing.
use Rattle.root.proofs.Whole.{written}
use Rattle.root.proofs.pattern.Goals as goal

pub returns : goal.returns
returns c = written c.args.m c.args.e c.raised-g.result c.requires.0 c.requires.1 c.requires.2 c.requires.3 c.raised-g.ensures
