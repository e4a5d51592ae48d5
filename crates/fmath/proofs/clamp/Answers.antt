-- `fmath::clamp` meets its contract. Assumes nothing.
use Rattle.fmath.specs.Float.{clamp_of}
use Rattle.fmath.proofs.clamp.Goals as goal

pub returns : goal.returns
unfolding clamp_of
returns c = rw (c.max.ensures, c.min.ensures)
