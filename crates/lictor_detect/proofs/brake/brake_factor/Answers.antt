use Rattle.lictor_detect.specs.Brake.{eps, share_left, brake_factor}
use lib.Ieee.{of_bits, round}
use Rattle.lictor_detect.proofs.brake.brake_factor.Goals as goal

pub returns : goal.returns
unfolding brake_factor share_left of_bits round eps
returns c = rw (c.max.ensures, c.norm-nv.ensures, c.min-2.ensures, c.min.ensures)
