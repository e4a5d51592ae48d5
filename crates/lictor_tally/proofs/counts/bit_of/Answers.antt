use lib.Bits.{and_mask}
use Rattle.lictor_tally.specs.Counts.{bit_of}
use Rattle.lictor_tally.proofs.counts.bit_of.Goals as goal

pub returns : goal.returns
unfolding bit_of
returns c = rw (and_mask _ 1)
