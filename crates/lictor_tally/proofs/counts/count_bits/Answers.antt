use Rattle.std.proofs.Common.{rules, arith}
use Rattle.std.proofs.Math.ListN.{length-set}
use Rattle.lictor_tally.proofs.Places.{each_none, each_more, each_done}
use Rattle.lictor_tally.proofs.CountsLaws.{bits_none}
use Rattle.lictor_tally.specs.Counts.{count_bit, count_bits}
use Rattle.lictor_tally.proofs.counts.count_bits.Goals as goal

pub loop-b-init : goal.loop-b-init
loop-b-init g c = search (rules, each_none)

pub loop-b-preserved : goal.loop-b-preserved
unfolding count_bit
loop-b-preserved g c = search (rules, each_more, length-set)

pub returns-after-loop-b : goal.returns-after-loop-b
unfolding count_bits
returns-after-loop-b g c = each_done (count_bit _) _ _ _ c.loop-b.invariant.1 (omega arith)

pub returns-else-mask-ne0 : goal.returns-else-mask-ne0
returns-else-mask-ne0 g c = bits_none _ _ c.if-mask-ne0.false
