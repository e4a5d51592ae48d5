use Rattle.std.proofs.Common.{rules, arith}
use Rattle.std.proofs.Math.ListN.{length-set}
use Rattle.lictor_tally.proofs.Places.{each_none, each_more, each_done}
use Rattle.lictor_tally.specs.Join.{sum_of, join_at, join_each, sum_each}
use Rattle.lictor_tally.proofs.joins.sum_each.Goals as goal

pub loop-k-init : goal.loop-k-init
loop-k-init g c = search (rules, each_none)

pub loop-k-preserved : goal.loop-k-preserved
unfolding join_at sum_of
loop-k-preserved g c = search (rules, each_more, length-set)

pub returns : goal.returns
unfolding sum_each join_each
returns g c = each_done (join_at sum_of 0 _) _ _ _ c.loop-k.invariant.1 (omega arith)
