use Rattle.std.proofs.Common.{◌≡◌, length}
use Rattle.lictor_tally.proofs.Places.{each_to}
use Rattle.lictor_tally.specs.Join.{sum_of, join_at}
use Rattle.lictor_tally.proofs.joins.sum_each.Given as goal

abbrev pub invariant-loop-k : goal.invariant-loop-k
invariant-loop-k g l = (length l.earlier ≡ length l.initial.earlier) × (l.earlier ≡ each_to (join_at sum_of 0 l.later) 0 l.k l.initial.earlier)
