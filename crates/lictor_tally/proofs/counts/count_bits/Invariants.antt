use Rattle.std.proofs.Common.{◌≡◌, length}
use Rattle.lictor_tally.proofs.Places.{each_to}
use Rattle.lictor_tally.specs.Counts.{count_bit}
use Rattle.lictor_tally.proofs.counts.count_bits.Given as goal

abbrev pub invariant-loop-b : goal.invariant-loop-b
invariant-loop-b g l = (length l.counts ≡ length l.initial.counts) × (l.counts ≡ each_to (count_bit l.mask) 0 l.b l.initial.counts)
