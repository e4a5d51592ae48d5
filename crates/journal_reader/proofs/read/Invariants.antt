use Prim.Native.Nat.{◌-◌}
use lib.ListN.{length}
use Rattle.stream.specs.Stream.{Reached}
use Rattle.journal_reader.specs.Reading.{on_bytes}
use Rattle.journal_reader.proofs.read.Given as goal

abbrev pub invariant-stretches : goal.invariant-stretches
invariant-stretches l = Reached (on_bytes l.kinds) (record { reader = l.fn.rd; lists = l.fn.lists }) l.s 0 (record { reader = l.reader; lists = l.lists }) l.at

abbrev pub decreases-stretches : goal.decreases-stretches
decreases-stretches l = length l.s - l.at
