use Prim.Native.Nat.{ℕ, min}
use mathlib.Core.Path.{ap}
use native.Mathlib.Nat.{add-sub_cancel_left}
use lib.ListN.{get_or, take, drop}
use Rattle.journal_refusals.specs.Causes.{capacities, count_of}
use Rattle.journal_reader.specs.State.{bases, values_of}
use Rattle.journal.proofs.tick.values.Goals as goal

pub returns : goal.returns
unfolding values_of
returns c = let a = c.args in
    let base = get_or bases a.c 0 in
    rw (c.base-from.ensures, c.min.ensures, c.capacity.ensures)
    (ap (λ (n : ℕ). take n (drop base a.lists.now)) (add-sub_cancel_left base (min (count_of a.seen a.c) (get_or capacities a.c 0))))
