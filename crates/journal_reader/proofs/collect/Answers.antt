-- Each turn takes one small record, or finds that there is none.
use Prim.Native.Nat.{◌+◌, ◌<◌}
use mathlib.Core.Path.{sym}
use native.Mathlib.Omega.{arith}
use lib.ListN.{length}
use Rattle.stream.proofs.Stream.{reached_none, reached_on}
use Rattle.journal_reader.proofs.Reading.{machine}
use Rattle.journal_reader.proofs.Steps.{found_is, found_there, reached_small}
use Rattle.journal_reader.proofs.collect.Goals as goal
use Rattle.journal_reader.proofs.collect.Goals.{In-Found}

found : (c : In-Found) → c.records.at + c.in-Found.n < length c.args.s.now
found c = found_there _ c.records.waiting c.records.lists _ _ _ _ c.records.invariant.within (sym c.in-Found.ensures)

pub records-init : goal.records-init
records-init c = record { reached = λ o. reached_none _ (machine _) _ _ _ c.requires; within = c.requires }

pub add-requires : goal.add-requires
add-requires c = (found_is _ _ _ _ _ (sym c.in-Found.ensures)).room

pub returns-in_default-add : goal.returns-in_default-add
returns-in_default-add c = record { reached = λ o. rw c.in_default-add.ensures.1 (c.records.invariant.reached o); other = c.in_default-add.ensures.0; look = c.in-Found.ensures }

pub overflow_add-at : goal.overflow_add-at
overflow_add-at c = omega (arith, found (goal.at.overflow_add-at c).In-Found)

pub overflow_add-at-in-records : goal.overflow_add-at-in-records
overflow_add-at-in-records c = omega (arith, found (goal.at.overflow_add-at-in-records c).In-Found)

pub records-smaller : goal.records-smaller
records-smaller c = omega (arith, found (goal.at.records-smaller c).In-Found)

pub records-preserved : goal.records-preserved
records-preserved c = record {
  reached = λ o. reached_on _ (machine _) (c.records.invariant.reached o) (reached_small _ _ _ _ _ _ _ _ _ c.records.invariant.within (sym c.in-Found.ensures) c.in-Some.ensures o);
  within = omega (arith, found (goal.at.records-preserved c).In-Found);
}
