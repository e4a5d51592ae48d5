-- Turn by turn, up to what the reader comes to.
use Prim.Native.Nat.{◌+◌, ◌<◌}
use mathlib.Core.Path.{◌≡◌, sym, ap, ◌∙◌}
use native.Mathlib.Omega.{arith}
use lib.ListN.{length, drop}
use Rattle.stream.specs.Stream.{Reached}
use Rattle.stream.proofs.Stream.{reached_none, reached_on}
use Rattle.journal_records.specs.Long.{outcome_of}
use Rattle.journal_reader.specs.Reading.{on_bytes}
use Rattle.journal_reader.specs.Steps.{state_with, look_of, looks_small}
use Rattle.journal_reader.specs.declared.Look.TheVariants.{Found}
use Rattle.journal_reader.proofs.Reading.{machine}
use Rattle.journal_reader.proofs.Steps.{body_part, found_there, reached_outcome, stops_waits, stops_refuses, stops_found, read_there}
use Rattle.journal_reader.proofs.read.Goals as goal
use Rattle.journal_reader.proofs.read.Goals.{After-collect-took, In-Found}

reach : (c : After-collect-took)
    → Reached (on_bytes c.args.kinds.now) (record { reader = c.args.rd; lists = c.args.lists.now }) c.args.s.now 0
    (state_with c.collect-took.result.waiting c.stretches.reader.outcome c.collect-took.new.lists) c.collect-took.result.at
reach c = reached_on _ (machine _) c.stretches.invariant (c.collect-took.ensures.reached c.stretches.reader.outcome)

found : (c : In-Found) → c.collect-took.result.at + c.in-Found.n < length c.args.s.now
found c = found_there _ c.collect-took.result.waiting c.collect-took.new.lists _ _ _ _ (c.collect-took.ensures.reached c.stretches.reader.outcome).within (sym c.collect-took.ensures.look ∙ c.in-Found.is)

pub stretches-init : goal.stretches-init
stretches-init c = reached_none _ (machine _) _ _ _ (omega arith)

pub returns-in-Waits : goal.returns-in-Waits
returns-in-Waits c = read_there _ _ _ _ _ _ _ _ _ (reach (goal.at.returns-in-Waits c).After-collect-took) (stops_waits _ _ _ _ _ _ (sym c.collect-took.ensures.look ∙ c.in-Waits.is))

pub returns-in-Refuses : goal.returns-in-Refuses
returns-in-Refuses c = read_there _ _ _ _ _ _ _ _ _ (reach (goal.at.returns-in-Refuses c).After-collect-took) (stops_refuses _ _ _ _ _ _ _ (sym c.collect-took.ensures.look ∙ c.in-Refuses.is))

pub overflow_add-end : goal.overflow_add-end
overflow_add-end c = omega (arith, found (goal.at.overflow_add-end c).In-Found)

pub returns-in_default : goal.returns-in_default
returns-in_default c = rw c.instruct.ensures
    (read_there _ _ _ _ _ _ _ _ _ (reach (goal.at.returns-in_default c).After-collect-took)
    (stops_found _ _ _ _ _ _ _ _ (sym c.collect-took.ensures.look ∙ c.in-Found.is) (sym (ap looks_small c.in-Found.is) ∙ c.collect-took.ensures.other) c.in_default.not-Outcome))

pub slice_bounds-read_outcome-end : goal.slice_bounds-read_outcome-end
slice_bounds-read_outcome-end c = omega (arith, found (goal.at.slice_bounds-read_outcome-end c).In-Found)

pub stretches-smaller : goal.stretches-smaller
stretches-smaller c = omega (arith, found (goal.at.stretches-smaller c).In-Found, (c.collect-took.ensures.reached c.stretches.reader.outcome).from)

pub stretches-preserved : goal.stretches-preserved
stretches-preserved c = let a = c.args in
    let t = c.collect-took.result in
    let e : look_of a.kinds.now t.waiting.seen (drop t.at a.s.now) ≡ Found c.in-Found.x c.in-Found.n = sym c.collect-took.ensures.look ∙ c.in-Found.is in
    rw c.with_outcome-reader.ensures
    (reached_on _ (machine _) (reach (goal.at.stretches-preserved c).After-collect-took)
    (reached_outcome _ _ _ _ _ _ _ _ (c.collect-took.ensures.reached c.stretches.reader.outcome).within (rw c.in-Outcome.is at e) (c.read_outcome.ensures ∙ ap outcome_of (body_part a.s.now t.at c.in-Found.n))))
