-- Laws of events: each tells the fuse that its instruction leaves; one list of instructions, and
-- then another.
use mathlib.Core.Path.{◌≡◌, refl, ap}
use mathlib.Core.List.{List, [], ◌∷◌, ◌++◌}
use Rattle.lictor_fuse.specs.Decide.{decide_by, decide_of}
use Rattle.journal_reader.specs.Reading.{Brought, Instruction, begin, restart, tick, width}
use Rattle.journal.specs.declared.tick.Run.{Run}
use Rattle.journal.specs.Events.{decided_of, run_after, run_after_all, Event, ticked, EventsTell, report_of, event_of, events_from, reported_of}

pub event_run : EventsTell
unfolding report_of
event_run r (begin s) = refl
event_run r restart = refl
event_run r (tick c) = refl
event_run r (width w) = refl

-- the verdict goes by the bits that are reported
pub decided_by_guard : (r : Run) (c : Brought) → decided_of r c ≡ decide_by r.config r.rt c.input c.outcome (report_of r c).guard c.pos c.vel
unfolding decided_of decide_of report_of
decided_by_guard r c = refl

-- ---- what `tick` answers: with what came for the tick, it is the event

module _ (r : Run) (c : Brought) where
  pub reported_event : event_of r (tick c)
      ≡ ticked (record { input = c.input; pos = c.pos; guard = (reported_of r c).guard; verdict = (reported_of r c).verdict; run = (reported_of r c).run })
  unfolding reported_of report_of
  reported_event = refl

  pub reported_run : (reported_of r c).run ≡ run_after r (tick c)
  unfolding reported_of report_of
  reported_run = refl

-- ---- one list, and then another

pub run_joined : (r : Run) (is js : List Instruction) → run_after_all r (is ++ js) ≡ run_after_all (run_after_all r is) js
run_joined r [] js = refl
run_joined r (i ∷ is) js = run_joined (run_after r i) is js

pub events_joined : (r : Run) (is js : List Instruction) → events_from r (is ++ js) ≡ events_from r is ++ events_from (run_after_all r is) js
events_joined r [] js = refl
events_joined r (i ∷ is) js = ap (λ (l : List Event). event_of r i ∷ l) (events_joined (run_after r i) is js)
