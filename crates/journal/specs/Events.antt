-- What each instruction of a journal does to the fuse, and what it gives to whoever shows it
-- (01-scope.md, Journal; of a width 02-change-requests.md, Ask 7).
use Rattle.std.specs.Prelude.{List, [], ◌∷◌, ◌≡◌, ℕ, Float}
use Rattle.lictor_core.specs.declared.envelope.Settings.{Settings}
use Rattle.lictor_core.specs.declared.fuse.TickInput.{TickInput}
use Rattle.lictor_core.specs.declared.verdict.SafetyVerdict.{SafetyVerdict}
use Rattle.lictor_core.specs.Initial.{new_of, reset_of}
use Rattle.lictor_settings.specs.Settings.{config_of}
use Rattle.lictor_guard.specs.Guard.{guard_of}
use Rattle.lictor_fuse.specs.declared.decide.Decided.{Decided}
use Rattle.lictor_fuse.specs.Decide.{decide_of}
use Rattle.journal_reader.specs.Reading.{Brought, Instruction, begin, restart, tick, width}
use Rattle.journal.specs.declared.tick.Run.{Run}
use Rattle.journal.specs.declared.tick.Reported.{Reported}

-- ---- what an instruction does to the fuse

-- settings give the run state of `new`
unfoldable pub begun_of : Settings → Run
begun_of s = record { config = config_of s; rt = new_of }

unfoldable pub restarted_of : Run → Run
restarted_of r = record { config = r.config; rt = reset_of r.rt }

-- a tick, on all that was collected for it
unfoldable pub decided_of : Run → Brought → Decided
decided_of r c = decide_of r.config r.rt c.input c.outcome c.pos c.vel c.aux c.ext c.chunk

unfoldable pub ticked_of : Run → Decided → Run
ticked_of r d = record { config = r.config; rt = d.rt }

-- the fuse after an instruction, and after a list of them; a width leaves it as it is
abbrev pub run_after : Run → Instruction → Run
run_after r (begin s) = begun_of s
run_after r restart = restarted_of r
run_after r (tick c) = ticked_of r (decided_of r c)
run_after r (width w) = r

abbrev pub run_after_all : Run → List Instruction → Run
run_after_all r [] = r
run_after_all r (i ∷ is) = run_after_all (run_after r i) is

-- ---- what it gives to whoever shows it

-- a tick: its input and its positions as they came, the bits that the guard found, the verdict, and
-- the fuse after it
pub record TickReport : Type 0 where
  pub input : TickInput
  pub pos : List Float
  pub guard : ℕ
  pub verdict : SafetyVerdict
  pub run : Run

-- settings and a reset give the fuse that they leave; a width gives the fuse as it is, and its number
pub data Event : Type 0 where
  began : Run → Event
  restarted : Run → Event
  ticked : TickReport → Event
  width_given : Run → Float → Event

-- the guard's bits are those that `decide_of` goes by
unfoldable pub report_of : Run → Brought → TickReport
report_of r c =
    let d = decided_of r c in
    record {
      input = c.input;
      pos = c.pos;
      guard = guard_of r.config r.rt.clock c.input c.pos c.vel c.aux c.ext c.chunk;
      verdict = d.verdict;
      run = ticked_of r d;
    }

-- the event of an instruction, and those of a list of them, one after the other
abbrev pub event_of : Run → Instruction → Event
event_of r (begin s) = began (begun_of s)
event_of r restart = restarted (restarted_of r)
event_of r (tick c) = ticked (report_of r c)
event_of r (width w) = width_given r w

abbrev pub events_from : Run → List Instruction → List Event
events_from r [] = []
events_from r (i ∷ is) = event_of r i ∷ events_from (run_after r i) is

-- the fuse that an event tells
abbrev pub run_told : Event → Run
run_told (began r) = r
run_told (restarted r) = r
run_told (ticked t) = t.run
run_told (width_given r w) = r

-- it is the one after the event's instruction (proofs/Events, event-run)
abbrev pub EventsTell : Type 0
EventsTell = (r : Run) (i : Instruction) → run_told (event_of r i) ≡ run_after r i

-- ---- what the code answers

-- a tick's report, but for what came, which is where it was lent
unfoldable pub reported_of : Run → Brought → Reported
reported_of r c =
    let t = report_of r c in
    record { guard = t.guard; verdict = t.verdict; run = t.run }
