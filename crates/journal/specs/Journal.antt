-- The meaning of a journal (01-scope.md, Journal): of a whole list of bytes, its events, how it
-- ends, and what is left. Which kinds of records there are is the parameter `kinds`: those of the
-- paper are journal_kinds (journal_records, specs/Kinds).
use Rattle.std.specs.Prelude.{List, [], ◌∷◌, ℕ, ◌-◌, length}
use Rattle.lictor_core.specs.Initial.{zeros}
use Rattle.journal_records.specs.Long.{settings_of}
use Rattle.journal_refusals.specs.declared.Refusal.{Refusal}
use Rattle.journal_refusals.specs.declared.Refusal.TheVariants.{CutBody}
use Rattle.stream.specs.Stream.{End, awaits, halted, settled}
use Rattle.journal_reader.specs.State.{State, places, start_reader}
use Rattle.journal_reader.specs.Reading.{on_bytes}
use Rattle.journal.specs.declared.tick.Run.{Run}
use Rattle.journal.specs.Events.{begun_of, run_after_all, Event, events_from}

-- all that a journal works on: the reader with the lent lists, and the fuse
pub record Left : Type 0 where
  pub state : State
  pub run : Run

-- the reader before the first byte
unfoldable pub start_state : State
start_state = record { reader = start_reader; lists = zeros places }

-- The fuse before the first byte. There is no configuration yet, and no tick before the settings:
-- zeros are in its place.
unfoldable pub start_run : Run
start_run = begun_of (settings_of [])

-- how a journal ends: at the end of the input, or with a refusal, at the place of its record's kind
-- byte
pub data Ending : Type 0 where
  ended : Ending
  refused : Refusal → ℕ → Ending

-- the meaning of a journal: its events, how it ends, and what is left: run state, collected records
-- and lists
pub record Meaning : Type 0 where
  pub events : List Event
  pub ending : Ending
  pub left : Left

-- at place p, with these bytes left: a record whose body the end cuts is refused too
abbrev pub ending_of : ℕ → List ℕ → End Refusal → Ending
ending_of p [] awaits = ended
ending_of p (k ∷ s) awaits = refused CutBody p
ending_of p s (halted r) = refused r p

-- Its instructions are what the reader tells, and the events are what these do to the fuse, one
-- after the other. The fuse has no part in what is told, nor in what is refused.
unfoldable pub journal_of : List ℕ → List ℕ → Meaning
journal_of kinds s =
    let a = settled (on_bytes kinds) start_state s in
    record {
      events = events_from start_run a.told;
      ending = ending_of (length s - length a.rest) a.rest a.end;
      left = record { state = a.state; run = run_after_all start_run a.told };
    }
