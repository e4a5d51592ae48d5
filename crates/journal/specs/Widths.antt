-- A width has no part in the fuse (02-change-requests.md, Ask 7): it changes no run state, no tally
-- and nothing of what was collected, so a journal comes to the same without its record.
-- The first claim is proved in proofs/Widths, `widths_idle`, the second in proofs/WithoutWidth,
-- `as_without`.
use Rattle.std.specs.Prelude.{Bool, true, false, cond, List, [], ◌∷◌, ◌++◌, ◌≡◌, ℕ, suc, ◌+◌, length}
use Rattle.journal_frames.specs.Frames.{body_len}
use Rattle.journal_records.specs.Little.{byte_at}
use Rattle.journal_records.specs.Kinds.{width_kind}
use Rattle.journal_refusals.specs.declared.Refusal.{Refusal}
use Rattle.journal_refusals.specs.Table.{Accepted, judged_of}
use Rattle.journal_reader.specs.State.{State, seen_in, width_came}
use Rattle.journal_reader.specs.Reading.{Instruction, begin, restart, tick, width, with_reader}
use Rattle.journal.specs.declared.tick.Run.{Run}
use Rattle.journal.specs.Events.{run_after_all, Event, began, restarted, ticked, width_given, events_from}
use Rattle.journal.specs.Journal.{Ending, ended, refused, Meaning, journal_of}

-- ---- instructions and events

abbrev pub is_width : Instruction → Bool
is_width (begin s) = false
is_width restart = false
is_width (tick c) = false
is_width (width w) = true

abbrev pub tells_width : Event → Bool
tells_width (began run) = false
tells_width (restarted run) = false
tells_width (ticked t) = false
tells_width (width_given run w) = true

-- a list, except the elements that are so
abbrev pub except : {A : Type 0} → (A → Bool) → List A → List A
except f [] = []
except f (x ∷ xs) = cond (f x) (except f xs) (x ∷ except f xs)

-- the instructions that the fuse obeys, and its own events
abbrev pub for_fuse : List Instruction → List Instruction
for_fuse is = except is_width is

abbrev pub of_fuse : List Event → List Event
of_fuse es = except tells_width es

-- the fuse after some instructions, and its events, are those without the widths
pub record Idle (r : Run) (is : List Instruction) : Type 0 where
  pub run : run_after_all r is ≡ run_after_all r (for_fuse is)
  pub events : of_fuse (events_from r is) ≡ events_from r (for_fuse is)

abbrev pub WidthsIdle : Type 0
WidthsIdle = (r : Run) (is : List Instruction) → Idle r is

-- ---- bytes: a journal with a width, and the same without its record

-- `front`, then a width with this body, then `back`
abbrev pub with_width : List ℕ → List ℕ → List ℕ → List ℕ
with_width front body back = front ++ (width_kind ∷ (body ++ back))

-- `front` is a journal that ends with nothing refused; after it a width with this body is whole, and
-- is accepted
pub record WidthTaken (kinds front body : List ℕ) : Type 0 where
  pub before : (journal_of kinds front).ending ≡ ended
  pub whole : length body ≡ body_len kinds width_kind
  pub accepted : judged_of kinds (seen_in (journal_of kinds front).left.state) width_kind body ≡ Accepted

-- and no second width is come to
pub record OneWidth (kinds front body back : List ℕ) : Type 0 where
  pub taken : WidthTaken kinds front body
  pub no_second : (r : Refusal) (p : ℕ) → (journal_of kinds (with_width front body back)).ending ≡ refused r p
      → byte_at (with_width front body back) p ≡ width_kind → ⊥

-- an ending whose place is n bytes further on
abbrev pub further : ℕ → Ending → Ending
further n ended = ended
further n (refused r p) = refused r (p + n)

-- the same collected records and lists, of a reader that has seen a width
abbrev pub measured : State → State
measured st = with_reader st (width_came st.reader)

-- m has the events and the fuse of m', what it collected, and its ending, the place by n bytes
-- further on
pub record FurtherOn (n : ℕ) (m m' : Meaning) : Type 0 where
  pub events : of_fuse m.events ≡ of_fuse m'.events
  pub run : m.left.run ≡ m'.left.run
  pub state : m.left.state ≡ measured m'.left.state
  pub ending : m.ending ≡ further n m'.ending

abbrev pub AsWithout : Type 0
AsWithout = (kinds front body back : List ℕ) → OneWidth kinds front body back
    → FurtherOn (suc (length body)) (journal_of kinds (with_width front body back)) (journal_of kinds (front ++ back))
