-- What the reader's own functions promise each other: one record, a run of records that only wait,
-- one turn of the reader. It joins the code of `journal_reader` to specs/Reading, and states
-- nothing of the papers.
use Rattle.std.specs.Prelude.{Ok, Err, Option, Some, None, Bool, true, false, List, ◌≡◌, ℕ, suc, ◌<◌, length, drop, get_or, Float}
use Rattle.lictor_core.specs.declared.outcome.Outcome as O
use Rattle.journal_records.specs.declared.Record.{Record}
use Rattle.journal_records.specs.declared.Record.TheVariants.{Settings, Reset, Ack, Head, Value, Outcome, Tick, Width}
use Rattle.journal_records.specs.Body.{decode_of}
use Rattle.journal_frames.specs.declared.Frame.{Frame}
use Rattle.journal_frames.specs.declared.Frame.TheVariants as F
use Rattle.journal_frames.specs.Frames.{body_of, frame_of}
use Rattle.journal_refusals.specs.declared.Seen.{Seen}
use Rattle.journal_refusals.specs.declared.Refusal.{Refusal}
use Rattle.journal_refusals.specs.declared.Refusal.TheVariants.{UnknownKind}
use Rattle.journal_refusals.specs.Table.{Judged, whole_of}
use Rattle.journal_refusals.specs.Causes.{capacities, count_of}
use Rattle.journal_reader.specs.declared.waiting.Waiting.{Waiting}
use Rattle.journal_reader.specs.declared.Look.{Look}
use Rattle.journal_reader.specs.declared.Look.TheVariants as L
use Rattle.journal_reader.specs.declared.Took.{Took}
use Rattle.journal_reader.specs.declared.What.{What}
use Rattle.journal_reader.specs.declared.What.TheVariants as W
use Rattle.stream.specs.Stream.{Next, wait, halt, go, Reached}
use Rattle.journal_reader.specs.State.{State, input_of}
use Rattle.journal_reader.specs.Reading.{Instruction, on_record, on_bytes}

abbrev pub state_with : Waiting → O.Outcome → List Float → State
state_with w o l = record { reader = record { waiting = w; outcome = o }; lists = l }

-- ---- the record at the front

-- refused, or the record and the length of its body
abbrev pub look_as : ℕ → List ℕ → ℕ → Judged → Look
look_as k b n (Err r) = L.Refuses r
look_as k b n (Ok _) = L.Found (decode_of k b) n

abbrev pub look_in : Seen → List ℕ → Frame → Look
look_in seen s F.Waits = L.Waits
look_in seen s F.Unknown = L.Refuses UnknownKind
look_in seen s (F.Whole k n) = look_as k (body_of n s) n (whole_of seen k (body_of n s))

unfoldable pub look_of : List ℕ → Seen → List ℕ → Look
look_of kinds seen s = look_in seen s (frame_of kinds s)

-- and what the reader does with it
abbrev pub on_look : State → List ℕ → Look → Next State Instruction Refusal
on_look st s L.Waits = wait
on_look st s (L.Refuses r) = halt r
on_look st s (L.Found r n) = on_record st (body_of n s) (suc n) r

-- ---- what the functions leave each other

-- where it is a value, its list has room
abbrev pub Room : Seen → Record → Type 0
Room seen r = (c : ℕ) (x : Float) → r ≡ Value c x → (c < length capacities) × (count_of seen c < get_or capacities c 0)

-- a record that waits and is small: an acknowledgement, a head or a value
abbrev pub is_small : Record → Bool
is_small Settings = false
is_small Reset = false
is_small (Ack a) = true
is_small (Head h) = true
is_small (Value c x) = true
is_small Outcome = false
is_small (Tick t) = false
is_small (Width w) = false

abbrev pub looks_small : Look → Bool
looks_small L.Waits = false
looks_small (L.Refuses r) = false
looks_small (L.Found r n) = is_small r

-- a small record was added to what waits, or it is not small, and the lists are as they were
abbrev pub Added : Waiting → List Float → Record → Option Waiting → List Float → Type 0
Added w l x None l' = (is_small x ≡ false) × (l' ≡ l)
Added w l x (Some w') l' = (o : O.Outcome) (b : List ℕ) (n : ℕ) → on_record (state_with w o l) b n x ≡ go (state_with w' o l') n

-- all small records from place `at` on were added, whatever outcome waits, and what is after them
-- is none
pub record Collected (kinds : List ℕ) (w : Waiting) (l : List Float) (s : List ℕ) (at : ℕ) (r : Took) (l' : List Float) : Type 0 where
  pub reached : (o : O.Outcome) → Reached (on_bytes kinds) (state_with w o l) s at (state_with r.waiting o l') r.at
  pub other : looks_small r.look ≡ false
  pub look : r.look ≡ look_of kinds r.waiting.seen (drop r.at s)

-- what a record that is not small, and no outcome, comes to
abbrev pub instructs_as : Waiting → Record → What
instructs_as w Settings = W.Begins
instructs_as w Reset = W.Resets
instructs_as w (Ack a) = W.Waits
instructs_as w (Head h) = W.Waits
instructs_as w (Value c x) = W.Waits
instructs_as w Outcome = W.Waits
instructs_as w (Tick t) = W.Ticks (input_of w t)
instructs_as w (Width x) = W.GivesWidth x
