-- What a journal's bytes say, record by record (01-scope.md, Journal; of a width
-- 02-change-requests.md, Ask 7): instructions. The run state has no part in it. Which kinds there
-- are, and how long their bodies are, is the parameter `kinds` (journal_frames, specs/Frames).
use Rattle.std.specs.Prelude.{Ok, Err, List, ℕ, ◌+◌, Float}
use Rattle.lictor_core.specs.declared.envelope.Settings as S
use Rattle.lictor_core.specs.declared.fuse.TickInput.{TickInput}
use Rattle.lictor_core.specs.declared.outcome.Outcome as O
use Rattle.journal_records.specs.declared.Record.{Record}
use Rattle.journal_records.specs.declared.Record.TheVariants.{Settings, Reset, Ack, Head, Value, Outcome, Tick, Width}
use Rattle.journal_frames.specs.Frames.{OnWhole, by_frames}
use Rattle.journal_records.specs.Body.{decode_of}
use Rattle.journal_records.specs.Long.{settings_of, outcome_of}
use Rattle.journal_refusals.specs.declared.Refusal.{Refusal}
use Rattle.journal_refusals.specs.declared.Refusal.TheVariants.{UnknownKind}
use Rattle.journal_refusals.specs.Causes.{chunk_list, pos_list, vel_list, aux_list, ext_list}
use Rattle.journal_refusals.specs.Table.{Judged, whole_of}
use Rattle.journal_reader.specs.declared.waiting.Reader.{Reader}
use Rattle.journal_reader.specs.declared.What.{What}
use Rattle.journal_reader.specs.declared.What.TheVariants.{Waits, Refuses, Begins, Resets, Ticks, GivesWidth}
use Rattle.journal_reader.specs.declared.Progress.{Progress}
use Rattle.stream.specs.Stream.{Next, wait, halt, go, tell, size, advanced}
use Rattle.journal_reader.specs.State.{State, seen_in, ack_waits, head_waits, value_waits, stored, with_waiting, outcome_waits, settings_came, width_came, emptied, values_of, input_of}

-- ---- what a record does

-- what a tick is called with
pub record Brought : Type 0 where
  pub input : TickInput
  pub outcome : O.Outcome
  pub pos : List Float
  pub vel : List Float
  pub aux : List Float
  pub ext : List Float
  pub chunk : List Float

pub data Instruction : Type 0 where
  begin : S.Settings → Instruction
  restart : Instruction
  tick : Brought → Instruction
  width : Float → Instruction

-- a tick uses all that was collected
unfoldable pub brought_of : State → TickInput → Brought
brought_of st input =
    let seen = st.reader.waiting.seen in
    record {
      input = input;
      outcome = st.reader.outcome;
      pos = values_of seen st.lists pos_list;
      vel = values_of seen st.lists vel_list;
      aux = values_of seen st.lists aux_list;
      ext = values_of seen st.lists ext_list;
      chunk = values_of seen st.lists chunk_list;
    }

abbrev pub with_reader : State → Reader → State
with_reader st r = record { reader = r; lists = st.lists }

-- A record of n bytes, with body b, that is not refused. Settings, a reset and a tick instruct the
-- fuse, and a width is for whoever shows the events; a reset and a tick empty what was collected; the
-- others wait.
unfoldable pub on_record : State → List ℕ → ℕ → Record → Next State Instruction Refusal
on_record st b n Settings = tell (with_reader st (settings_came st.reader)) n (begin (settings_of b))
on_record st b n Reset = tell (with_reader st (emptied st.reader)) n restart
on_record st b n (Ack a) = go (with_reader st (with_waiting st.reader (ack_waits st.reader.waiting a))) n
on_record st b n (Head h) = go (with_reader st (with_waiting st.reader (head_waits st.reader.waiting h))) n
on_record st b n (Value c x) =
    go
    (record {
      reader = with_waiting st.reader (value_waits st.reader.waiting c);
      lists = stored st.lists st.reader.waiting.seen c x;
    })
    n
on_record st b n Outcome = go (with_reader st (outcome_waits st.reader (outcome_of b))) n
on_record st b n (Tick t) = tell (with_reader st (emptied st.reader)) n (tick (brought_of st (input_of st.reader.waiting t)))
on_record st b n (Width w) = tell (with_reader st (width_came st.reader)) n (width w)

-- ---- what bytes do

-- by what the table says of it
abbrev pub on_judged : State → List ℕ → ℕ → Record → Judged → Next State Instruction Refusal
on_judged st b n x (Err r) = halt r
on_judged st b n x (Ok _) = on_record st b n x

-- a record of kind k, with body b, that is there whole
unfoldable pub on_whole : OnWhole State Instruction Refusal
on_whole st k b n = on_judged st b n (decode_of k b) (whole_of (seen_in st) k b)

-- The record at the front of some bytes: one that is not there whole is waited for, which is no
-- refusal before the journal's end, and a kind that is not listed is refused.
unfoldable pub on_bytes : List ℕ → State → List ℕ → Next State Instruction Refusal
on_bytes kinds = by_frames kinds UnknownKind on_whole

-- ---- what the code answers

-- what comes next (settings hold arrays, and stay in the body of the record that comes next)
abbrev pub what_of : Next State Instruction Refusal → What
what_of wait = Waits
what_of (halt r) = Refuses r
what_of (go st n) = Waits
what_of (tell st n (begin s)) = Begins
what_of (tell st n restart) = Resets
what_of (tell st n (tick c)) = Ticks c.input
what_of (tell st n (width w)) = GivesWidth w

-- all records up to the next instruction: the reader there, the bytes up to there, what comes next,
-- and where that ends
unfoldable pub read_of : List ℕ → State → List ℕ → Progress
read_of kinds st s =
    let a = advanced (on_bytes kinds) st s in
    record { reader = a.state.reader; used = a.used; end = a.used + size a.next; what = what_of a.next }

unfoldable pub lists_read : List ℕ → State → List ℕ → List Float
lists_read kinds st s = (advanced (on_bytes kinds) st s).state.lists
