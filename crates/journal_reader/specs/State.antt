-- What a reader of a journal holds between records (01-scope.md, Journal; 02-change-requests.md, Ask
-- 7): what came once and for all, what waits for the next tick, and the lent memory of the collected
-- values.
use Rattle.std.specs.Prelude.{Bool, true, false, cond, List, [], ◌∷◌, ℕ, ◌+◌, ◌*◌, min, length, get_or, set, take, drop, replicate, Float, None, Some}
use Rattle.lictor_core.specs.declared.ack.VerifiedAck.{VerifiedAck}
use Rattle.lictor_core.specs.declared.chunk.ChunkHead.{ChunkHead}
use Rattle.lictor_core.specs.declared.fuse.TickInput.{TickInput}
use Rattle.lictor_core.specs.declared.outcome.Outcome.{Outcome}
use Rattle.journal_records.specs.declared.TickNumbers.{TickNumbers}
use Rattle.journal_records.specs.Body.{ack_of, head_of}
use Rattle.journal_records.specs.Long.{outcome_of}
use Rattle.journal_refusals.specs.declared.Seen.{Seen}
use Rattle.journal_refusals.specs.Causes.{chunk_room, list_room, capacities, count_of}
use Rattle.journal_reader.specs.declared.waiting.Waiting.{Waiting}
use Rattle.journal_reader.specs.declared.waiting.Reader.{Reader}

-- the reader, and the lent memory of the lists: chunk, pos, vel, aux and ext, one after the other
pub record State : Type 0 where
  pub reader : Reader
  pub lists : List Float

-- what it has seen, which is all of it that has a part in refusals
abbrev pub seen_in : State → Seen
seen_in st = st.reader.waiting.seen

-- where each list begins
abbrev pub bases : List ℕ
bases = 0 ∷ chunk_room ∷ (chunk_room + list_room) ∷ (chunk_room + 2 * list_room) ∷ (chunk_room + 3 * list_room) ∷ []

-- how many places they have
abbrev pub places : ℕ
places = chunk_room + 4 * list_room

-- ---- what has been seen

-- the same of what came once and for all (settings; a width; a reset or a tick), with this waiting
abbrev pub with_collected : Seen → Bool → Bool → Bool → List ℕ → Seen
with_collected n ack head outcome counts = record {
  settings = n.settings;
  width = n.width;
  underway = n.underway;
  ack = ack;
  head = head;
  outcome = outcome;
  counts = counts;
}

-- the same waiting, and this that came once and for all
abbrev pub with_came : Seen → Bool → Bool → Bool → Seen
with_came n settings width underway = record {
  settings = settings;
  width = width;
  underway = underway;
  ack = n.ack;
  head = n.head;
  outcome = n.outcome;
  counts = n.counts;
}

abbrev pub seen_settings : Seen → Seen
seen_settings n = with_came n true n.width n.underway

abbrev pub seen_width : Seen → Seen
seen_width n = with_came n n.settings true n.underway

abbrev pub seen_ack : Seen → Seen
seen_ack n = with_collected n true n.head n.outcome n.counts

abbrev pub seen_head : Seen → Seen
seen_head n = with_collected n n.ack true n.outcome n.counts

abbrev pub seen_outcome : Seen → Seen
seen_outcome n = with_collected n n.ack n.head true n.counts

-- one value more in list c
abbrev pub seen_value : Seen → ℕ → Seen
seen_value n c = with_collected n n.ack n.head n.outcome (set n.counts c (count_of n c + 1))

-- A reset or a tick came, and nothing waits any more: the counts are 0. The values in the lent
-- memory stay as they were, and so do the places of an ack, a head and an outcome.
abbrev pub seen_emptied : Seen → Seen
seen_emptied n = with_collected (with_came n n.settings n.width true) false false false (replicate (length capacities) 0)

-- ---- what waits

abbrev pub with_seen : Waiting → Seen → Waiting
with_seen w n = record { seen = n; ack = w.ack; head = w.head }

unfoldable pub ack_waits : Waiting → VerifiedAck → Waiting
ack_waits w a = record { seen = seen_ack w.seen; ack = a; head = w.head }

unfoldable pub head_waits : Waiting → ChunkHead → Waiting
head_waits w h = record { seen = seen_head w.seen; ack = w.ack; head = h }

unfoldable pub value_waits : Waiting → ℕ → Waiting
value_waits w c = with_seen w (seen_value w.seen c)

-- the memory with value x after those that list c has
unfoldable pub stored : List Float → Seen → ℕ → Float → List Float
stored l n c x = set l (get_or bases c 0 + count_of n c) x

abbrev pub with_waiting : Reader → Waiting → Reader
with_waiting r w = record { waiting = w; outcome = r.outcome }

unfoldable pub outcome_waits : Reader → Outcome → Reader
outcome_waits r o = record { waiting = with_seen r.waiting (seen_outcome r.waiting.seen); outcome = o }

unfoldable pub settings_came : Reader → Reader
settings_came r = with_waiting r (with_seen r.waiting (seen_settings r.waiting.seen))

unfoldable pub width_came : Reader → Reader
width_came r = with_waiting r (with_seen r.waiting (seen_width r.waiting.seen))

unfoldable pub emptied : Reader → Reader
emptied r = with_waiting r (with_seen r.waiting (seen_emptied r.waiting.seen))

-- before the first byte: nothing was seen; the places of an ack, a head and an outcome hold zeros
unfoldable pub start_reader : Reader
start_reader = record {
  waiting = record {
    seen = record {
      settings = false;
      width = false;
      underway = false;
      ack = false;
      head = false;
      outcome = false;
      counts = replicate (length capacities) 0;
    };
    ack = ack_of [];
    head = head_of [];
  };
  outcome = outcome_of [];
}

-- ---- what a tick gets

-- the values of list c, as many as it can hold at most
unfoldable pub values_of : Seen → List Float → ℕ → List Float
values_of n l c = take (min (count_of n c) (get_or capacities c 0)) (drop (get_or bases c 0) l)

-- the numbers of a tick's input: those of its record, and the head and the acknowledgement that
-- wait
unfoldable pub input_of : Waiting → TickNumbers → TickInput
input_of w n = record {
  t = n.t;
  idx = n.idx;
  missed_ticks = n.missed_ticks;
  schema_fault = n.schema_fault;
  has_vel = n.has_vel;
  chunk = cond w.seen.head (Some w.head) None;
  ack = cond w.seen.ack (Some w.ack) None;
}
