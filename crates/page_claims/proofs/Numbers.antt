-- The numbers of each verdict of a journal fit their types: t and the outcome's trips are read from
-- four bytes, seq stops at its end, and the guard and the table add bits below 2 ^ 16.
use Rattle.std.proofs.Common.{Ok, Err}
use mathlib.Core.Path.{◌≡◌, refl}
use mathlib.Core.Bool.{Bool, true, false, cond, ◌&&◌}
use mathlib.Core.List.{List, [], ◌∷◌}
use Prim.Native.Nat.{ℕ, zero, suc, ◌+◌, ◌^◌, ◌≤◌, ◌<◌, min}
use native.Mathlib.Omega.{arith}
use lib.Bits.{bit_and, bit_or, or_lt, and_le_l}
use lib.Dec.{T, eqb, ltb, ltb→lt, lit<}
use lib.Ieee.{Float}
use lib.Ieee.Fits.{and_l, and_r}
use lib.ListN.{drop}
use Rattle.lictor_core.specs.declared.envelope.FuseConfig.{FuseConfig}
use Rattle.lictor_core.specs.declared.envelope.Settings.{Settings}
use Rattle.lictor_core.specs.declared.fuse.Clock.{Clock}
use Rattle.lictor_core.specs.declared.fuse.Control.{Control}
use Rattle.lictor_core.specs.declared.fuse.FuseRt.{FuseRt}
use Rattle.lictor_core.specs.declared.fuse.TickInput.{TickInput}
use Rattle.lictor_core.specs.declared.outcome.Outcome.{Outcome}
use Rattle.lictor_core.specs.declared.reason.ReasonCode.TheVariants as R
use Rattle.lictor_core.specs.declared.state.FuseState.TheVariants.{Fault}
use Rattle.lictor_core.specs.declared.verdict.SafetyVerdict.{SafetyVerdict}
use Rattle.lictor_core.specs.Initial.{new_of, reset_of, fresh_clock}
use Rattle.lictor_core.specs.Masks as M
use Rattle.lictor_table.specs.declared.FsmInput.{FsmInput}
use Rattle.lictor_table.specs.declared.Turn.{Turn}
use Rattle.lictor_table.specs.Helpers.{to, settled_of}
use Rattle.lictor_table.specs.Table.{Facts, TableLine, facts_of, first_of, table, next_from, next_of}
use Rattle.lictor_table.proofs.Lines.{Lines, done, ◌⨾◌, by_lines}
use Rattle.lictor_guard.specs.Guard.{bit_if, guard_of}
use Rattle.lictor_stages.specs.Findings.{with_brake, masked_of, findings_of}
use Rattle.lictor_stages.specs.Verdict.{verdict_of}
use Rattle.lictor_fuse.specs.declared.decide.Decided.{Decided}
use Rattle.lictor_fuse.specs.CleanTick.{clean_tick, close_clean, clean_clock}
use Rattle.lictor_fuse.specs.FaultTick.{fault_tick, fault_verdict, close_fault, fault_clock}
use Rattle.lictor_fuse.specs.Closed.{closed_of}
use Rattle.lictor_fuse.specs.Decide.{decide_by, decide_of}
use Rattle.claims.specs.Runs.{All}
use Rattle.journal_records.specs.Little.{le_at}
use Rattle.journal_records.specs.Body.{tick_numbers, decode_of}
use Rattle.journal_records.specs.Long.{outcome_of}
use Rattle.journal_records.proofs.Laws.{le_at_under}
use Rattle.journal_records.proofs.Decoded.{decoded}
use Rattle.journal_frames.specs.declared.Frame.{Frame}
use Rattle.journal_frames.specs.declared.Frame.TheVariants as F
use Rattle.journal_frames.specs.Frames.{body_of, frame_of, on_frame}
use Rattle.journal_refusals.specs.declared.Refusal.{Refusal}
use Rattle.journal_refusals.specs.declared.Refusal.TheVariants.{UnknownKind}
use Rattle.journal_refusals.specs.Table.{Judged, whole_of}
use Rattle.stream.specs.Stream.{Next, wait, halt, go, tell, after, settle, settled}
use Rattle.journal_reader.specs.State.{State, seen_in, ack_waits, head_waits, value_waits, outcome_waits, settings_came, width_came, emptied, input_of, start_reader}
use Rattle.journal_reader.specs.Reading.{Brought, Instruction, begin, restart, tick, width, brought_of, on_record, on_judged, on_whole, on_bytes}
use Rattle.journal_reader.proofs.Reading.{next_frame}
use Rattle.journal.specs.declared.tick.Run.{Run}
use Rattle.journal.specs.Events.{begun_of, restarted_of, decided_of, ticked_of, run_after, events_from, report_of}
use Rattle.journal.specs.Journal.{start_state, start_run, journal_of}
use Rattle.journal_claims.specs.JournalStops.{Bytes}
use Rattle.journal_claims.proofs.Order.{some_drop, some_take, byte_under}
use Rattle.page_text.specs.Rows.{Fitting}
use Rattle.printer.specs.Fifties.{verdicts_of}

-- ---- bits

-- the bits that the table adds
abbrev small_extras : List TableLine → Bool
small_extras [] = true
small_extras (l ∷ ls) = ltb l.extra (2 ^ 16) && small_extras ls

abbrev Small : Turn → Type 0
Small t = t.extra < 2 ^ 16

lines_small : (x : Facts) (ls : List TableLine) → T (small_extras ls) → Lines Small x ls
lines_small x [] h = done
lines_small x (l ∷ ls) h =
    (λ a. ltb→lt l.extra (2 ^ 16) (and_l (ltb l.extra (2 ^ 16)) (small_extras ls) h)) ⨾ lines_small x ls (and_r (ltb l.extra (2 ^ 16)) (small_extras ls) h)

table_small : T (small_extras table)
unfolding table
table_small = tt

extra_small : (cfg : FuseConfig) (rt : Control) (pos : List Float) (inp : FsmInput) → (next_of cfg rt pos inp).extra < 2 ^ 16
unfolding next_of next_from settled_of
extra_small cfg rt pos inp =
    let x = facts_of rt.state cfg rt pos inp in
    by_lines Small (to Fault 0 R.FaultInternal rt) x table (lit< tt) (lines_small x table table_small)

-- the bits that the guard finds
bit_small : (b : Bool) (n : ℕ) → n < 2 ^ 16 → bit_if b n < 2 ^ 16
unfolding bit_if
bit_small true n h = h
bit_small false n h = lit< tt

guard_small : (cfg : FuseConfig) (k : Clock) (inp : TickInput) (pos vel aux ext chunk : List Float) → guard_of cfg k inp pos vel aux ext chunk < 2 ^ 16
unfolding guard_of
guard_small cfg k inp pos vel aux ext chunk =
    or_lt 16 _ _ (or_lt 16 _ _ (bit_small _ M.nonfinite (lit< tt)) (bit_small _ M.schema (lit< tt))) (bit_small _ M.watchdog (lit< tt))

-- the outcome's bits, masked
brake_fits : (trips : ℕ) (feasible : Bool) → trips < 2 ^ 32 → with_brake trips feasible < 2 ^ 32
unfolding with_brake
brake_fits trips true h = h
brake_fits trips false h = or_lt 32 trips M.brake_bit h (lit< tt)

masked_fits : (trips : ℕ) (feasible : Bool) (enabled : ℕ) → trips < 2 ^ 32 → masked_of trips feasible enabled < 2 ^ 32
unfolding masked_of
masked_fits trips feasible enabled h =
    omega (arith, and_le_l (with_brake trips feasible) (bit_or enabled M.tier0_hard), brake_fits trips feasible h)

-- both
both_fit : (n x : ℕ) → n < 2 ^ 32 → x < 2 ^ 16 → bit_or n x < 2 ^ 32
both_fit n x h e = or_lt 32 n x h (omega arith)

-- ---- a tick

record Decides (d : Decided) : Type 0 where
  fits : Fitting d.verdict
  next : d.rt.clock.seq < 2 ^ 32

module _ (cfg : FuseConfig) (rt : FuseRt) (inp : TickInput) (out : Outcome) (started : rt.clock.seq < 2 ^ 32) (timed : inp.t < 2 ^ 32) (tripped : out.trips < 2 ^ 32) where
  clean_fits : (pos vel : List Float) → Decides (clean_tick cfg rt inp out pos vel)
  unfolding clean_tick close_clean closed_of verdict_of findings_of clean_clock
  clean_fits pos vel = record {
    fits = record { seq = started; t = timed; trips = both_fit _ _ (masked_fits out.trips out.feasible cfg.tier0_enabled tripped) (extra_small _ _ _ _) };
    next = omega arith;
  }

  fault_fits : (bits : ℕ) (pos : List Float) → bits < 2 ^ 16 → Decides (fault_tick cfg rt inp bits pos)
  unfolding fault_tick close_fault closed_of fault_verdict fault_clock
  fault_fits bits pos h = record {
    fits = record { seq = started; t = timed; trips = both_fit bits _ (omega arith) (extra_small _ _ _ _) };
    next = omega arith;
  }

  by_bits : (b : Bool) (bits : ℕ) (pos vel : List Float) → bits < 2 ^ 16 → Decides (cond b (clean_tick cfg rt inp out pos vel) (fault_tick cfg rt inp bits pos))
  by_bits true bits pos vel h = clean_fits pos vel
  by_bits false bits pos vel h = fault_fits bits pos h

  decide_fits : (pos vel aux ext chunk : List Float) → Decides (decide_of cfg rt inp out pos vel aux ext chunk)
  unfolding decide_of decide_by
  decide_fits pos vel aux ext chunk =
      let bits = guard_of cfg rt.clock inp pos vel aux ext chunk in
      by_bits (eqb bits 0) bits pos vel (guard_small cfg rt.clock inp pos vel aux ext chunk)

-- ---- what is read

-- what a tick brings
abbrev Read : Instruction → Type 0
Read (begin s) = Unit {0}
Read restart = Unit {0}
Read (tick c) = (c.input.t < 2 ^ 32) × (c.outcome.trips < 2 ^ 32)
Read (width w) = Unit {0}

-- the outcome that waits
abbrev Waits : State → Type 0
Waits st = st.reader.outcome.trips < 2 ^ 32

abbrev Moves : Next State Instruction Refusal → Type 0
Moves wait = Unit {0}
Moves (halt r) = Unit {0}
Moves (go st n) = Waits st
Moves (tell st n i) = Waits st × Read i

record_moves : (st : State) (k : ℕ) (b : List ℕ) (n : ℕ) → Bytes b → Waits st → Moves (on_record st b n (decode_of k b))
unfolding on_record settings_came width_came emptied ack_waits head_waits value_waits outcome_waits outcome_of brought_of input_of tick_numbers
record_moves st k b n h w =
    let four : (at : ℕ) → le_at b at 4 < 2 ^ 32 = λ at. omega (arith, le_at_under b at 4 4 (λ i. byte_under b i h) (omega arith)) in
    decoded k b (λ x. Moves (on_record st b n x))
    (record {
      settings = λ p. (w, tt);
      reset = λ p. (w, tt);
      ack = λ p. w;
      head = λ p. w;
      value = λ p. w;
      outcome = λ p. four 0;
      width = λ p. (w, tt);
      tick = (w, (four 0, w));
    })

judged_moves : (st : State) (k : ℕ) (b : List ℕ) (n : ℕ) → Bytes b → Waits st → (j : Judged) → Moves (on_judged st b n (decode_of k b) j)
judged_moves st k b n h w (Err r) = tt
judged_moves st k b n h w (Ok _) = record_moves st k b n h w

frame_moves : (st : State) (s : List ℕ) → Bytes s → Waits st → (x : Frame) → Moves (on_frame UnknownKind on_whole st s x)
unfolding on_whole
frame_moves st s h w F.Waits = tt
frame_moves st s h w F.Unknown = tt
frame_moves st s h w (F.Whole k n) = judged_moves st k (body_of n s) (suc n) (some_take n (drop 1 s) (some_drop 1 s h)) w (whole_of (seen_in st) k (body_of n s))

next_moves : (kinds : List ℕ) (st : State) (s : List ℕ) → Bytes s → Waits st → Moves (on_bytes kinds st s)
next_moves kinds st s h w = rw (next_frame kinds st s (frame_of kinds s) refl) (frame_moves st s h w (frame_of kinds s))

module _ (kinds : List ℕ) (f : ℕ) (ih : (st : State) (s : List ℕ) → Bytes s → Waits st → All Read (settle (on_bytes kinds) f st s).told) where
  read_by : (st : State) (s : List ℕ) → Bytes s → (x : Next State Instruction Refusal) → Moves x
      → All Read (after st s x (λ st' n. settle (on_bytes kinds) f st' (drop n s))).told
  read_by st s h wait m = tt
  read_by st s h (halt r) m = tt
  read_by st s h (go st' n) m = ih st' (drop n s) (some_drop n s h) m
  read_by st s h (tell st' n i) m = (m.1, ih st' (drop n s) (some_drop n s h) m.0)

read_at : (kinds : List ℕ) (f : ℕ) (st : State) (s : List ℕ) → Bytes s → Waits st → All Read (settle (on_bytes kinds) f st s).told
unfolding settle
read_at kinds zero st s h w = tt
read_at kinds (suc f) st s h w = read_by kinds f (λ st' u h' w'. read_at kinds f st' u h' w') st s h (on_bytes kinds st s) (next_moves kinds st s h w)

start_waits : Waits start_state
unfolding start_state start_reader outcome_of le_at
start_waits = lit< tt

all_read : (kinds s : List ℕ) → Bytes s → All Read (settled (on_bytes kinds) start_state s).told
unfolding settled
all_read kinds s h = read_at kinds _ start_state s h start_waits

-- ---- the verdicts

abbrev Started : Run → Type 0
Started r = r.rt.clock.seq < 2 ^ 32

begun_started : (s : Settings) → Started (begun_of s)
unfolding begun_of new_of fresh_clock
begun_started s = lit< tt

restarted_started : (r : Run) → Started (restarted_of r)
unfolding restarted_of reset_of fresh_clock
restarted_started r = lit< tt

tick_decides : (r : Run) (c : Brought) → Started r → Read (tick c) → Decides (decided_of r c)
unfolding decided_of
tick_decides r c h m = decide_fits r.config r.rt c.input c.outcome h m.0 m.1 c.pos c.vel c.aux c.ext c.chunk

all_fit : (r : Run) (is : List Instruction) → Started r → All Read is → All Fitting (verdicts_of (events_from r is))
unfolding report_of ticked_of
all_fit r [] h m = tt
all_fit r (begin s ∷ is) h m = all_fit (begun_of s) is (begun_started s) m.1
all_fit r (restart ∷ is) h m = all_fit (restarted_of r) is (restarted_started r) m.1
all_fit r (tick c ∷ is) h m =
    let d = tick_decides r c h m.0 in
    (d.fits, all_fit (ticked_of r (decided_of r c)) is d.next m.1)
all_fit r (width w ∷ is) h m = all_fit r is h m.1

pub numbers_fit : (kinds s : List ℕ) → Bytes s → All Fitting (verdicts_of (journal_of kinds s).events)
unfolding journal_of start_run
numbers_fit kinds s h = all_fit start_run (settled (on_bytes kinds) start_state s).told (begun_started _) (all_read kinds s h)
