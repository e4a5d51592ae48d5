-- What one tick makes of each counter: the proof of specs/Counters, by the rows of the transition
-- table; and what follows at each end.
use Rattle.std.proofs.Common.{None, Some, Option}
use Rattle.std.proofs.lemmas.Bool.{and_right}
use mathlib.Core.Path.{◌≡◌, refl}
use mathlib.Core.Bool.{Bool, true, false, cond, ◌&&◌}
use mathlib.Core.List.{List}
use mathlib.Core.Logic.{◌⊎◌, inl, inr}
use Prim.Native.Nat.{ℕ, ◌+◌, ◌-◌, ◌^◌, ◌≤◌, ◌<◌}
use native.Mathlib.Omega.{arith}
use native.Mathlib.Nat.{mod_self}
use borrow.Author.Tests.{eq-eqb, le-ltb}
use lib.Dec.{T, T_not, eqb, ltb}
use lib.Ieee.{Float}
use lib.ListN.{get_or}
use lib.Pow.{pow_pos}
use Rattle.lictor_core.specs.declared.ack.AckDecision.{AckDecision}
use Rattle.lictor_core.specs.declared.ack.AckDecision.TheVariants.{Resume, Abort, Retune}
use Rattle.lictor_core.specs.declared.ack.VerifiedAck.{VerifiedAck}
use Rattle.lictor_core.specs.declared.envelope.FuseConfig.{FuseConfig}
use Rattle.lictor_core.specs.declared.fuse.Control.{Control}
use Rattle.lictor_core.specs.declared.fuse.FuseRt.{FuseRt}
use Rattle.lictor_core.specs.declared.reason.ReasonCode.{ReasonCode}
use Rattle.lictor_core.specs.declared.state.FuseState.{FuseState}
use Rattle.lictor_core.specs.declared.state.FuseState.TheVariants.{Idle, Armed, Watching, Clamped, Braking, Held, Escalated, Fault, Terminated}
use Rattle.lictor_core.specs.Cases.{by_decision}
use Rattle.lictor_core.specs.Masks.{any_of, fault_bits}
use Rattle.lictor_core.specs.Num.{sat_up, wrap_up}
use Rattle.lictor_settings.specs.Settings.{config_of}
use Rattle.lictor_stages.specs.Findings.{machine_input}
use Rattle.lictor_stages.specs.Verdict.{events_of}
use Rattle.lictor_table.specs.declared.FsmInput.{FsmInput}
use Rattle.lictor_table.specs.declared.Turn.{Turn}
use Rattle.lictor_table.specs.Helpers.{count_if, up_if, consume_nonce, latch_hold, accepted_by, accepted_ack, clean_of, count_run, settled_of}
use Rattle.lictor_table.specs.Rows.{fault_row, rearm_ack, resume_row, terminate_row, timeout_row, wait_row, unanswered_of, escalated_of, rearm_row, escalate_row, hold_row, holding_of, held_of, standstill_row, stopping_row, braking_of, enter_braking, brake_row, clamp_row, clear_row, quiet_of, running_of, by_from, transition_of, next_by_rows}
use Rattle.lictor_table.specs.Table.{next_of}
use Rattle.lictor_table.proofs.ByTable.{tells}
use Rattle.lictor_table.proofs.Lines.{by_test}
use Rattle.lictor_tally.specs.declared.TickEvents.{TickEvents}
use Rattle.lictor_fuse.specs.declared.decide.Decided.{Decided}
use Rattle.lictor_fuse.specs.declared.Ticked.{Ticked}
use Rattle.lictor_fuse.specs.CleanTick.{ready_of, next_chunk, clean_clock, close_clean, clean_tick}
use Rattle.lictor_fuse.specs.FaultTick.{no_events, fault_clock, close_fault, fault_tick}
use Rattle.lictor_fuse.specs.Closed.{closed_of}
use Rattle.lictor_fuse.specs.Tick.{given_of}
use Rattle.claims.specs.Calls.{Call, settings_pass, tick_answer, guard_bits}
use Rattle.claims.specs.Tallies.{turn_seen, item_of}
use Rattle.claims.specs.Counters.{Rises, stays, rises, Counts, kept, counted, cleared, Numbers, same, next, MachineCounts, ClockCounts, CountersTold}
use Rattle.claims.proofs.Tick.{by_call, by_guard, decided, found_of, clean_turn}

-- ---- one row

-- a count that goes up or to 0 by a test, and one that goes up or stays by it
if_counted : (k : ℕ) (b : Bool) (x : ℕ) → Counts k x (count_if k b x)
unfolding count_if
if_counted k true x = counted
if_counted k false x = cleared

if_up : (k : ℕ) (b : Bool) (x : ℕ) → Counts k x (up_if k b x)
unfolding up_if
if_up k true x = counted
if_up k false x = kept

-- a turn from r
record Goes (r : Control) (t : Turn) : Type 0 where
  counts : MachineCounts r t.rt

row_goes : (r : Control) (t : Turn) → MachineCounts r t.rt → Goes r t
row_goes r t m = record { counts = m }

either_goes : (r : Control) (b : Bool) (s t : Turn) → Goes r s → Goes r t → Goes r (cond b s t)
either_goes r true s t f g = f
either_goes r false s t f g = g

ruleset rows = (either_goes, row_goes, if_counted, if_up, kept, counted, cleared, stays, rises, same, next)

module _ (cfg : FuseConfig) (r : Control) (pos : List Float) (clean : Bool) (inp : FsmInput) where
  -- the run state that the rows start from
  abbrev now : Control
  now = count_run clean r

  fault_row_lem : (from : FuseState) (trips : ℕ) → Goes r (fault_row cfg now pos from trips)
  unfolding fault_row count_run latch_hold
  fault_row_lem from trips = search rows

  quiet_rows : (from : FuseState) (warn : Bool) → Goes r (quiet_of cfg now from warn)
  unfolding quiet_of clear_row count_run
  quiet_rows from warn = search rows depth 12

  running_rows : (from : FuseState) → Goes r (running_of cfg now from inp)
  unfolding running_of brake_row enter_braking clamp_row count_run
  running_rows from = search (rows, quiet_rows) depth 12

  braking_rows : Goes r (braking_of cfg now pos inp)
  unfolding braking_of standstill_row stopping_row latch_hold count_run
  braking_rows = search rows depth 12

  holding_rows : Goes r (holding_of cfg now clean inp)
  unfolding holding_of rearm_row escalate_row hold_row count_run
  holding_rows = search rows depth 12

  waiting_rows : (limit : ℕ) → Goes r (unanswered_of limit now)
  unfolding unanswered_of timeout_row wait_row count_run
  waiting_rows limit = search rows

  -- an acknowledgement
  resume_row_lem : (a : VerifiedAck) → Goes r (resume_row now a)
  unfolding resume_row rearm_ack consume_nonce count_run
  resume_row_lem a = search rows

  terminate_row_lem : (a : VerifiedAck) (extra : ℕ) (reason : ReasonCode) → Goes r (terminate_row now a extra reason)
  unfolding terminate_row consume_nonce count_run
  terminate_row_lem a extra reason = search rows

  by_decision_lem : (d : AckDecision) (s t u : Turn) → Goes r s → Goes r t → Goes r u → Goes r (by_decision d s t u)
  by_decision_lem Resume s t u f g h = f
  by_decision_lem Abort s t u f g h = g
  by_decision_lem Retune s t u f g h = h

  -- the row that decides, by the state
  from_rows : (q : FuseState) (ack : Option VerifiedAck) → Goes r (by_from cfg now pos q clean ack inp)
  unfolding by_from held_of escalated_of latch_hold count_run
  from_rows Idle ack = search rows
  from_rows Armed ack = running_rows Armed
  from_rows Watching ack = running_rows Watching
  from_rows Clamped ack = running_rows Clamped
  from_rows Braking ack = braking_rows
  from_rows Held None = holding_rows
  from_rows Held (Some a) = by_decision_lem a.decision _ _ _ (resume_row_lem a) (terminate_row_lem a _ _) holding_rows
  from_rows Escalated None = waiting_rows _
  from_rows Escalated (Some a) = by_decision_lem a.decision _ _ _ (resume_row_lem a) (terminate_row_lem a _ _) (terminate_row_lem a _ _)
  from_rows Fault ack = search rows
  from_rows Terminated ack = search rows

  all_rows : (q : FuseState) (ack : Option VerifiedAck) → Goes r (transition_of cfg now pos q clean ack inp)
  unfolding transition_of
  all_rows q ack = either_goes r (any_of inp.trips fault_bits) _ _ (fault_row_lem q inp.trips) (from_rows q ack)

-- so a turn of the machine
turn_counts : (cfg : FuseConfig) (r : Control) (pos : List Float) (inp : FsmInput) → MachineCounts r (next_of cfg r pos inp).rt
unfolding next_by_rows settled_of
turn_counts cfg r pos inp =
    let m = (all_rows cfg r pos (clean_of inp) inp r.state (accepted_ack r.handoff_seq r.last_nonce inp.ack)).counts in
    rw (← tells cfg r pos inp) (record {
      clean_run = m.clean_run;
      clamp_streak = m.clamp_streak;
      clamps = m.clamps;
      brake_ticks = m.brake_ticks;
      stopped_ticks = m.stopped_ticks;
      held_ticks = m.held_ticks;
      held_clean = m.held_clean;
      escalated_ticks = m.escalated_ticks;
      rearms = m.rearms;
      handoff = m.handoff;
    })

-- ---- one tick

chunk_moves : (b : Bool) (n : ℕ) → Numbers 32 n (next_chunk b n)
unfolding next_chunk
chunk_moves true n = next
chunk_moves false n = same

module _ (r : FuseRt) (c : Call) where
  abbrev Told : FuseRt → Type 0
  Told r' = MachineCounts r.control r'.control × ClockCounts c.input.t r.clock r'.clock

  clean_counts : MachineCounts r.control (clean_turn r c).rt
  unfolding ready_of
  clean_counts =
      let m = turn_counts (config_of c.settings) (ready_of r.control (found_of r c)) _ (machine_input (config_of c.settings) c.input (found_of r c)) in
      record {
        clean_run = m.clean_run;
        clamp_streak = m.clamp_streak;
        clamps = m.clamps;
        brake_ticks = m.brake_ticks;
        stopped_ticks = m.stopped_ticks;
        held_ticks = m.held_ticks;
        held_clean = m.held_clean;
        escalated_ticks = m.escalated_ticks;
        rearms = m.rearms;
        handoff = m.handoff;
      }

  tick_counts : Told (decided r c).rt
  unfolding clean_tick close_clean fault_tick close_fault closed_of clean_clock fault_clock
  tick_counts =
      by_guard (λ b (d : Decided). Told d.rt) r c
      (λ h. (clean_counts, record { seq = refl; time = refl; chunk = chunk_moves _ _ }))
      (λ h. (turn_counts _ _ _ _, record { seq = refl; time = refl; chunk = same }))

pub counters_go : CountersTold
unfolding given_of
counters_go r c a =
    let t = by_call (λ (x : Ticked). Told r c x.rt) r c (λ h. tick_counts r c) (λ h. absurd (T_not (settings_pass c) h a)) in
    record { machine = t.0; clock = t.1 }

-- ---- what follows at an end, for any width

-- a count that only rises never falls, and at its end it stays
pub never_falls : {k x y : ℕ} → x < 2 ^ k → Rises k x y → x ≤ y
never_falls h stays = omega arith
never_falls h rises = omega arith

pub stays_full : {k x y : ℕ} → x ≡ 2 ^ k - 1 → Rises k x y → y ≡ x
stays_full e stays = refl
stays_full e rises = omega arith

-- no count passes its end
pub rise_fits : {k x y : ℕ} → x < 2 ^ k → Rises k x y → y < 2 ^ k
rise_fits h stays = h
rise_fits h rises = omega arith

pub counts_fit : {k x y : ℕ} → x < 2 ^ k → Counts k x y → y < 2 ^ k
counts_fit h kept = h
counts_fit h counted = omega arith
counts_fit h cleared = omega arith

-- at its end a count stays or starts anew
pub full_or_anew : {k x y : ℕ} → x ≡ 2 ^ k - 1 → Counts k x y → (y ≡ x) ⊎ (y ≡ 0)
full_or_anew e kept = inl refl
full_or_anew e counted = inl (omega arith)
full_or_anew e cleared = inr refl

-- one more is never 0
pub above_zero : (k x : ℕ) → 1 < 2 ^ k → 0 < sat_up k x
above_zero k x h = omega arith

-- after the largest number comes 0
pub wraps : (k : ℕ) → wrap_up k (2 ^ k - 1) ≡ 0
wraps k = let e : 2 ^ k - 1 + 1 ≡ 2 ^ k = omega (arith, pow_pos k) in rw e (mod_self (2 ^ k))

-- ---- what the tally counts of a full counter: nothing, though the fuse arms by a Resume or clamps

module _ (r : FuseRt) (c : Call) (a : T (settings_pass c)) where
  -- an event is one of a clean tick or none
  by_events : (P : TickEvents → Type 0) → P (events_of c.settings.calib c.outcome.scores r.control (turn_seen (tick_answer r c).rt (tick_answer r c).verdict)) → P no_events
      → P (item_of r c (tick_answer r c)).events
  by_events P f g = by_test P (eqb (guard_bits r c) 0) _ _ (λ h. f) (λ h. g)

  pub full_rearms : r.control.rearms ≡ 255 → (item_of r c (tick_answer r c)).events.rearmed ≡ false
  unfolding events_of no_events
  full_rearms e = by_events (λ (ev : TickEvents). ev.rearmed ≡ false) (rw (eq-eqb _ _ (stays_full e (counters_go r c a).machine.rearms)) refl) refl

  pub full_clamps : r.control.clamps ≡ 65535 → (item_of r c (tick_answer r c)).events.clamped ≡ false
  unfolding events_of no_events
  full_clamps e = by_events (λ (ev : TickEvents). ev.clamped ≡ false) (rw (eq-eqb _ _ (stays_full e (counters_go r c a).machine.clamps)) refl) refl

-- ---- the stored nonces

last_off : (a b c : Bool) → c ≡ false → (a && (b && c)) ≡ false
last_off a b c e = and_right a (b && c) (and_right b c e)

-- a slot that stored the largest number of 64 bits accepts nothing more until new settings
pub slot_ends : (handoff : ℕ) (nonces : List ℕ) (a : VerifiedAck) → get_or nonces a.operator_slot 0 ≡ 2 ^ 64 - 1 → a.nonce < 2 ^ 64
    → accepted_ack handoff nonces (Some a) ≡ None
unfolding accepted_ack accepted_by
slot_ends handoff nonces a e h =
    rw (last_off (ltb a.operator_slot 8) (eqb a.handoff_seq handoff) (ltb (get_or nonces a.operator_slot 0) a.nonce) (le-ltb (get_or nonces a.operator_slot 0) a.nonce (omega arith))) refl
