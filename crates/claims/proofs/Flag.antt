-- The verdict's flag and the consumed acknowledgement: the proof of specs/Flag. The flag goes by
-- the reason, so: which lines of the table give its reasons.
use Rattle.std.proofs.Common.{None, Some, Option}
use Rattle.lictor_core.specs.declared.ack.VerifiedAck.{VerifiedAck}
use mathlib.Core.Path.{◌≡◌, refl, sym}
use mathlib.Core.Bool.{Bool, true, false, cond, not, ◌&&◌, ◌||◌}
use mathlib.Core.List.{List}
use Prim.Native.Nat.{ℕ}
use lib.Dec.{T_not, eqb}
use lib.Ieee.{Float}
use Rattle.lictor_core.specs.declared.ack.AckDecision.{AckDecision}
use Rattle.lictor_core.specs.declared.ack.AckDecision.TheVariants.{Resume, Abort, Retune}
use Rattle.lictor_core.specs.declared.envelope.FuseConfig.{FuseConfig}
use Rattle.lictor_core.specs.declared.fuse.Control.{Control}
use Rattle.lictor_core.specs.declared.fuse.FuseRt.{FuseRt}
use Rattle.lictor_core.specs.declared.reason.ReasonCode.{ReasonCode}
use Rattle.lictor_core.specs.declared.state.FuseMode.{FuseMode}
use Rattle.lictor_core.specs.declared.state.FuseState.{FuseState}
use Rattle.lictor_core.specs.declared.state.FuseState.TheVariants.{Idle, Armed, Watching, Clamped, Braking, Held, Escalated, Fault, Terminated}
use Rattle.lictor_core.specs.Codes.{reason_code}
use Rattle.lictor_core.specs.Masks.{any_of, fault_bits}
use Rattle.lictor_settings.specs.Settings.{config_of}
use Rattle.lictor_stages.specs.Findings.{findings_of, machine_input}
use Rattle.lictor_stages.specs.Verdict.{has_ack, consumed_flag, verdict_of}
use Rattle.lictor_table.specs.declared.FsmInput.{FsmInput}
use Rattle.lictor_table.specs.declared.Turn.{Turn}
use Rattle.lictor_table.specs.Consumed.{taken_in}
use Rattle.lictor_table.proofs.Stops.{consumed_of}
use Rattle.lictor_table.specs.Helpers.{fault_reason, clamp_reason, armed_reason, accepted_ack, clean_of, count_run, settled_of}
use Rattle.lictor_table.specs.Rows.{fault_row, resume_row, terminate_row, timeout_row, wait_row, unanswered_of, escalated_of, rearm_row, escalate_row, hold_row, holding_of, held_of, standstill_row, stopping_row, braking_of, brake_row, clamp_row, clear_row, quiet_of, running_of, by_from, transition_of, next_by_rows}
use Rattle.lictor_table.specs.Table.{next_of}
use Rattle.lictor_table.proofs.ByTable.{tells}
use Rattle.lictor_table.proofs.Lines.{by_bool}
use Rattle.lictor_fuse.specs.declared.decide.Decided.{Decided}
use Rattle.lictor_fuse.specs.declared.Ticked.{Ticked}
use Rattle.lictor_fuse.specs.CleanTick.{ready_of, close_clean, clean_tick}
use Rattle.lictor_fuse.specs.FaultTick.{fault_verdict, close_fault, fault_tick}
use Rattle.lictor_fuse.specs.Closed.{closed_of}
use Rattle.lictor_fuse.specs.Tick.{given_of}
use Rattle.claims.specs.Calls.{Call, settings_pass, trips_of, bits_of, ack_accepted, took_of}
use Rattle.claims.specs.Demand3.{none?}
use Rattle.claims.specs.Flag.{FlagTells}
use Rattle.claims.proofs.Tick.{by_call, by_guard, decided, found_of, clean_turn}

-- the reasons of an acknowledgement: 23, 24 and 26
abbrev acked : ReasonCode → Bool
acked w = eqb 23 (reason_code w) || (eqb 24 (reason_code w) || eqb 26 (reason_code w))

-- ---- the rows that give another reason

record Other (w : ReasonCode) : Type 0 where
  told : acked w ≡ false

record Elsewhere (t : Turn) : Type 0 where
  told : acked t.reason ≡ false

said : (w : ReasonCode) → acked w ≡ false → Other w
said w e = record { told = e }

either_other : (b : Bool) (v w : ReasonCode) → Other v → Other w → Other (cond b v w)
either_other true v w f g = f
either_other false v w f g = g

by_reason : (t : Turn) → Other t.reason → Elsewhere t
by_reason t o = record { told = o.told }

either_turn : (b : Bool) (s t : Turn) → Elsewhere s → Elsewhere t → Elsewhere (cond b s t)
either_turn true s t f g = f
either_turn false s t f g = g

fault_reasons : (trips : ℕ) → Other (fault_reason trips)
unfolding fault_reason
fault_reasons trips = search (either_other, said)

clamp_reasons : (soft : ℕ) → Other (clamp_reason soft)
unfolding clamp_reason
clamp_reasons soft = search (either_other, said) depth 12

armed_reasons : (mode : FuseMode) → Other (armed_reason mode)
unfolding armed_reason
armed_reasons mode = search (either_other, said)

ruleset rows = (either_turn, by_reason, said, fault_reasons, clamp_reasons, armed_reasons)

module _ (cfg : FuseConfig) (rt : Control) (pos : List Float) (clean : Bool) (inp : FsmInput) where
  fault_row_lem : (from : FuseState) (trips : ℕ) → Elsewhere (fault_row cfg rt pos from trips)
  unfolding fault_row
  fault_row_lem from trips = search rows

  quiet_rows : (from : FuseState) (warn : Bool) → Elsewhere (quiet_of cfg rt from warn)
  unfolding quiet_of clear_row
  quiet_rows from warn = search rows depth 12

  running_rows : (from : FuseState) → Elsewhere (running_of cfg rt from inp)
  unfolding running_of brake_row clamp_row
  running_rows from = search (rows, quiet_rows) depth 12

  braking_rows : Elsewhere (braking_of cfg rt pos inp)
  unfolding braking_of standstill_row stopping_row
  braking_rows = search rows depth 12

  holding_rows : Elsewhere (holding_of cfg rt clean inp)
  unfolding holding_of rearm_row escalate_row hold_row
  holding_rows = search rows depth 12

  waiting_rows : (limit : ℕ) → Elsewhere (unanswered_of limit rt)
  unfolding unanswered_of timeout_row wait_row
  waiting_rows limit = search rows

  -- ---- the rows of Held and Escalated, by the acknowledgement that is accepted

  abbrev Tells : FuseState → Option VerifiedAck → Type 0
  Tells q ack = acked (by_from cfg rt pos q clean ack inp).reason ≡ not (none? (taken_in q ack))

  held_tells : (d : AckDecision) (slot nonce seq : ℕ) → Tells Held (Some (record { decision = d; operator_slot = slot; nonce = nonce; handoff_seq = seq }))
  unfolding by_from held_of resume_row terminate_row
  held_tells Resume slot nonce seq = refl
  held_tells Abort slot nonce seq = refl
  held_tells Retune slot nonce seq = holding_rows.told

  escalated_tells : (d : AckDecision) (slot nonce seq : ℕ) → Tells Escalated (Some (record { decision = d; operator_slot = slot; nonce = nonce; handoff_seq = seq }))
  unfolding by_from escalated_of resume_row terminate_row
  escalated_tells Resume slot nonce seq = refl
  escalated_tells Abort slot nonce seq = refl
  escalated_tells Retune slot nonce seq = refl

  row_tells : (q : FuseState) (ack : Option VerifiedAck) → Tells q ack
  unfolding by_from held_of escalated_of
  row_tells Idle ack = refl
  row_tells Armed ack = (running_rows Armed).told
  row_tells Watching ack = (running_rows Watching).told
  row_tells Clamped ack = (running_rows Clamped).told
  row_tells Braking ack = braking_rows.told
  row_tells Held None = holding_rows.told
  row_tells Held (Some a) = held_tells a.decision a.operator_slot a.nonce a.handoff_seq
  row_tells Escalated None = (waiting_rows cfg.hyst.handoff_timeout_ticks).told
  row_tells Escalated (Some a) = escalated_tells a.decision a.operator_slot a.nonce a.handoff_seq
  row_tells Fault ack = refl
  row_tells Terminated ack = refl

  transition_tells : (q : FuseState) (ack : Option VerifiedAck)
      → acked (transition_of cfg rt pos q clean ack inp).reason ≡ not (none? (cond (any_of inp.trips fault_bits) None (taken_in q ack)))
  unfolding transition_of
  transition_tells q ack =
      by_bool (λ b (t : Turn). acked t.reason ≡ not (none? (cond b None (taken_in q ack)))) (any_of inp.trips fault_bits) _ _
      (fault_row_lem q inp.trips).told (row_tells q ack)

-- so the reason of a turn tells whether it consumes one
reason_tells : (cfg : FuseConfig) (rt : Control) (pos : List Float) (inp : FsmInput) → acked (next_of cfg rt pos inp).reason ≡ not (none? (consumed_of rt inp))
unfolding next_by_rows settled_of consumed_of
reason_tells cfg rt pos inp = rw (← tells cfg rt pos inp) (transition_tells cfg (count_run (clean_of inp) rt) pos (clean_of inp) inp rt.state _)

-- ---- the flag

-- none is consumed where none comes
none_taken : (q : FuseState) → not (none? (taken_in q None)) ≡ false
none_taken Idle = refl
none_taken Armed = refl
none_taken Watching = refl
none_taken Clamped = refl
none_taken Braking = refl
none_taken Held = refl
none_taken Escalated = refl
none_taken Fault = refl
none_taken Terminated = refl

brought : (bits : Bool) (q : FuseState) (handoff : ℕ) (nonces : List ℕ) (ack : Option VerifiedAck)
    → let took = cond bits None (taken_in q (accepted_ack handoff nonces ack)) in (has_ack ack && not (none? took)) ≡ not (none? took)
unfolding has_ack accepted_ack
brought bits q handoff nonces (Some a) = refl
brought true q handoff nonces None = refl
brought false q handoff nonces None = sym (none_taken q)

module _ (r : FuseRt) (c : Call) where
  abbrev Tells-by : Bool → Bool → Type 0
  Tells-by clean flag = flag ≡ not (none? (cond (not clean || any_of (trips_of c) fault_bits) None (taken_in r.control.state (ack_accepted r c))))

  clean_tells : Tells-by true (consumed_flag c.input.ack (clean_turn r c).reason)
  unfolding consumed_flag ready_of machine_input findings_of trips_of ack_accepted config_of consumed_of
  clean_tells =
      rw (reason_tells (config_of c.settings) (ready_of r.control (found_of r c)) _ (machine_input (config_of c.settings) c.input (found_of r c)))
      (brought (any_of (trips_of c) fault_bits) r.control.state r.control.handoff_seq r.control.last_nonce c.input.ack)

  tick_tells : (decided r c).verdict.ack_consumed ≡ not (none? (took_of r c))
  unfolding took_of bits_of clean_tick close_clean fault_tick close_fault closed_of verdict_of fault_verdict
  tick_tells = by_guard (λ b (d : Decided). Tells-by b d.verdict.ack_consumed) r c (λ h. clean_tells) (λ h. refl)

pub flag_tells : FlagTells
unfolding given_of
flag_tells r c a = by_call (λ (x : Ticked). x.verdict.ack_consumed ≡ not (none? (took_of r c))) r c (λ h. tick_tells r c) (λ h. absurd (T_not (settings_pass c) h a))
