-- The rows of fsm.rs as its code has them, branch by branch: what the functions of lictor_fsm
-- compute.
-- That all this is the table is shown in proofs/ByTable, and `next` of lictor_fsm promises the
-- table.
use Rattle.std.specs.Prelude.{Bool, false, true, cond, not, ◌&&◌, ◌||◌, List, ℕ, ◌+◌, ltb, leb, eqb, Float, Option}
use Rattle.std.specs.Int.Bits.{bit_and}
use Rattle.std.specs.Int.Count.{ones}
use Rattle.lictor_core.specs.declared.state.FuseState.{FuseState}
use Rattle.lictor_core.specs.declared.state.FuseState.TheVariants.{Armed, Watching, Clamped, Braking, Held, Escalated, Fault, Terminated}
use Rattle.lictor_core.specs.declared.reason.ReasonCode.{ReasonCode}
use Rattle.lictor_core.specs.declared.reason.ReasonCode.TheVariants as R
use Rattle.lictor_core.specs.declared.ack.VerifiedAck.{VerifiedAck}
use Rattle.lictor_core.specs.declared.envelope.RearmPolicy.{RearmPolicy}
use Rattle.lictor_core.specs.declared.envelope.FuseConfig.{FuseConfig}
use Rattle.lictor_core.specs.declared.fuse.Control.{Control}
use Rattle.lictor_core.specs.Cases.{by_state, by_option, by_decision}
use Rattle.lictor_core.specs.Codes.{is_state, is_auto}
use Rattle.lictor_core.specs.Masks.{any_of, fault_bits, brake_bit, tier0_soft, tier1_cp, clamp_budget, handoff_timeout, operator_abort, brake_timeout, rearm_budget}
use Rattle.lictor_core.specs.Num.{sat_up, wrap_up}
use Rattle.lictor_table.specs.declared.FsmInput.{FsmInput}
use Rattle.lictor_table.specs.declared.Turn.{Turn}
use Rattle.lictor_table.specs.Fields.{with_window, with_clean_run, with_clamp_streak, with_clamps, with_brake_ticks, with_stopped_ticks, with_held_ticks, with_held_clean, with_escalated_ticks, with_rearms, with_handoff_seq, with_handoff_pending}
use Rattle.lictor_table.specs.Helpers.{fault_reason, clamp_reason, armed_reason, accepted_ack, consume_nonce, latch_hold, count_if, up_if, clean_of, count_run, to, settled_of}

-- ---- row 1

unfoldable pub fault_row : FuseConfig → Control → List Float → FuseState → ℕ → Turn
fault_row cfg rt pos from trips =
    cond (is_state from Fault) (to Fault 0 (fault_reason trips) rt) (to Fault 0 (fault_reason trips) (latch_hold cfg pos rt))

-- ---- Escalated and the acknowledgements

abbrev pub rearmed : Control → Control
rearmed rt =
    with_handoff_pending false (with_escalated_ticks 0 (with_held_clean 0 (with_held_ticks 0 (with_clamp_streak 0 (with_clean_run 0
    (with_window (record { bits = 0 }) (with_rearms (sat_up 8 rt.rearms) rt)))))))

-- fsm.rs, rearm_ack
unfoldable pub rearm_ack : VerifiedAck → Control → Control
rearm_ack a rt = rearmed (consume_nonce a rt)

-- rows 6 and 9
unfoldable pub resume_row : Control → VerifiedAck → Turn
resume_row rt a = to Armed 0 R.RearmedAck (rearm_ack a rt)

-- rows 4, 5 and 10
unfoldable pub terminate_row : Control → VerifiedAck → ℕ → ReasonCode → Turn
terminate_row rt a extra reason = to Terminated extra reason (with_handoff_pending false (consume_nonce a rt))

-- row 7
unfoldable pub timeout_row : Control → Turn
timeout_row rt = to Terminated handoff_timeout R.TerminatedTimeout (with_handoff_pending false rt)

-- row 8
unfoldable pub wait_row : Control → Turn
wait_row rt = to Escalated 0 R.HeldStandstill (with_escalated_ticks (sat_up 32 rt.escalated_ticks) rt)

-- rows 7 and 8
unfoldable pub unanswered_of : ℕ → Control → Turn
unanswered_of limit rt = cond (leb limit rt.escalated_ticks) (timeout_row rt) (wait_row rt)

-- rows 4 to 8
unfoldable pub escalated_of : ℕ → Control → Option VerifiedAck → Turn
escalated_of limit rt ack =
    by_option ack (unanswered_of limit rt)
    (λ a. by_decision a.decision (resume_row rt a) (terminate_row rt a operator_abort R.TerminatedAbort) (terminate_row rt a 0 R.TerminatedRetune))

-- ---- Held

unfoldable pub may_rearm : RearmPolicy → ℕ → ℕ → Bool → ℕ → ℕ → Bool
may_rearm policy clean need ok rearms most = is_auto policy && (leb need clean && (ok && ltb rearms most))

-- row 11
unfoldable pub rearm_row : Control → Turn
rearm_row rt = to Armed 0 R.RearmedAuto (with_window (record { bits = 0 }) (with_rearms (sat_up 8 rt.rearms) rt))

-- row 12
unfoldable pub escalate_row : Control → ℕ → ReasonCode → Turn
escalate_row rt extra reason =
    to Escalated extra reason (with_escalated_ticks 0 (with_handoff_pending true (with_handoff_seq (wrap_up 32 rt.handoff_seq) rt)))

-- row 13
unfoldable pub hold_row : Control → Bool → Turn
hold_row rt clean =
    to Held 0 R.HeldStandstill (with_held_clean (count_if 16 clean rt.held_clean) (with_held_ticks (sat_up 16 rt.held_ticks) rt))

-- rows 11 to 13; row 12's time limit is asked for with each of its reasons
unfoldable pub holding_of : FuseConfig → Control → Bool → FsmInput → Turn
holding_of cfg rt clean inp =
    cond (may_rearm cfg.rearm rt.held_clean cfg.hyst.rearm_hold inp.chunk_ok rt.rearms cfg.hyst.max_rearms) (rearm_row rt)
    (cond (leb cfg.hyst.escalate_after_hold_ticks rt.held_ticks && leb cfg.hyst.max_rearms rt.rearms) (escalate_row rt rearm_budget R.EscalateRearmBudget)
    (cond (leb cfg.hyst.escalate_after_hold_ticks rt.held_ticks && inp.predictive) (escalate_row rt 0 R.EscalateTier1Persistent)
    (cond (leb cfg.hyst.escalate_after_hold_ticks rt.held_ticks) (escalate_row rt 0 R.EscalateHoldTimeout)
    (hold_row rt clean))))

-- rows 9 to 13
unfoldable pub held_of : FuseConfig → Control → Bool → Option VerifiedAck → FsmInput → Turn
held_of cfg rt clean ack inp =
    by_option ack (holding_of cfg rt clean inp)
    (λ a. by_decision a.decision (resume_row rt a) (terminate_row rt a operator_abort R.TerminatedAbort) (holding_of cfg rt clean inp))

-- ---- Braking

unfoldable pub confirmed_of : Bool → ℕ → ℕ → Bool
confirmed_of stopped ticks need = stopped && leb need (ticks + 1)

-- row 15
unfoldable pub standstill_row : FuseConfig → Control → List Float → Turn
standstill_row cfg rt pos = to Held 0 R.HeldStandstill (with_held_clean 0 (with_held_ticks 0 (latch_hold cfg pos rt)))

-- row 16
unfoldable pub stopping_row : Control → Bool → Turn
stopping_row rt stopped =
    to Braking 0 R.Stopping (with_stopped_ticks (count_if 8 stopped rt.stopped_ticks) (with_brake_ticks (sat_up 16 rt.brake_ticks) rt))

-- rows 14 to 16
unfoldable pub braking_of : FuseConfig → Control → List Float → FsmInput → Turn
braking_of cfg rt pos inp =
    cond (leb cfg.hyst.brake_timeout_ticks rt.brake_ticks) (to Fault brake_timeout R.FaultBrakeTimeout (latch_hold cfg pos rt))
    (cond (confirmed_of inp.stopped rt.stopped_ticks cfg.hyst.stop_confirm_ticks) (standstill_row cfg rt pos)
    (stopping_row rt inp.stopped))

-- ---- Running

unfoldable pub enter_braking : Control → Control
enter_braking rt = with_stopped_ticks 0 (with_brake_ticks 0 rt)

-- rows 17, 17b, 18 and 19
unfoldable pub brake_row : Control → ℕ → ReasonCode → Turn
brake_row rt extra reason = to Braking extra reason (enter_braking rt)

unfoldable pub unclampable_of : ℕ → Bool → Bool
unclampable_of soft clampable = not (eqb soft 0) && not clampable

unfoldable pub over_budget : ℕ → ℕ → ℕ → ℕ → Bool
over_budget streak limit clamps most = leb limit streak || ltb most clamps

-- row 20
unfoldable pub clamp_row : Control → Bool → ℕ → Turn
clamp_row rt boundary soft =
    to Clamped 0 (clamp_reason soft) (with_clamp_streak (up_if 8 boundary rt.clamp_streak) (with_clamps (sat_up 16 rt.clamps) rt))

unfoldable pub cleared_of : FuseState → ℕ → ℕ → Bool
cleared_of from need run = not (is_state from Armed) && leb need run

-- row 21
unfoldable pub clear_row : Control → Turn
clear_row rt = to Armed 0 R.Ok (with_clamp_streak 0 (with_window (record { bits = 0 }) rt))

unfoldable pub watched_of : Bool → ℕ → Bool
watched_of warn bits = warn || leb 1 (ones bits)

-- rows 21 to 23 and the stay rows
unfoldable pub quiet_of : FuseConfig → Control → FuseState → Bool → Turn
quiet_of cfg rt from warn =
    cond (cleared_of from cfg.hyst.clear_ticks rt.clean_run) (clear_row rt)
    (cond (watched_of warn rt.window.bits) (to Watching 0 R.WatchBand rt)
    (cond (is_state from Armed) (to Armed 0 (armed_reason cfg.mode) rt)
    (cond (is_state from Watching) (to Watching 0 R.WatchBand rt)
    (to Clamped 0 R.Ok rt))))

-- rows 17 to 20, then the rest
unfoldable pub running_of : FuseConfig → Control → FuseState → FsmInput → Turn
running_of cfg rt from inp =
    cond (any_of inp.trips brake_bit) (brake_row rt 0 R.BrakeInfeasible)
    (cond (unclampable_of (bit_and inp.trips tier0_soft) inp.soft_clampable) (brake_row rt 0 (clamp_reason (bit_and inp.trips tier0_soft)))
    (cond inp.predictive (brake_row rt tier1_cp R.BrakeTier1Cp)
    (cond (over_budget rt.clamp_streak cfg.hyst.clamp_streak_to_brake rt.clamps cfg.hyst.max_clamps_per_episode) (brake_row rt clamp_budget R.BrakeClampBudget)
    (cond (not (eqb (bit_and inp.trips tier0_soft) 0)) (clamp_row rt inp.chunk_boundary (bit_and inp.trips tier0_soft))
    (quiet_of cfg rt from inp.warn)))))

-- ---- the whole

unfoldable pub by_from : FuseConfig → Control → List Float → FuseState → Bool → Option VerifiedAck → FsmInput → Turn
by_from cfg rt pos from clean ack inp =
    by_state from
    (to Fault 0 R.FaultInternal (latch_hold cfg pos rt))
    (running_of cfg rt from inp)
    (running_of cfg rt from inp)
    (running_of cfg rt from inp)
    (braking_of cfg rt pos inp)
    (held_of cfg rt clean ack inp)
    (escalated_of cfg.hyst.handoff_timeout_ticks rt ack)
    (to Fault 0 R.HeldStandstill rt)
    (to Terminated 0 R.HeldStandstill rt)

-- fsm.rs, transition
unfoldable pub transition_of : FuseConfig → Control → List Float → FuseState → Bool → Option VerifiedAck → FsmInput → Turn
transition_of cfg rt pos from clean ack inp =
    cond (any_of inp.trips fault_bits) (fault_row cfg rt pos from inp.trips) (by_from cfg rt pos from clean ack inp)

-- fsm.rs, next
unfoldable pub next_by_rows : FuseConfig → Control → List Float → FsmInput → Turn
next_by_rows cfg rt pos inp =
    settled_of (transition_of cfg (count_run (clean_of inp) rt) pos rt.state (clean_of inp) (accepted_ack rt.handoff_seq rt.last_nonce inp.ack) inp)
