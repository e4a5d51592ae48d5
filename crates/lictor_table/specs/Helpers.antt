-- What the small functions of fsm.rs compute: reasons, acceptance, nonces, the latched hold,
-- counts. The table is written with these.
use Rattle.std.specs.Prelude.{Bool, cond, not, ◌&&◌, List, ℕ, min, ltb, eqb, set, get_or, Float, None, Some, Option}
use Rattle.std.specs.Float.{nan}
use Rattle.fmath.specs.Float.{clamp_of}
use Rattle.lictor_core.specs.declared.state.FuseState.{FuseState}
use Rattle.lictor_core.specs.declared.state.FuseMode.{FuseMode}
use Rattle.lictor_core.specs.declared.reason.ReasonCode.{ReasonCode}
use Rattle.lictor_core.specs.declared.reason.ReasonCode.TheVariants as R
use Rattle.lictor_core.specs.declared.ack.VerifiedAck.{VerifiedAck}
use Rattle.lictor_core.specs.declared.envelope.FuseConfig.{FuseConfig}
use Rattle.lictor_core.specs.declared.fuse.Control.{Control}
use Rattle.lictor_core.specs.Cases.{by_option}
use Rattle.lictor_core.specs.Codes.{is_observe}
use Rattle.lictor_core.specs.Masks.{any_of, workspace, speed, accel, jerk, reach, nonfinite, schema}
use Rattle.lictor_core.specs.Num.{sat_up}
use Rattle.lictor_core.specs.Rows.{row_to}
use Rattle.lictor_core.specs.Sizes.{max_pos, operators}
use Rattle.lictor_table.specs.declared.FsmInput.{FsmInput}
use Rattle.lictor_table.specs.declared.Turn.{Turn}
use Rattle.lictor_table.specs.Fields.{with_state, with_hold, with_clean_run, with_nonces}

-- ---- reasons

-- the first fault bit in the order NONFINITE, SCHEMA, WATCHDOG (fsm.rs, fault_reason)
unfoldable pub fault_reason : ℕ → ReasonCode
fault_reason trips = cond (any_of trips nonfinite) R.FaultNonFinite (cond (any_of trips schema) R.FaultSchema R.FaultWatchdog)

-- the clamp cause: the lowest soft bit names it (fsm.rs, clamp_reason)
unfoldable pub clamp_reason : ℕ → ReasonCode
clamp_reason soft =
    cond (any_of soft workspace) R.ClampWorkspace
    (cond (any_of soft speed) R.ClampSpeed
    (cond (any_of soft accel) R.ClampAccel
    (cond (any_of soft jerk) R.ClampJerk
    (cond (any_of soft reach) R.ClampReach R.ClampContact))))

-- the reason of a tick that stays Armed (fsm.rs, row 23)
unfoldable pub armed_reason : FuseMode → ReasonCode
armed_reason mode = cond (is_observe mode) R.ObserveOnly R.Ok

-- ---- acknowledgements

-- whether an acknowledgement is accepted, given the current handoff number and the stored nonces
-- (01-scope.md, Transitions, the line on acceptance)
unfoldable pub accepted_by : ℕ → List ℕ → VerifiedAck → Bool
accepted_by handoff nonces a =
    ltb a.operator_slot operators && (eqb a.handoff_seq handoff && ltb (get_or nonces a.operator_slot 0) a.nonce)

-- the acknowledgement that came, if it is accepted (fsm.rs, accepted_ack)
unfoldable pub accepted_ack : ℕ → List ℕ → Option VerifiedAck → Option VerifiedAck
accepted_ack handoff nonces ack = by_option ack None (λ a. cond (accepted_by handoff nonces a) (Some a) None)

-- its nonce is the stored one of its slot from now on, the other seven stay (fsm.rs, consume_nonce;
-- past the eighth slot nothing changes)
unfoldable pub consume_nonce : VerifiedAck → Control → Control
consume_nonce a r = with_nonces (set r.last_nonce a.operator_slot a.nonce) r

-- ---- the hold

-- `hold` with its first n components those of the position, each clamped to its box
unfoldable pub latched_of : List Float → List Float → List Float → List Float → ℕ → List Float
latched_of pos lo hi hold n = row_to (λ k. clamp_of (get_or pos k nan) (get_or lo k nan) (get_or hi k nan)) hold n

-- the hold latched at the position, in the live components (fsm.rs, latch_hold)
unfoldable pub latch_hold : FuseConfig → List Float → Control → Control
latch_hold cfg pos r = with_hold (latched_of pos cfg.box_lo cfg.box_hi r.hold (min cfg.pos_dim max_pos)) r

-- ---- counts

-- one more of k bits where the test holds, 0 where it does not
unfoldable pub count_if : ℕ → Bool → ℕ → ℕ
count_if k t n = cond t (sat_up k n) 0

-- one more of k bits where the test holds, else the same
unfoldable pub up_if : ℕ → Bool → ℕ → ℕ
up_if k t n = cond t (sat_up k n) n

-- a clean tick in the narrow sense: no trip at all, no warning, not predictive (fsm.rs, next)
unfoldable pub is_clean : ℕ → Bool → Bool → Bool
is_clean trips warn predictive = eqb trips 0 && (not warn && not predictive)

abbrev pub clean_of : FsmInput → Bool
clean_of inp = is_clean inp.trips inp.warn inp.predictive

-- clean_run goes up on a clean tick and to 0 on another, in every state
unfoldable pub count_run : Bool → Control → Control
count_run clean r = with_clean_run (count_if 16 clean r.clean_run) r

-- ---- the answer

abbrev pub to : FuseState → ℕ → ReasonCode → Control → Turn
to s x w r = record { rt = r; state = s; extra = x; reason = w }

-- the state that a tick ends in is stored
unfoldable pub settled_of : Turn → Turn
settled_of t = to t.state t.extra t.reason (with_state t.state t.rt)
