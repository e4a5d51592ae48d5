-- The transition table (01-scope.md, One tick, Transitions; bits, reasons and counters as in
-- fsm.rs): a list of lines, of which the first that applies decides.
-- It is at the end of this file; before it come the words that it is written with.
use Rattle.std.specs.Prelude.{Bool, true, false, cond, not, ◌&&◌, ◌||◌, List, [], ◌∷◌, ℕ, ◌+◌, ltb, leb, Float, Option}
use Rattle.lictor_core.specs.declared.ack.VerifiedAck.{VerifiedAck}
use Rattle.std.specs.Int.Bits.{bit_and}
use Rattle.std.specs.Int.Count.{ones}
use Rattle.lictor_core.specs.declared.state.FuseState.{FuseState}
use Rattle.lictor_core.specs.declared.state.FuseState.TheVariants.{Idle, Armed, Watching, Clamped, Braking, Held, Escalated, Fault, Terminated}
use Rattle.lictor_core.specs.declared.reason.ReasonCode.{ReasonCode}
use Rattle.lictor_core.specs.declared.reason.ReasonCode.TheVariants as R
use Rattle.lictor_core.specs.declared.ack.AckDecision.{AckDecision}
use Rattle.lictor_core.specs.declared.ack.AckDecision.TheVariants.{Resume, Abort, Retune}
use Rattle.lictor_core.specs.declared.envelope.FuseConfig.{FuseConfig}
use Rattle.lictor_core.specs.declared.fuse.Control.{Control}
use Rattle.lictor_core.specs.Cases.{by_option, by_decision}
use Rattle.lictor_core.specs.Codes.{is_state, is_auto}
use Rattle.lictor_core.specs.FirstThat.{first_that}
use Rattle.lictor_core.specs.Masks.{any_of, fault_bits, brake_bit, tier0_soft, tier1_cp, clamp_budget, handoff_timeout, operator_abort, brake_timeout, rearm_budget}
use Rattle.lictor_core.specs.Num.{sat_up, wrap_up}
use Rattle.lictor_table.specs.declared.FsmInput.{FsmInput}
use Rattle.lictor_table.specs.declared.Turn.{Turn}
use Rattle.lictor_table.specs.Fields.{with_window, with_clean_run, with_clamp_streak, with_clamps, with_brake_ticks, with_stopped_ticks, with_held_ticks, with_held_clean, with_escalated_ticks, with_rearms, with_handoff_seq, with_handoff_pending}
use Rattle.lictor_table.specs.Helpers.{fault_reason, clamp_reason, armed_reason, accepted_ack, consume_nonce, latch_hold, count_if, up_if, clean_of, count_run, to, settled_of}

infix 70 for◌when◌goto◌bits◌reason◌change◌
infixl 75 ◌then◌
infixr 75 ◌and◌
infixr 74 ◌or◌
infix 80 ◌at_least◌ ◌above◌ ◌below◌
infix 85 ◌+1
-- What a line may look at: the settings, the machine's part of the run state with clean_run
-- updated, the position, the state that the tick starts from, whether the tick is clean, the
-- acknowledgement if it is accepted, and the input.
pub record Facts : Type 0 where
  pub cfg : FuseConfig
  pub rt : Control
  pub pos : List Float
  pub from : FuseState
  pub clean : Bool
  pub ack : Option VerifiedAck
  pub inp : FsmInput

-- ---- a line and its columns

abbrev pub States : Type 0
States = FuseState → Bool

abbrev pub Test : Type 0
Test = Facts → Bool

abbrev pub Number : Type 0
Number = Facts → ℕ

abbrev pub Reason : Type 0
Reason = Facts → ReasonCode

abbrev pub Change : Type 0
Change = Facts → Control → Control

pub record TableLine : Type 0 where
  pub states : States
  pub test : Test
  pub next : FuseState
  pub extra : ℕ
  pub reason : Reason
  pub change : Change

abbrev pub for◌when◌goto◌bits◌reason◌change◌ : States → Test → FuseState → ℕ → Reason → Change → TableLine
for◌when◌goto◌bits◌reason◌change◌ s t q b w c = record { states = s; test = t; next = q; extra = b; reason = w; change = c }

abbrev pub applies : TableLine → Facts → Bool
applies l x = l.states x.from && l.test x

abbrev pub does : TableLine → Facts → Turn
does l x = to l.next l.extra (l.reason x) (l.change x x.rt)

-- the first line that applies decides (`none`: the answer if none does; of the table below some
-- line always does, proofs/ByTable)
abbrev pub first_of : Turn → List TableLine → Facts → Turn
first_of none ls x = first_that (λ l. applies l x) (λ l. does l x) none ls

-- ---- states

abbrev pub any_state : States
any_state s = true

abbrev pub only : FuseState → States
only q s = is_state q s

abbrev pub watching_or_clamped : States
watching_or_clamped s = only Watching s || only Clamped s

abbrev pub running : States
running s = only Armed s || watching_or_clamped s

-- ---- numbers: the settings' limits

abbrev pub B : Number
B x = x.cfg.hyst.brake_timeout_ticks

abbrev pub H : Number
H x = x.cfg.hyst.escalate_after_hold_ticks

abbrev pub E : Number
E x = x.cfg.hyst.handoff_timeout_ticks

abbrev pub confirm : Number
confirm x = x.cfg.hyst.stop_confirm_ticks

abbrev pub rearm_hold : Number
rearm_hold x = x.cfg.hyst.rearm_hold

abbrev pub max_rearms : Number
max_rearms x = x.cfg.hyst.max_rearms

abbrev pub clear_ticks : Number
clear_ticks x = x.cfg.hyst.clear_ticks

abbrev pub streak_limit : Number
streak_limit x = x.cfg.hyst.clamp_streak_to_brake

abbrev pub clamp_limit : Number
clamp_limit x = x.cfg.hyst.max_clamps_per_episode

-- ---- numbers: the counts of the run state

abbrev pub brake_ticks : Number
brake_ticks x = x.rt.brake_ticks

abbrev pub stopped_ticks : Number
stopped_ticks x = x.rt.stopped_ticks

abbrev pub held_ticks : Number
held_ticks x = x.rt.held_ticks

abbrev pub held_clean : Number
held_clean x = x.rt.held_clean

abbrev pub escalated_ticks : Number
escalated_ticks x = x.rt.escalated_ticks

abbrev pub rearms : Number
rearms x = x.rt.rearms

abbrev pub clamp_streak : Number
clamp_streak x = x.rt.clamp_streak

abbrev pub clamps : Number
clamps x = x.rt.clamps

abbrev pub clean_run : Number
clean_run x = x.rt.clean_run

-- hits in the window (window.rs)
abbrev pub hits : Number
hits x = ones x.rt.window.bits

abbrev pub one : Number
one x = 1

-- with no ceiling
abbrev pub ◌+1 : Number → Number
◌+1 n x = n x + 1

-- ---- tests

abbrev pub always : Test
always x = true

abbrev pub ◌at_least◌ : Number → Number → Test
◌at_least◌ a b x = leb (b x) (a x)

abbrev pub ◌above◌ : Number → Number → Test
◌above◌ a b x = ltb (b x) (a x)

abbrev pub ◌below◌ : Number → Number → Test
◌below◌ a b x = ltb (a x) (b x)

abbrev pub ◌and◌ : Test → Test → Test
◌and◌ s t x = s x && t x

abbrev pub ◌or◌ : Test → Test → Test
◌or◌ s t x = s x || t x

-- the trips hold a bit of the mask
abbrev pub trip : ℕ → Test
trip mask x = any_of x.inp.trips mask

abbrev pub clamping_off : Test
clamping_off x = not x.inp.soft_clampable

abbrev pub predictive : Test
predictive x = x.inp.predictive

abbrev pub warned : Test
warned x = x.inp.warn

abbrev pub stopped : Test
stopped x = x.inp.stopped

abbrev pub chunk_ok : Test
chunk_ok x = x.inp.chunk_ok

abbrev pub policy_auto : Test
policy_auto x = is_auto x.cfg.rearm

abbrev pub is_decision : AckDecision → AckDecision → Bool
is_decision d e = by_decision d (by_decision e true false false) (by_decision e false true false) (by_decision e false false true)

-- an accepted acknowledgement says d
abbrev pub accepted : AckDecision → Test
accepted d x = by_option x.ack false (λ a. is_decision d a.decision)

-- ---- reasons

abbrev pub say : ReasonCode → Reason
say w x = w

abbrev pub fault_cause : Reason
fault_cause x = fault_reason x.inp.trips

abbrev pub clamp_cause : Reason
clamp_cause x = clamp_reason (bit_and x.inp.trips tier0_soft)

abbrev pub observe_or_ok : Reason
observe_or_ok x = armed_reason x.cfg.mode

-- ---- changes of the run state

abbrev pub nothing : Change
nothing x r = r

-- the first, then the second
abbrev pub ◌then◌ : Change → Change → Change
◌then◌ f g x r = g x (f x r)

abbrev pub latch : Change
latch x r = latch_hold x.cfg x.pos r

abbrev pub latch_unless_fault : Change
latch_unless_fault x r = cond (only Fault x.from) r (latch_hold x.cfg x.pos r)

abbrev pub store_nonce : Change
store_nonce x r = by_option x.ack r (λ a. consume_nonce a r)

abbrev pub end_handoff : Change
end_handoff x r = with_handoff_pending false r

abbrev pub begin_handoff : Change
begin_handoff x r = with_escalated_ticks 0 (with_handoff_pending true (with_handoff_seq (wrap_up 32 r.handoff_seq) r))

abbrev pub count_rearm : Change
count_rearm x r = with_rearms (sat_up 8 r.rearms) r

abbrev pub clear_window : Change
clear_window x r = with_window (record { bits = 0 }) r

abbrev pub clear_streak : Change
clear_streak x r = with_clamp_streak 0 r

abbrev pub clear_run : Change
clear_run x r = with_clean_run 0 r

-- fsm.rs, enter_braking
abbrev pub clear_brake : Change
clear_brake x r = with_stopped_ticks 0 (with_brake_ticks 0 r)

abbrev pub clear_held : Change
clear_held x r = with_held_clean 0 (with_held_ticks 0 r)

abbrev pub clear_wait : Change
clear_wait x r = with_escalated_ticks 0 r

-- fsm.rs, rearm_ack, after its nonce: a Resume counts as a rearm and clears all this
abbrev pub rearm : Change
rearm = count_rearm then clear_window then clear_run then clear_streak then clear_held then clear_wait then end_handoff

abbrev pub count_wait : Change
count_wait x r = with_escalated_ticks (sat_up 32 r.escalated_ticks) r

abbrev pub count_held : Change
count_held x r = with_held_clean (count_if 16 x.clean r.held_clean) (with_held_ticks (sat_up 16 r.held_ticks) r)

abbrev pub count_brake : Change
count_brake x r = with_stopped_ticks (count_if 8 x.inp.stopped r.stopped_ticks) (with_brake_ticks (sat_up 16 r.brake_ticks) r)

abbrev pub count_clamp : Change
count_clamp x r = with_clamps (sat_up 16 r.clamps) r

-- the streak goes up only on a tick that delivers a chunk
abbrev pub count_streak : Change
count_streak x r = with_clamp_streak (up_if 8 x.inp.chunk_boundary r.clamp_streak) r

-- ---- the table

-- Beside each line: its row in fsm.rs, and its place in 01-scope.md, Transitions.
unfoldable pub table : List TableLine
table =
    -- row 1; Any state
    for any_state when trip fault_bits goto Fault bits 0 reason fault_cause change latch_unless_fault
    -- rows 2 and 3; Terminated, Fault
    ∷ for only Terminated when always goto Terminated bits 0 reason say R.HeldStandstill change nothing
    ∷ for only Fault when always goto Fault bits 0 reason say R.HeldStandstill change nothing
    -- row 4; Escalated, Abort
    ∷ for only Escalated when accepted Abort goto Terminated bits operator_abort reason say R.TerminatedAbort change store_nonce then end_handoff
    -- row 5; Escalated, Retune
    ∷ for only Escalated when accepted Retune goto Terminated bits 0 reason say R.TerminatedRetune change store_nonce then end_handoff
    -- row 6; Escalated, Resume
    ∷ for only Escalated when accepted Resume goto Armed bits 0 reason say R.RearmedAck change store_nonce then rearm
    -- row 7; Escalated, the handoff limit
    ∷ for only Escalated when escalated_ticks at_least E goto Terminated bits handoff_timeout reason say R.TerminatedTimeout change end_handoff
    -- row 8; Escalated, else
    ∷ for only Escalated when always goto Escalated bits 0 reason say R.HeldStandstill change count_wait
    -- row 9; Held, Resume
    ∷ for only Held when accepted Resume goto Armed bits 0 reason say R.RearmedAck change store_nonce then rearm
    -- row 10; Held, Abort (a Retune has no line here)
    ∷ for only Held when accepted Abort goto Terminated bits operator_abort reason say R.TerminatedAbort change store_nonce then end_handoff
    -- row 11; Held, automatic rearm
    ∷ for only Held when policy_auto and held_clean at_least rearm_hold and chunk_ok and rearms below max_rearms goto Armed bits 0 reason say R.RearmedAuto change count_rearm then clear_window
    -- row 12, with its three reasons; Held, the hold limit
    ∷ for only Held when held_ticks at_least H and rearms at_least max_rearms goto Escalated bits rearm_budget reason say R.EscalateRearmBudget change begin_handoff
    ∷ for only Held when held_ticks at_least H and predictive goto Escalated bits 0 reason say R.EscalateTier1Persistent change begin_handoff
    ∷ for only Held when held_ticks at_least H goto Escalated bits 0 reason say R.EscalateHoldTimeout change begin_handoff
    -- row 13; Held, else
    ∷ for only Held when always goto Held bits 0 reason say R.HeldStandstill change count_held
    -- row 14; Braking, the brake limit
    ∷ for only Braking when brake_ticks at_least B goto Fault bits brake_timeout reason say R.FaultBrakeTimeout change latch
    -- row 15; Braking, standstill
    ∷ for only Braking when stopped and stopped_ticks +1 at_least confirm goto Held bits 0 reason say R.HeldStandstill change latch then clear_held
    -- row 16; Braking, else
    ∷ for only Braking when always goto Braking bits 0 reason say R.Stopping change count_brake
    -- row 17; Running, BRAKE
    ∷ for running when trip brake_bit goto Braking bits 0 reason say R.BrakeInfeasible change clear_brake
    -- row 17b; Running, a soft trip that no clamp mends
    ∷ for running when trip tier0_soft and clamping_off goto Braking bits 0 reason clamp_cause change clear_brake
    -- row 18; Running, predictive
    ∷ for running when predictive goto Braking bits tier1_cp reason say R.BrakeTier1Cp change clear_brake
    -- row 19; Running, the limits on clamping, before this tick's clamp is counted
    ∷ for running when clamp_streak at_least streak_limit or clamps above clamp_limit goto Braking bits clamp_budget reason say R.BrakeClampBudget change clear_brake
    -- row 20; Running, a soft trip
    ∷ for running when trip tier0_soft goto Clamped bits 0 reason clamp_cause change count_clamp then count_streak
    -- row 21; Running, clearing
    ∷ for watching_or_clamped when clean_run at_least clear_ticks goto Armed bits 0 reason say R.Ok change clear_window then clear_streak
    -- row 22; Running, watch
    ∷ for running when warned or hits at_least one goto Watching bits 0 reason say R.WatchBand change nothing
    -- row 23 and the two stay rows; Running, stay
    ∷ for only Armed when always goto Armed bits 0 reason observe_or_ok change nothing
    ∷ for only Watching when always goto Watching bits 0 reason say R.WatchBand change nothing
    ∷ for only Clamped when always goto Clamped bits 0 reason say R.Ok change nothing
    -- the last arm; Idle
    ∷ for only Idle when always goto Fault bits 0 reason say R.FaultInternal change latch
    ∷ []

-- ---- one tick

-- what the lines look at: clean_run is updated before, and an acknowledgement counts only if it is
-- accepted
abbrev pub facts_of : FuseState → FuseConfig → Control → List Float → FsmInput → Facts
facts_of from cfg rt pos inp =
    record {
      cfg = cfg;
      rt = count_run (clean_of inp) rt;
      pos = pos;
      from = from;
      clean = clean_of inp;
      ack = accepted_ack rt.handoff_seq rt.last_nonce inp.ack;
      inp = inp;
    }

-- a tick from the state `from`
unfoldable pub next_from : FuseState → FuseConfig → Control → List Float → FsmInput → Turn
next_from from cfg rt pos inp = settled_of (first_of (to Fault 0 R.FaultInternal rt) table (facts_of from cfg rt pos inp))

-- what the table says of a tick: its answer, with the state that it ends in stored in the run state
-- (fsm.rs, next)
unfoldable pub next_of : FuseConfig → Control → List Float → FsmInput → Turn
next_of cfg rt pos inp = next_from rt.state cfg rt pos inp
