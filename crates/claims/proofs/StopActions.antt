-- The ticks that stop the arm: the proofs of specs/StopActions.
use mathlib.Core.Path.{◌≡◌, refl, ◌∙◌, ap}
use mathlib.Core.Bool.{Bool, true, false, cond, not, ◌&&◌}
use mathlib.Core.List.{List, [], ◌∷◌}
use Prim.Native.Nat.{◌+◌, ◌-◌, ◌^◌, min}
use native.Mathlib.Omega.{arith}
use lib.Dec.{T, T_not, eqb}
use lib.Ieee.{Float}
use Rattle.lictor_core.specs.declared.envelope.FuseConfig.{FuseConfig}
use Rattle.lictor_core.specs.declared.fuse.FuseRt.{FuseRt}
use Rattle.lictor_core.specs.declared.fuse.Motion.{Motion}
use Rattle.lictor_core.specs.declared.outcome.Outcome.{Outcome}
use Rattle.lictor_core.specs.declared.state.FuseMode.TheVariants.{Observe, Enforce}
use Rattle.lictor_core.specs.declared.state.FuseState.{FuseState}
use Rattle.lictor_core.specs.declared.state.FuseState.TheVariants as S
use Rattle.lictor_core.specs.declared.verdict.SafetyVerdict.{SafetyVerdict}
use Rattle.lictor_core.specs.Codes.{mode_of, is_state, is_stop, is_stop_action}
use Rattle.lictor_core.specs.Initial.{new_of, reset_of}
use Rattle.lictor_settings.specs.Settings.{config_of}
use Rattle.lictor_stages.specs.Act.{source_of, passed_of, instead_of, enforced_of, by_mode, act_of}
use Rattle.lictor_stages.specs.Ingest.{ingest_of}
use Rattle.lictor_stages.specs.Verdict.{verdict_of}
use Rattle.lictor_tally.specs.History as H
use Rattle.lictor_tally.specs.Tally.{stops_arm}
use Rattle.lictor_tally.proofs.History.{history}
use Rattle.lictor_fuse.specs.declared.decide.Decided.{Decided}
use Rattle.lictor_fuse.specs.declared.Ticked.{Ticked}
use Rattle.lictor_fuse.specs.CleanTick.{close_clean, clean_tick}
use Rattle.lictor_fuse.specs.FaultTick.{fault_motion, fault_input, fault_verdict, close_fault, fault_tick}
use Rattle.lictor_fuse.specs.Closed.{closed_of}
use Rattle.lictor_fuse.specs.Tick.{is_accepted, given_of, refused_tick}
use Rattle.claims.specs.Runs.{All, silent, event, and_then}
use Rattle.claims.specs.Calls.{Call, tick_answer, settings_pass, guard_bits, left_by}
use Rattle.claims.specs.Tallies.{how_many, ended_in, history_from, verdicts_from, TallyTold}
use Rattle.claims.specs.StopActions.{InMode, verdict_on, TickStops, StopActionsOf, StopActionsTold}
use Rattle.claims.proofs.ClockEnd.{row_one}
use Rattle.claims.proofs.Tick.{by_call, by_guard, decided, clean_turn, fault_turn, guard_faults, holds_true}
use Rattle.std.proofs.Math.Bool.{and-false}
use Rattle.claims.proofs.Tallies.{same_number, tally_told}

-- ---- the action of a clean tick, by the state that it ends in

module _ (cfg : FuseConfig) (m : Motion) (hold : List Float) (out : Outcome) where
  -- Observe passes the policy's row
  passes : (s : FuseState) → cfg.mode ≡ Observe → (is_stop s && is_stop_action (act_of cfg s m hold out).src) ≡ false
  unfolding act_of by_mode passed_of
  passes s e = rw e (and-false (is_stop s))

  -- Enforce passes no row in a stop state
  stands : (s : FuseState) → cfg.mode ≡ Enforce → (is_stop s && is_stop_action (act_of cfg s m hold out).src) ≡ is_stop s
  unfolding act_of by_mode enforced_of source_of passed_of instead_of
  stands S.Idle e = refl
  stands S.Armed e = refl
  stands S.Watching e = refl
  stands S.Clamped e = refl
  stands S.Braking e = rw e
  stands S.Held e = rw e
  stands S.Escalated e = rw e
  stands S.Fault e = rw e
  stands S.Terminated e = rw e

-- ---- one tick

and_true : (b : Bool) → (b && true) ≡ b
and_true true = refl
and_true false = refl

module _ (r : FuseRt) (c : Call) where
  -- a fault tick ends in Fault
  in_fault : T (not (eqb (guard_bits r c) 0)) → (fault_turn r c).state ≡ S.Fault
  unfolding fault_input
  in_fault h =
      (row_one (config_of c.settings) r.control (fault_motion (config_of c.settings) r.motion c.pos).pos
      (fault_input (config_of c.settings) c.input (guard_bits r c)) (guard_faults r c ∙ holds_true (not (eqb (guard_bits r c) 0)) h)).0

  guard_stops : T (not (eqb (guard_bits r c) 0)) → T (stops_arm (decided r c).verdict)
  unfolding fault_tick close_fault closed_of fault_verdict
  guard_stops = by_guard (λ b (d : Decided). T (not b) → T (stops_arm d.verdict)) r c (λ h k. absurd k) (λ h k. rw (in_fault h) tt)

  -- how a clean tick finds the arm
  abbrev moved : Motion
  moved = ingest_of (config_of c.settings) r.motion c.input.has_vel c.pos c.vel

  clean_passes : mode_of c.settings.mode ≡ Observe → T (eqb (guard_bits r c) 0) → stops_arm (decided r c).verdict ≡ false
  unfolding clean_tick close_clean closed_of verdict_of config_of
  clean_passes e =
      by_guard (λ b (d : Decided). T b → stops_arm d.verdict ≡ false) r c
      (λ h k. passes (config_of c.settings) moved (clean_turn r c).rt.hold c.outcome (clean_turn r c).state e) (λ h k. absurd k)

  by_state_alone : mode_of c.settings.mode ≡ Enforce → stops_arm (decided r c).verdict ≡ is_stop (decided r c).verdict.state
  unfolding clean_tick close_clean fault_tick close_fault closed_of verdict_of fault_verdict config_of
  by_state_alone e =
      by_guard (λ b (d : Decided). stops_arm d.verdict ≡ is_stop d.verdict.state) r c
      (λ h. stands (config_of c.settings) moved (clean_turn r c).rt.hold c.outcome (clean_turn r c).state e) (λ h. and_true (is_stop (fault_turn r c).state))

  each_tick : T (settings_pass c) → TickStops r c
  unfolding given_of
  each_tick p = record {
    guard = λ h. by_call (λ (a : Ticked). T (stops_arm a.verdict)) r c (λ k. guard_stops h) refused;
    observe = λ h m. by_call (λ (a : Ticked). stops_arm a.verdict ≡ false) r c (λ k. clean_passes (m k) h) refused;
    enforce = λ m. by_call (λ (a : Ticked). stops_arm a.verdict ≡ is_stop a.verdict.state) r c (λ k. by_state_alone (m k)) refused;
  } where
    refused : {X : Type 0} → T (not (settings_pass c)) → X
    refused k = absurd (T_not (settings_pass c) k p)

  -- of a call that is a tick
  in_enforce : InMode Enforce c → T (is_accepted (tick_answer r c).check) → stops_arm (verdict_on r c) ≡ is_stop (verdict_on r c).state
  unfolding given_of refused_tick
  in_enforce m =
      by_call (λ (a : Ticked). T (is_accepted a.check) → stops_arm a.verdict ≡ is_stop a.verdict.state) r c
      (λ h k. by_state_alone (m h)) (λ h k. absurd (T_not (settings_pass c) h k))

-- ---- a list of calls

abbrev ended_stopped : SafetyVerdict → Bool
ended_stopped v = is_stop v.state

one_more : (b : Bool) (a : Ticked) (cs : List Call) → (T b → stops_arm a.verdict ≡ is_stop a.verdict.state)
    → how_many stops_arm (verdicts_from a.rt cs) ≡ how_many ended_stopped (verdicts_from a.rt cs)
    → how_many stops_arm (and_then (cond b (event a.verdict a.rt) (silent a.rt)) (λ r'. verdicts_from r' cs))
    ≡ how_many ended_stopped (and_then (cond b (event a.verdict a.rt) (silent a.rt)) (λ r'. verdicts_from r' cs))
one_more true a cs p e = ap (λ (q : Bool). cond q 1 0 + how_many stops_arm (verdicts_from a.rt cs)) (p tt) ∙ ap (λ n. cond (is_stop a.verdict.state) 1 0 + n) e
one_more false a cs p e = e

-- in Enforce the ticks that stop the arm are those that end in a stop state
same_stops : (r : FuseRt) (cs : List Call) → All (InMode Enforce) cs → how_many stops_arm (verdicts_from r cs) ≡ how_many ended_stopped (verdicts_from r cs)
same_stops r [] u = refl
same_stops r (c ∷ cs) u =
    one_more (is_accepted (tick_answer r c).check) (tick_answer r c) cs (in_enforce r c u.0) (same_stops (tick_answer r c).rt cs u.1)

-- of which there are five
one_of_five : (s : FuseState) → cond (is_stop s) 1 0
    ≡ cond (is_state s S.Braking) 1 0 + cond (is_state s S.Held) 1 0 + cond (is_state s S.Escalated) 1 0 + cond (is_state s S.Fault) 1 0 + cond (is_state s S.Terminated) 1 0
one_of_five S.Idle = refl
one_of_five S.Armed = refl
one_of_five S.Watching = refl
one_of_five S.Clamped = refl
one_of_five S.Braking = refl
one_of_five S.Held = refl
one_of_five S.Escalated = refl
one_of_five S.Fault = refl
one_of_five S.Terminated = refl

five : (l : List SafetyVerdict) → how_many ended_stopped l
    ≡ how_many (ended_in S.Braking) l + how_many (ended_in S.Held) l + how_many (ended_in S.Escalated) l + how_many (ended_in S.Fault) l + how_many (ended_in S.Terminated) l
five [] = refl
five (v ∷ l) = omega (arith, one_of_five v.state, five l)

-- ---- the claim

stops_of : (z : FuseRt) (cs : List Call) → TallyTold z cs → StopActionsOf z cs
stops_of z cs told =
    let e : (left_by z cs).tally.stop_actions ≡ min (how_many stops_arm (verdicts_from z cs)) (2 ^ 32 - 1) =
    ap (λ t. t.stop_actions) told.whole ∙ (history (history_from z cs)).cut H.stop_actions_count ∙ ap (λ n. min n (2 ^ 32 - 1)) (same_number stops_arm z cs)
    in
    record {
      cut = e;
      enforce = λ u few.
          let s = told.states few in
          omega (arith, e, same_stops z cs u, five (verdicts_from z cs), s.ticks, s.sum, s.braking, s.held, s.escalated, s.fault, s.terminated);
    }

pub stop_actions_told : StopActionsTold
stop_actions_told = record {
  from_reset = λ r cs. stops_of (reset_of r) cs (tally_told.from_reset r cs);
  from_new = λ cs. stops_of new_of cs (tally_told.from_new cs);
  each = each_tick;
}
