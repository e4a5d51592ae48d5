-- `for_all` and `never_accepted`: what the starred cases say of every run state. Assumes nothing.
use Rattle.std.proofs.Math.Bool.{and-false}
use mathlib.Core.Path.{◌≡◌, refl, sym, subst}
use mathlib.Core.Bool.{true, false}
use mathlib.Core.List.{List}
use Prim.Native.Nat.{ℕ, ◌≤◌, ◌<◌}
use native.Mathlib.Omega.{arith}
use lib.Bits.{bit_and}
use lib.Dec.{T, ltb, eqb}
use lib.ListN.{get_or}
use lib.Ieee.{Float}
use borrow.Author.Tests.{lt-ltb, le-leb, le-ltb, lt-leb}
use Rattle.lictor_core.specs.declared.ack.VerifiedAck.{VerifiedAck}
use Rattle.lictor_core.specs.declared.envelope.FuseConfig.{FuseConfig}
use Rattle.lictor_core.specs.declared.fuse.Control.{Control}
use Rattle.lictor_core.specs.declared.state.FuseState.{FuseState}
use Rattle.lictor_core.specs.declared.state.FuseState.TheVariants.{Idle, Armed, Watching, Clamped, Braking, Held, Escalated, Fault, Terminated}
use Rattle.lictor_core.specs.FirstThat.{first_that}
use Rattle.lictor_core.specs.Codes.{reason_code}
use Rattle.lictor_core.specs.Masks.{any_of, fault_bits, brake_bit, tier0_soft}
use Rattle.lictor_core.specs.Num.{sat_up}
use Rattle.lictor_table.specs.declared.FsmInput.{FsmInput}
use Rattle.lictor_table.specs.Helpers.{accepted_by, clamp_reason, count_run, settled_of}
use Rattle.lictor_table.specs.Table.{table, next_from, next_of, running}
use Rattle.starred.specs.ForAll.{Turns, Unanswered, ForAll, NeverAccepted}

-- ---- the machine, by the state that the turn starts from

module _ (cfg : FuseConfig) (rt : Control) (pos : List Float) (inp : FsmInput) (calm : any_of inp.trips fault_bits ≡ false) where
  waited_out : cfg.hyst.handoff_timeout_ticks ≡ 0 → Unanswered rt inp → Turns (next_from Escalated cfg rt pos inp) Terminated 4096 25
  unfolding next_from settled_of table first_that count_run
  waited_out e u = rw (calm, u, le-leb cfg.hyst.handoff_timeout_ticks rt.escalated_ticks (omega arith)) (record { state = refl; extra = refl; reason = refl })

  braked_out : cfg.hyst.brake_timeout_ticks ≡ 0 → Turns (next_from Braking cfg rt pos inp) Fault 16384 20
  unfolding next_from settled_of table first_that count_run
  braked_out e = rw (calm, le-leb cfg.hyst.brake_timeout_ticks rt.brake_ticks (omega arith)) (record { state = refl; extra = refl; reason = refl })

  -- the clamps of a state in which the machine runs
  module _ (clamping : inp.soft_clampable ≡ true) (no_brake : any_of inp.trips brake_bit ≡ false) (not_predictive : inp.predictive ≡ false) (streak : rt.clamp_streak < cfg.hyst.clamp_streak_to_brake) where
    abbrev Clamps : FuseState → Type 0
    Clamps q = Turns (next_from q cfg rt pos inp) Clamped 0 (reason_code (clamp_reason (bit_and inp.trips tier0_soft))) × ((next_from q cfg rt pos inp).rt.clamps ≡ sat_up 16 rt.clamps)

    clamped : (q : FuseState) → T (running q) → rt.clamps ≤ cfg.hyst.max_clamps_per_episode → any_of inp.trips tier0_soft ≡ true → Clamps q
    unfolding next_from settled_of table first_that count_run
    clamped Armed r k s = rw (calm, no_brake, s, clamping, not_predictive, lt-leb _ _ streak, le-ltb cfg.hyst.max_clamps_per_episode rt.clamps (omega arith)) (record { state = refl; extra = refl; reason = refl }, refl)
    clamped Watching r k s = rw (calm, no_brake, s, clamping, not_predictive, lt-leb _ _ streak, le-ltb cfg.hyst.max_clamps_per_episode rt.clamps (omega arith)) (record { state = refl; extra = refl; reason = refl }, refl)
    clamped Clamped r k s = rw (calm, no_brake, s, clamping, not_predictive, lt-leb _ _ streak, le-ltb cfg.hyst.max_clamps_per_episode rt.clamps (omega arith)) (record { state = refl; extra = refl; reason = refl }, refl)
    clamped Idle r k s = absurd r
    clamped Braking r k s = absurd r
    clamped Held r k s = absurd r
    clamped Escalated r k s = absurd r
    clamped Fault r k s = absurd r
    clamped Terminated r k s = absurd r

    spent : (q : FuseState) → T (running q) → cfg.hyst.max_clamps_per_episode < rt.clamps → Turns (next_from q cfg rt pos inp) Braking 2048 11
    unfolding next_from settled_of table first_that count_run
    spent Armed r k = rw (calm, no_brake, clamping, and-false (any_of inp.trips tier0_soft), not_predictive, lt-leb _ _ streak, lt-ltb cfg.hyst.max_clamps_per_episode rt.clamps (omega arith)) (record { state = refl; extra = refl; reason = refl })
    spent Watching r k = rw (calm, no_brake, clamping, and-false (any_of inp.trips tier0_soft), not_predictive, lt-leb _ _ streak, lt-ltb cfg.hyst.max_clamps_per_episode rt.clamps (omega arith)) (record { state = refl; extra = refl; reason = refl })
    spent Clamped r k = rw (calm, no_brake, clamping, and-false (any_of inp.trips tier0_soft), not_predictive, lt-leb _ _ streak, lt-ltb cfg.hyst.max_clamps_per_episode rt.clamps (omega arith)) (record { state = refl; extra = refl; reason = refl })
    spent Idle r k = absurd r
    spent Braking r k = absurd r
    spent Held r k = absurd r
    spent Escalated r k = absurd r
    spent Fault r k = absurd r
    spent Terminated r k = absurd r

pub for_all : (cfg : FuseConfig) (rt : Control) (pos : List Float) (inp : FsmInput) → ForAll cfg rt pos inp
unfolding next_of
for_all cfg rt pos inp = record {
  handoff = λ q e u calm. subst (λ (s : FuseState). Turns (next_from s cfg rt pos inp) Terminated 4096 25) (sym q) (waited_out cfg rt pos inp calm e u);
  brake = λ q e calm. subst (λ (s : FuseState). Turns (next_from s cfg rt pos inp) Fault 16384 20) (sym q) (braked_out cfg rt pos inp calm e);
  clamps = λ m calm k s. clamped cfg rt pos inp calm m.clamping m.no_brake m.not_predictive m.streak rt.state m.runs k s;
  budget = λ m calm k. spent cfg rt pos inp calm m.clamping m.no_brake m.not_predictive m.streak rt.state m.runs k;
}

-- ---- the acceptance rule

pub never_accepted : (handoff : ℕ) (nonces : List ℕ) (a : VerifiedAck) → NeverAccepted handoff nonces a
unfolding accepted_by
never_accepted handoff nonces a = record {
  nonce = λ z. rw (le-ltb (get_or nonces a.operator_slot 0) a.nonce (omega arith), and-false (eqb a.handoff_seq handoff), and-false (ltb a.operator_slot 8)) refl;
  slot = λ k. rw (le-ltb a.operator_slot 8 (omega arith)) refl;
}
