-- What the starred cases say of every run state, where their sentence leaves it open (01-scope.md,
-- What a contract says, and the cases).
-- It is of one turn of the machine (lictor_table, `next_of`), whatever comes beside what is named,
-- and of the acceptance rule.
use Rattle.std.specs.Prelude.{◌≡◌, true, false, List, ℕ, ◌≤◌, ◌<◌, T, Float, None}
use Rattle.std.specs.Int.Bits.{bit_and}
use Rattle.lictor_core.specs.declared.ack.VerifiedAck.{VerifiedAck}
use Rattle.lictor_core.specs.declared.envelope.FuseConfig.{FuseConfig}
use Rattle.lictor_core.specs.declared.fuse.Control.{Control}
use Rattle.lictor_core.specs.declared.state.FuseState.{FuseState}
use Rattle.lictor_core.specs.declared.state.FuseState.TheVariants.{Clamped, Braking, Escalated, Fault, Terminated}
use Rattle.lictor_core.specs.Codes.{reason_code}
use Rattle.lictor_core.specs.Masks.{any_of, fault_bits, brake_bit, tier0_soft}
use Rattle.lictor_core.specs.Num.{sat_up}
use Rattle.lictor_table.specs.declared.FsmInput.{FsmInput}
use Rattle.lictor_table.specs.declared.Turn.{Turn}
use Rattle.lictor_table.specs.Helpers.{accepted_by, accepted_ack, clamp_reason}
use Rattle.lictor_table.specs.Table.{running, next_of}

-- the turn ends in this state, adds these bits to the trips and has this reason
pub record Turns (t : Turn) (q : FuseState) (bits why : ℕ) : Type 0 where
  pub state : t.state ≡ q
  pub extra : t.extra ≡ bits
  pub reason : reason_code t.reason ≡ why

-- no acknowledgement is accepted
abbrev pub Unanswered : Control → FsmInput → Type 0
Unanswered rt inp = accepted_ack rt.handoff_seq rt.last_nonce inp.ack ≡ None

-- Running, clamping on, not predictive, streak below its limit, and no BRAKE
pub record MayClamp (cfg : FuseConfig) (rt : Control) (inp : FsmInput) : Type 0 where
  pub runs : T (running rt.state)
  pub no_brake : any_of inp.trips brake_bit ≡ false
  pub clamping : inp.soft_clampable ≡ true
  pub not_predictive : inp.predictive ≡ false
  pub streak : rt.clamp_streak < cfg.hyst.clamp_streak_to_brake

pub record ForAll (cfg : FuseConfig) (rt : Control) (pos : List Float) (inp : FsmInput) : Type 0 where
  -- Escalated, E = 0, no ack: Terminated, 4096, reason 25
  pub handoff : rt.state ≡ Escalated → cfg.hyst.handoff_timeout_ticks ≡ 0 → Unanswered rt inp → any_of inp.trips fault_bits ≡ false → Turns (next_of cfg rt pos inp) Terminated 4096 25
  -- B = 0, Braking: Fault, reason 20, stopped or not
  pub brake : rt.state ≡ Braking → cfg.hyst.brake_timeout_ticks ≡ 0 → any_of inp.trips fault_bits ≡ false → Turns (next_of cfg rt pos inp) Fault 16384 20
  -- a soft trip with no more clamps than the limit: Clamped, and one clamp more, up to 65535
  pub clamps : MayClamp cfg rt inp → any_of inp.trips fault_bits ≡ false → rt.clamps ≤ cfg.hyst.max_clamps_per_episode → any_of inp.trips tier0_soft ≡ true
      → Turns (next_of cfg rt pos inp) Clamped 0 (reason_code (clamp_reason (bit_and inp.trips tier0_soft))) × ((next_of cfg rt pos inp).rt.clamps ≡ sat_up 16 rt.clamps)
  -- more clamps than the limit: Braking, 2048, reason 11, with a soft trip or with none
  pub budget : MayClamp cfg rt inp → any_of inp.trips fault_bits ≡ false → cfg.hyst.max_clamps_per_episode < rt.clamps → Turns (next_of cfg rt pos inp) Braking 2048 11

-- a nonce of 0, and a slot from 8 on: not accepted
pub record NeverAccepted (handoff : ℕ) (nonces : List ℕ) (a : VerifiedAck) : Type 0 where
  pub nonce : a.nonce ≡ 0 → accepted_by handoff nonces a ≡ false
  pub slot : 8 ≤ a.operator_slot → accepted_by handoff nonces a ≡ false
