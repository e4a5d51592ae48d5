-- The rows as the code has them say what the table says, for every input.
use Rattle.std.proofs.Common.{None, Some, Option}
use Rattle.lictor_core.specs.declared.ack.VerifiedAck.{VerifiedAck}
use mathlib.Core.Path.{◌≡◌, refl, ap, sym, ◌∙◌}
use mathlib.Core.Bool.{Bool}
use mathlib.Core.List.{List}
use Prim.Native.Nat.{ℕ}
use lib.Ieee.{Float}
use Rattle.lictor_core.specs.declared.state.FuseState.{FuseState}
use Rattle.lictor_core.specs.declared.state.FuseState.TheVariants.{Idle, Armed, Watching, Clamped, Braking, Held, Escalated, Fault, Terminated}
use Rattle.lictor_core.specs.declared.reason.ReasonCode.TheVariants as R
use Rattle.lictor_core.specs.declared.ack.AckDecision.{AckDecision}
use Rattle.lictor_core.specs.declared.ack.AckDecision.TheVariants.{Resume, Abort, Retune}
use Rattle.lictor_core.specs.declared.envelope.FuseConfig.{FuseConfig}
use Rattle.lictor_core.specs.declared.fuse.Control.{Control}
use Rattle.lictor_core.specs.Masks.{any_of}
use Rattle.lictor_core.specs.FirstThat.{first_that}
use Rattle.lictor_table.specs.declared.FsmInput.{FsmInput}
use Rattle.lictor_table.specs.declared.Turn.{Turn}
use Rattle.lictor_table.specs.Helpers.{accepted_ack, clean_of, count_run, to, settled_of}
use Rattle.lictor_table.specs.Rows.{fault_row, rearm_ack, resume_row, terminate_row, timeout_row, wait_row, unanswered_of, escalated_of, may_rearm, rearm_row, escalate_row, hold_row, holding_of, held_of, confirmed_of, standstill_row, stopping_row, braking_of, enter_braking, brake_row, unclampable_of, over_budget, clamp_row, cleared_of, clear_row, watched_of, quiet_of, running_of, by_from, transition_of, next_by_rows}
use Rattle.lictor_table.specs.Table.{Facts, first_of, table, next_from, next_of}

module _ (none : Turn) (cfg : FuseConfig) (rt : Control) (pos : List Float) (clean : Bool) (inp : FsmInput) where
  abbrev Says : FuseState → Option VerifiedAck → Type 0
  Says from ack =
      transition_of cfg rt pos from clean ack inp ≡ first_of none table (record { cfg = cfg; rt = rt; pos = pos; from = from; clean = clean; ack = ack; inp = inp })

  held_says : (d : AckDecision) (slot nonce seq : ℕ) → Says Held (Some (record { decision = d; operator_slot = slot; nonce = nonce; handoff_seq = seq }))
  unfolding transition_of by_from fault_row first_that table held_of resume_row terminate_row rearm_ack holding_of may_rearm rearm_row escalate_row hold_row
  held_says Resume slot nonce seq = refl
  held_says Abort slot nonce seq = refl
  held_says Retune slot nonce seq = refl

  escalated_says : (d : AckDecision) (slot nonce seq : ℕ) → Says Escalated (Some (record { decision = d; operator_slot = slot; nonce = nonce; handoff_seq = seq }))
  unfolding transition_of by_from fault_row first_that table escalated_of resume_row terminate_row rearm_ack
  escalated_says Resume slot nonce seq = refl
  escalated_says Abort slot nonce seq = refl
  escalated_says Retune slot nonce seq = refl

  pub says : (from : FuseState) (ack : Option VerifiedAck) → Says from ack
  unfolding transition_of by_from fault_row first_that table any_of unanswered_of timeout_row wait_row escalated_of may_rearm rearm_row escalate_row hold_row holding_of held_of confirmed_of standstill_row stopping_row braking_of enter_braking brake_row unclampable_of over_budget clamp_row cleared_of clear_row watched_of quiet_of running_of
  says Idle ack = refl
  says Armed ack = refl
  says Watching ack = refl
  says Clamped ack = refl
  says Braking ack = refl
  says Held None = refl
  says Held (Some a) = held_says a.decision a.operator_slot a.nonce a.handoff_seq
  says Escalated None = refl
  says Escalated (Some a) = escalated_says a.decision a.operator_slot a.nonce a.handoff_seq
  says Fault ack = refl
  says Terminated ack = refl

-- some line applies, whatever the facts: the answer for the case that none does never shows
pub complete : (a b : Turn) (x : Facts) → first_of a table x ≡ first_of b table x
complete a b x =
    sym (says a x.cfg x.rt x.pos x.clean x.inp x.from x.ack)
    ∙ says b x.cfg x.rt x.pos x.clean x.inp x.from x.ack

-- a whole tick
pub tells : (cfg : FuseConfig) (rt : Control) (pos : List Float) (inp : FsmInput) → next_by_rows cfg rt pos inp ≡ next_of cfg rt pos inp
unfolding next_by_rows next_of next_from
tells cfg rt pos inp =
    ap settled_of
    (says (to Fault 0 R.FaultInternal rt) cfg (count_run (clean_of inp) rt) pos (clean_of inp) inp rt.state (accepted_ack rt.handoff_seq rt.last_nonce inp.ack))
