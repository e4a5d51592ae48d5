-- What it is to change one field of the machine's part of the run state: for the setters of Fields,
-- whose lines are too long to read.
-- Proved in proofs/Setters, `setters`.
use Rattle.std.specs.Prelude.{◌≡◌}
use Rattle.lictor_core.specs.declared.fuse.Control.{Control}
use Rattle.lictor_table.specs.Fields.{with_window, with_state, with_hold, with_clean_run, with_clamp_streak, with_clamps, with_brake_ticks, with_stopped_ticks, with_held_ticks, with_held_clean, with_escalated_ticks, with_rearms, with_handoff_seq, with_handoff_pending, with_nonces}

-- The field then has the value; where it is the one that was there, nothing changes; of two changes
-- only the last shows. So no other field changes, and none has a part in what the field becomes.
pub record Sets {A : Type 0} (set : A → Control → Control) (get : Control → A) : Type 0 where
  pub got : (x : A) (r : Control) → get (set x r) ≡ x
  pub kept : (r : Control) → set (get r) r ≡ r
  pub last : (x y : A) (r : Control) → set x (set y r) ≡ set x r

pub record Setters : Type 0 where
  pub window : Sets with_window (λ r. r.window)
  pub state : Sets with_state (λ r. r.state)
  pub hold : Sets with_hold (λ r. r.hold)
  pub clean_run : Sets with_clean_run (λ r. r.clean_run)
  pub clamp_streak : Sets with_clamp_streak (λ r. r.clamp_streak)
  pub clamps : Sets with_clamps (λ r. r.clamps)
  pub brake_ticks : Sets with_brake_ticks (λ r. r.brake_ticks)
  pub stopped_ticks : Sets with_stopped_ticks (λ r. r.stopped_ticks)
  pub held_ticks : Sets with_held_ticks (λ r. r.held_ticks)
  pub held_clean : Sets with_held_clean (λ r. r.held_clean)
  pub escalated_ticks : Sets with_escalated_ticks (λ r. r.escalated_ticks)
  pub rearms : Sets with_rearms (λ r. r.rearms)
  pub handoff_seq : Sets with_handoff_seq (λ r. r.handoff_seq)
  pub handoff_pending : Sets with_handoff_pending (λ r. r.handoff_pending)
  pub nonces : Sets with_nonces (λ r. r.last_nonce)
