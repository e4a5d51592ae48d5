-- The machine's part of the run state with one field changed: a setter for each field, since every
-- line of the table says what it changes by these. It states nothing of the papers. That each
-- changes its field and no other is a law: specs/Setters, proofs/Setters, `setters`.
use Rattle.std.specs.Prelude.{Bool, List, ℕ, Float}
use Rattle.lictor_core.specs.declared.state.FuseState.{FuseState}
use Rattle.lictor_core.specs.declared.fuse.Window.{Window}
use Rattle.lictor_core.specs.declared.fuse.Control.{Control}

abbrev pub with_window : Window → Control → Control
with_window x r = record { window = x; state = r.state; hold = r.hold; clean_run = r.clean_run; clamp_streak = r.clamp_streak; clamps = r.clamps; brake_ticks = r.brake_ticks; stopped_ticks = r.stopped_ticks; held_ticks = r.held_ticks; held_clean = r.held_clean; escalated_ticks = r.escalated_ticks; rearms = r.rearms; handoff_seq = r.handoff_seq; handoff_pending = r.handoff_pending; last_nonce = r.last_nonce }

abbrev pub with_state : FuseState → Control → Control
with_state x r = record { window = r.window; state = x; hold = r.hold; clean_run = r.clean_run; clamp_streak = r.clamp_streak; clamps = r.clamps; brake_ticks = r.brake_ticks; stopped_ticks = r.stopped_ticks; held_ticks = r.held_ticks; held_clean = r.held_clean; escalated_ticks = r.escalated_ticks; rearms = r.rearms; handoff_seq = r.handoff_seq; handoff_pending = r.handoff_pending; last_nonce = r.last_nonce }

abbrev pub with_hold : List Float → Control → Control
with_hold x r = record { window = r.window; state = r.state; hold = x; clean_run = r.clean_run; clamp_streak = r.clamp_streak; clamps = r.clamps; brake_ticks = r.brake_ticks; stopped_ticks = r.stopped_ticks; held_ticks = r.held_ticks; held_clean = r.held_clean; escalated_ticks = r.escalated_ticks; rearms = r.rearms; handoff_seq = r.handoff_seq; handoff_pending = r.handoff_pending; last_nonce = r.last_nonce }

abbrev pub with_clean_run : ℕ → Control → Control
with_clean_run x r = record { window = r.window; state = r.state; hold = r.hold; clean_run = x; clamp_streak = r.clamp_streak; clamps = r.clamps; brake_ticks = r.brake_ticks; stopped_ticks = r.stopped_ticks; held_ticks = r.held_ticks; held_clean = r.held_clean; escalated_ticks = r.escalated_ticks; rearms = r.rearms; handoff_seq = r.handoff_seq; handoff_pending = r.handoff_pending; last_nonce = r.last_nonce }

abbrev pub with_clamp_streak : ℕ → Control → Control
with_clamp_streak x r = record { window = r.window; state = r.state; hold = r.hold; clean_run = r.clean_run; clamp_streak = x; clamps = r.clamps; brake_ticks = r.brake_ticks; stopped_ticks = r.stopped_ticks; held_ticks = r.held_ticks; held_clean = r.held_clean; escalated_ticks = r.escalated_ticks; rearms = r.rearms; handoff_seq = r.handoff_seq; handoff_pending = r.handoff_pending; last_nonce = r.last_nonce }

abbrev pub with_clamps : ℕ → Control → Control
with_clamps x r = record { window = r.window; state = r.state; hold = r.hold; clean_run = r.clean_run; clamp_streak = r.clamp_streak; clamps = x; brake_ticks = r.brake_ticks; stopped_ticks = r.stopped_ticks; held_ticks = r.held_ticks; held_clean = r.held_clean; escalated_ticks = r.escalated_ticks; rearms = r.rearms; handoff_seq = r.handoff_seq; handoff_pending = r.handoff_pending; last_nonce = r.last_nonce }

abbrev pub with_brake_ticks : ℕ → Control → Control
with_brake_ticks x r = record { window = r.window; state = r.state; hold = r.hold; clean_run = r.clean_run; clamp_streak = r.clamp_streak; clamps = r.clamps; brake_ticks = x; stopped_ticks = r.stopped_ticks; held_ticks = r.held_ticks; held_clean = r.held_clean; escalated_ticks = r.escalated_ticks; rearms = r.rearms; handoff_seq = r.handoff_seq; handoff_pending = r.handoff_pending; last_nonce = r.last_nonce }

abbrev pub with_stopped_ticks : ℕ → Control → Control
with_stopped_ticks x r = record { window = r.window; state = r.state; hold = r.hold; clean_run = r.clean_run; clamp_streak = r.clamp_streak; clamps = r.clamps; brake_ticks = r.brake_ticks; stopped_ticks = x; held_ticks = r.held_ticks; held_clean = r.held_clean; escalated_ticks = r.escalated_ticks; rearms = r.rearms; handoff_seq = r.handoff_seq; handoff_pending = r.handoff_pending; last_nonce = r.last_nonce }

abbrev pub with_held_ticks : ℕ → Control → Control
with_held_ticks x r = record { window = r.window; state = r.state; hold = r.hold; clean_run = r.clean_run; clamp_streak = r.clamp_streak; clamps = r.clamps; brake_ticks = r.brake_ticks; stopped_ticks = r.stopped_ticks; held_ticks = x; held_clean = r.held_clean; escalated_ticks = r.escalated_ticks; rearms = r.rearms; handoff_seq = r.handoff_seq; handoff_pending = r.handoff_pending; last_nonce = r.last_nonce }

abbrev pub with_held_clean : ℕ → Control → Control
with_held_clean x r = record { window = r.window; state = r.state; hold = r.hold; clean_run = r.clean_run; clamp_streak = r.clamp_streak; clamps = r.clamps; brake_ticks = r.brake_ticks; stopped_ticks = r.stopped_ticks; held_ticks = r.held_ticks; held_clean = x; escalated_ticks = r.escalated_ticks; rearms = r.rearms; handoff_seq = r.handoff_seq; handoff_pending = r.handoff_pending; last_nonce = r.last_nonce }

abbrev pub with_escalated_ticks : ℕ → Control → Control
with_escalated_ticks x r = record { window = r.window; state = r.state; hold = r.hold; clean_run = r.clean_run; clamp_streak = r.clamp_streak; clamps = r.clamps; brake_ticks = r.brake_ticks; stopped_ticks = r.stopped_ticks; held_ticks = r.held_ticks; held_clean = r.held_clean; escalated_ticks = x; rearms = r.rearms; handoff_seq = r.handoff_seq; handoff_pending = r.handoff_pending; last_nonce = r.last_nonce }

abbrev pub with_rearms : ℕ → Control → Control
with_rearms x r = record { window = r.window; state = r.state; hold = r.hold; clean_run = r.clean_run; clamp_streak = r.clamp_streak; clamps = r.clamps; brake_ticks = r.brake_ticks; stopped_ticks = r.stopped_ticks; held_ticks = r.held_ticks; held_clean = r.held_clean; escalated_ticks = r.escalated_ticks; rearms = x; handoff_seq = r.handoff_seq; handoff_pending = r.handoff_pending; last_nonce = r.last_nonce }

abbrev pub with_handoff_seq : ℕ → Control → Control
with_handoff_seq x r = record { window = r.window; state = r.state; hold = r.hold; clean_run = r.clean_run; clamp_streak = r.clamp_streak; clamps = r.clamps; brake_ticks = r.brake_ticks; stopped_ticks = r.stopped_ticks; held_ticks = r.held_ticks; held_clean = r.held_clean; escalated_ticks = r.escalated_ticks; rearms = r.rearms; handoff_seq = x; handoff_pending = r.handoff_pending; last_nonce = r.last_nonce }

abbrev pub with_handoff_pending : Bool → Control → Control
with_handoff_pending x r = record { window = r.window; state = r.state; hold = r.hold; clean_run = r.clean_run; clamp_streak = r.clamp_streak; clamps = r.clamps; brake_ticks = r.brake_ticks; stopped_ticks = r.stopped_ticks; held_ticks = r.held_ticks; held_clean = r.held_clean; escalated_ticks = r.escalated_ticks; rearms = r.rearms; handoff_seq = r.handoff_seq; handoff_pending = x; last_nonce = r.last_nonce }

abbrev pub with_nonces : List ℕ → Control → Control
with_nonces x r = record { window = r.window; state = r.state; hold = r.hold; clean_run = r.clean_run; clamp_streak = r.clamp_streak; clamps = r.clamps; brake_ticks = r.brake_ticks; stopped_ticks = r.stopped_ticks; held_ticks = r.held_ticks; held_clean = r.held_clean; escalated_ticks = r.escalated_ticks; rearms = r.rearms; handoff_seq = r.handoff_seq; handoff_pending = r.handoff_pending; last_nonce = x }
