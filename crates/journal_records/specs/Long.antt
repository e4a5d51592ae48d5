-- What the bodies of settings and outcome hold, in the order of 01-scope.md, Journal.
use Rattle.std.specs.Prelude.{List, ℕ}
use Rattle.journal_records.specs.Little.{byte_at, le_at, float_at, floats_at, flag}
use Rattle.lictor_core.specs.declared.envelope.Hysteresis.{Hysteresis}
use Rattle.lictor_core.specs.declared.envelope.Calibration.{Calibration}
use Rattle.lictor_core.specs.declared.envelope.Settings.{Settings}
use Rattle.lictor_core.specs.declared.scores.Scores.{Scores}
use Rattle.lictor_core.specs.declared.outcome.Outcome.{Outcome}
use Rattle.lictor_core.specs.Sizes.{max_d, max_pos, features}

-- settings have their limits in several places of their 220 bytes
unfoldable pub limits_of : List ℕ → Hysteresis
limits_of b = record {
  k = byte_at b 6;
  warn_margin = float_at b 76;
  clear_ticks = byte_at b 7;
  clamp_streak_to_brake = byte_at b 8;
  max_clamps_per_episode = le_at b 16 2;
  stop_confirm_ticks = byte_at b 9;
  v_stop_eps = float_at b 68;
  brake_timeout_ticks = le_at b 18 2;
  rearm_hold = le_at b 20 2;
  max_rearms = byte_at b 11;
  escalate_after_hold_ticks = le_at b 22 2;
  handoff_timeout_ticks = le_at b 24 4;
  watchdog_ticks = byte_at b 10;
}

unfoldable pub calibration_of : List ℕ → Calibration
calibration_of b = record { mask = le_at b 32 4; tau = float_at b 84 }

-- settings: 12 single bytes (0 to 11), six numbers of 16 bits (12 to 23), three of 32 (24 to 35),
-- one of 64 (36 to 43) and 22 floats (44 to 219)
unfoldable pub settings_of : List ℕ → Settings
settings_of b = record {
  mode = byte_at b 0;
  kind = byte_at b 1;
  clamp = byte_at b 2;
  rearm = byte_at b 3;
  dim = byte_at b 4;
  pos_dim = byte_at b 5;
  horizon = le_at b 12 2;
  exec = le_at b 14 2;
  dt = float_at b 44;
  inv_dt = float_at b 52;
  a_max = float_at b 60;
  box_lo = floats_at b 92 max_pos;
  box_hi = floats_at b 156 max_pos;
  hyst = limits_of b;
  window_mask = le_at b 36 8;
  tier0_enabled = le_at b 28 4;
  calib = calibration_of b;
}

unfoldable pub scores_in : List ℕ → Scores
scores_in b = record { z = floats_at b 33 features; s = float_at b 17; valid = le_at b 25 4; fired = le_at b 29 4 }

-- outcome: trips, clamped_dims, feasible flag, margin, s, valid, fired, z (12), policy row (8),
-- clamped row (8)
unfoldable pub outcome_of : List ℕ → Outcome
outcome_of b = record {
  trips = le_at b 0 4;
  clamped_dims = le_at b 4 4;
  feasible = flag (byte_at b 8);
  margin = float_at b 9;
  scores = scores_in b;
  policy = floats_at b 129 max_d;
  clamped = floats_at b 193 max_d;
}
