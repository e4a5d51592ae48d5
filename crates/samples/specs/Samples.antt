-- Samples of what a tick is given (the types of 01-scope.md, Modules 1).
-- The parameters are what the users of a sample differ in.
use Rattle.std.specs.Prelude.{Bool, false, ℕ, Float, Option}
use Rattle.lictor_core.specs.declared.ack.VerifiedAck.{VerifiedAck}
use Rattle.lictor_core.specs.declared.chunk.ChunkHead.{ChunkHead}
use Rattle.lictor_core.specs.declared.envelope.Hysteresis.{Hysteresis}
use Rattle.lictor_core.specs.declared.envelope.Settings.{Settings}
use Rattle.lictor_core.specs.declared.fuse.TickInput.{TickInput}
use Rattle.lictor_core.specs.declared.outcome.Outcome.{Outcome}
use Rattle.lictor_core.specs.declared.chunk.ActionKind.TheVariants.{EePosition}
use Rattle.lictor_core.specs.declared.envelope.ClampMode.TheVariants.{Project}
use Rattle.lictor_core.specs.declared.envelope.RearmPolicy.{RearmPolicy}
use Rattle.lictor_core.specs.declared.envelope.RearmPolicy.TheVariants.{AckOnly}
use Rattle.lictor_core.specs.declared.state.FuseMode.TheVariants.{Enforce}
use Rattle.lictor_core.specs.Codes.{mode_code, kind_code, clamp_code, rearm_code}
use Rattle.lictor_core.specs.Initial.{zero_float, zeros}
use Rattle.lictor_core.specs.Sizes.{max_d, max_pos, features}

-- Enforce, EePosition, clamping on, one component, chunks of one row, no calibration. The rearm
-- policy, the limits, the window's mask, the trips that are enabled, one float for dt, inv_dt and
-- a_max.
abbrev pub sample_under : RearmPolicy → Hysteresis → (window_mask tier0 : ℕ) → Float → Settings
sample_under policy limits window_mask tier0 unit = record {
  mode = mode_code Enforce;
  kind = kind_code EePosition;
  clamp = clamp_code Project;
  rearm = rearm_code policy;
  dim = 1;
  pos_dim = 1;
  horizon = 1;
  exec = 1;
  dt = unit;
  inv_dt = unit;
  a_max = unit;
  box_lo = zeros max_pos;
  box_hi = zeros max_pos;
  hyst = limits;
  window_mask = window_mask;
  tier0_enabled = tier0;
  calib = record { mask = 0; tau = zero_float };
}

-- the same under AckOnly
abbrev pub sample_settings : Hysteresis → (window_mask tier0 : ℕ) → Float → Settings
sample_settings limits window_mask tier0 unit = sample_under AckOnly limits window_mask tier0 unit

-- an outcome with these trips, a brake that is feasible or not, this score s, and nothing else
abbrev pub sample_outcome : (trips : ℕ) (feasible : Bool) (s : Float) → Outcome
sample_outcome trips feasible s = record {
  trips = trips;
  clamped_dims = 0;
  feasible = feasible;
  margin = zero_float;
  scores = record { z = zeros features; s = s; valid = 0; fired = 0 };
  policy = zeros max_d;
  clamped = zeros max_d;
}

-- a tick at t, after `missed` ticks, with a velocity or none, with this chunk and acknowledgement
abbrev pub sample_input : (t missed : ℕ) (has_vel : Bool) → Option ChunkHead → Option VerifiedAck → TickInput
sample_input t missed has_vel chunk ack = record {
  t = t;
  idx = 0;
  missed_ticks = missed;
  schema_fault = false;
  has_vel = has_vel;
  chunk = chunk;
  ack = ack;
}

-- the chunk with this number, of one row and one component, which begins at t; and the first one
abbrev pub numbered_chunk : (seq t : ℕ) → ChunkHead
numbered_chunk seq t = record { seq = seq; t_emit = t; horizon = 1; dim = 1; exec_steps = 1 }

abbrev pub sample_chunk : (t : ℕ) → ChunkHead
sample_chunk t = numbered_chunk 0 t
