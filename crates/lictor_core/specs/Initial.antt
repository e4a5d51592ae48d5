-- The initial values: an empty tally, the run state of `FuseRt::new`, and what `reset` leaves,
-- every field as fuse.rs and tally.rs have it, but that a reset keeps the stored nonces
-- (02-change-requests.md, Ask 6); `stop_actions`, which they do not have, is Ask 8's.
use Rattle.std.specs.Prelude.{ℕ, true, false, List, replicate, pos, Float, None}
use Rattle.std.specs.Float.{fin, inf}
use Rattle.lictor_core.specs.declared.state.FuseState.{FuseState}
use Rattle.lictor_core.specs.declared.state.FuseState.TheVariants.{Idle, Armed}
use Rattle.lictor_core.specs.declared.tally.Tally.{Tally}
use Rattle.lictor_core.specs.declared.fuse.Control.{Control}
use Rattle.lictor_core.specs.declared.fuse.Motion.{Motion}
use Rattle.lictor_core.specs.declared.fuse.Clock.{Clock}
use Rattle.lictor_core.specs.declared.fuse.FuseRt.{FuseRt}
use Rattle.lictor_core.specs.Sizes.{max_d, max_pos, operators, features, trip_bits}

-- +0.0
abbrev pub zero_float : Float
zero_float = fin false 0 (pos 0)

-- 1.0
abbrev pub one_float : Float
one_float = fin false 1 (pos 0)

-- n components, all +0.0
unfoldable pub zeros : ℕ → List Float
zeros n = replicate n zero_float

-- Tally::default
unfoldable pub empty_tally : Tally
empty_tally = record {
  ticks = 0;
  nominal = 0;
  watching = 0;
  clamped = 0;
  braking = 0;
  held = 0;
  escalated = 0;
  fault = 0;
  terminated = 0;
  substituted = 0;
  chunks_seen = 0;
  chunks_rejected = 0;
  clamps = 0;
  holds = 0;
  rearms = 0;
  escalations = 0;
  trips_by_bit = replicate trip_bits 0;
  fired_by_feat = replicate features 0;
  first_trip_tick = None;
  first_trip_reason = None;
  first_stop_tick = None;
  handoff_tick = None;
  violations_reached_env = 0;
  max_s = inf true;
  max_z = replicate features (inf true);
  terminal_state = Idle;
  stop_actions = 0;
}

-- nothing is stored: no slot has a nonce above 0
unfoldable pub no_nonces : List ℕ
no_nonces = replicate operators 0

-- all zero, in state s, with these nonces stored
unfoldable pub fresh_control : FuseState → List ℕ → Control
fresh_control s nonces = record {
  window = record { bits = 0 };
  state = s;
  hold = zeros max_pos;
  clean_run = 0;
  clamp_streak = 0;
  clamps = 0;
  brake_ticks = 0;
  stopped_ticks = 0;
  held_ticks = 0;
  held_clean = 0;
  escalated_ticks = 0;
  rearms = 0;
  handoff_seq = 0;
  handoff_pending = false;
  last_nonce = nonces;
}

unfoldable pub fresh_motion : Motion
fresh_motion = record { pos = zeros max_pos; prev_pos = zeros max_pos; vel = zeros max_pos; have_prev_pos = false; last_cmd = zeros max_d }

unfoldable pub fresh_clock : Clock
fresh_clock = record { filled = false; seq = 0; last_t = 0; next_chunk_seq = 0; chunk_ok_this_tick = false }

-- FuseRt::new, at the settings: no episode yet, and no nonce stored
unfoldable pub new_of : FuseRt
new_of = record { control = fresh_control Idle no_nonces; motion = fresh_motion; clock = fresh_clock; tally = empty_tally }

-- reset, from any run state: the same, but armed and with the stored nonces kept (Ask 6)
unfoldable pub reset_of : FuseRt → FuseRt
reset_of r = record {
  control = fresh_control Armed r.control.last_nonce;
  motion = fresh_motion;
  clock = fresh_clock;
  tally = empty_tally;
}
