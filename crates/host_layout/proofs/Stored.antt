-- A run state of the fuse that is lent as numbers means itself, and so does a tally.
--     stored_back      what `state_out` gives means what it was made of
--     tally_back       the same of `tally_out`
-- Assumes nothing.
use Rattle.std.proofs.Common.{None, Some, Option, ℕ}
use mathlib.Core.Path.{◌≡◌, refl, ap}
use mathlib.Core.Bool.{Bool, true, false}
use Rattle.lictor_core.specs.Codes.{state_code, reason_code}
use Rattle.lictor_core.specs.declared.fuse.Control.{Control}
use Rattle.lictor_core.specs.declared.fuse.Motion.{Motion}
use Rattle.lictor_core.specs.declared.fuse.Clock.{Clock}
use Rattle.lictor_core.specs.declared.fuse.FuseRt.{FuseRt}
use Rattle.lictor_core.specs.declared.reason.ReasonCode.{ReasonCode}
use Rattle.lictor_core.specs.declared.reason.ReasonCode.TheVariants as W
use Rattle.lictor_core.specs.declared.state.FuseState.{FuseState}
use Rattle.lictor_core.specs.declared.state.FuseState.TheVariants as S
use Rattle.lictor_core.specs.declared.tally.Tally.{Tally}
use Rattle.host_layout.specs.Flags.{flag_of, flag_code}
use Rattle.host_layout.specs.State.{states, state_of, reasons, reason_of, mark_in, mark_out, reason_mark_in, reason_set, reason_mark_out, control_in, control_out, motion_in, motion_out, clock_in, clock_out, tally_in, tally_out, state_in, state_out}

-- ---- codes, flags and marks
flag_back : (b : Bool) → flag_of (flag_code b) ≡ b
unfolding flag_of flag_code
flag_back true = refl
flag_back false = refl

state_back : (s : FuseState) → state_of (state_code s) ≡ s
unfolding states
state_back S.Idle = refl
state_back S.Armed = refl
state_back S.Watching = refl
state_back S.Clamped = refl
state_back S.Braking = refl
state_back S.Held = refl
state_back S.Escalated = refl
state_back S.Fault = refl
state_back S.Terminated = refl

reason_back : (w : ReasonCode) → reason_of (reason_code w) ≡ w
unfolding reasons
reason_back W.Ok = refl
reason_back W.ObserveOnly = refl
reason_back W.WatchBand = refl
reason_back W.ClampWorkspace = refl
reason_back W.ClampSpeed = refl
reason_back W.ClampAccel = refl
reason_back W.ClampJerk = refl
reason_back W.ClampReach = refl
reason_back W.ClampContact = refl
reason_back W.BrakeInfeasible = refl
reason_back W.BrakeTier1Cp = refl
reason_back W.BrakeClampBudget = refl
reason_back W.Stopping = refl
reason_back W.HeldStandstill = refl
reason_back W.EscalateHoldTimeout = refl
reason_back W.EscalateRearmBudget = refl
reason_back W.EscalateTier1Persistent = refl
reason_back W.FaultNonFinite = refl
reason_back W.FaultSchema = refl
reason_back W.FaultWatchdog = refl
reason_back W.FaultBrakeTimeout = refl
reason_back W.FaultInternal = refl
reason_back W.RearmedAuto = refl
reason_back W.RearmedAck = refl
reason_back W.TerminatedAbort = refl
reason_back W.TerminatedTimeout = refl
reason_back W.TerminatedRetune = refl
reason_back W.EpisodeEnd = refl

mark_back : (m : Option ℕ) → mark_in (mark_out m) ≡ m
unfolding mark_in mark_out
mark_back None = refl
mark_back (Some t) = refl

reason_mark_back : (m : Option ReasonCode) → reason_mark_in (reason_mark_out m) ≡ m
unfolding reason_mark_in reason_mark_out reason_set
reason_mark_back None = refl
reason_mark_back (Some w) = ap Some (reason_back w)

-- ---- the groups
control_back : (c : Control) → control_in (control_out c) ≡ c
unfolding control_in control_out
control_back c = λ j. record {
  window = c.window;
  state = state_back c.state j;
  hold = c.hold;
  clean_run = c.clean_run;
  clamp_streak = c.clamp_streak;
  clamps = c.clamps;
  brake_ticks = c.brake_ticks;
  stopped_ticks = c.stopped_ticks;
  held_ticks = c.held_ticks;
  held_clean = c.held_clean;
  escalated_ticks = c.escalated_ticks;
  rearms = c.rearms;
  handoff_seq = c.handoff_seq;
  handoff_pending = flag_back c.handoff_pending j;
  last_nonce = c.last_nonce;
}

motion_back : (c : Motion) → motion_in (motion_out c) ≡ c
unfolding motion_in motion_out
motion_back c = λ j. record {
  pos = c.pos;
  prev_pos = c.prev_pos;
  vel = c.vel;
  have_prev_pos = flag_back c.have_prev_pos j;
  last_cmd = c.last_cmd;
}

clock_back : (c : Clock) → clock_in (clock_out c) ≡ c
unfolding clock_in clock_out
clock_back c = λ j. record {
  filled = flag_back c.filled j;
  seq = c.seq;
  last_t = c.last_t;
  next_chunk_seq = c.next_chunk_seq;
  chunk_ok_this_tick = flag_back c.chunk_ok_this_tick j;
}

pub tally_back : (c : Tally) → tally_in (tally_out c) ≡ c
unfolding tally_in tally_out
tally_back c = λ j. record {
  ticks = c.ticks;
  nominal = c.nominal;
  watching = c.watching;
  clamped = c.clamped;
  braking = c.braking;
  held = c.held;
  escalated = c.escalated;
  fault = c.fault;
  terminated = c.terminated;
  substituted = c.substituted;
  chunks_seen = c.chunks_seen;
  chunks_rejected = c.chunks_rejected;
  clamps = c.clamps;
  holds = c.holds;
  rearms = c.rearms;
  escalations = c.escalations;
  trips_by_bit = c.trips_by_bit;
  fired_by_feat = c.fired_by_feat;
  first_trip_tick = mark_back c.first_trip_tick j;
  first_trip_reason = reason_mark_back c.first_trip_reason j;
  first_stop_tick = mark_back c.first_stop_tick j;
  handoff_tick = mark_back c.handoff_tick j;
  violations_reached_env = c.violations_reached_env;
  max_s = c.max_s;
  max_z = c.max_z;
  terminal_state = state_back c.terminal_state j;
  stop_actions = c.stop_actions;
}

pub stored_back : (r : FuseRt) → state_in (state_out r) ≡ r
unfolding state_in state_out
stored_back r = λ j. record { control = control_back r.control j; motion = motion_back r.motion j; clock = clock_back r.clock j; tally = tally_back r.tally j }
