-- The run state of the library and that of the fuse: field by field the same,
-- but that the library's has a number for each code, mark and flag. It joins the layout of C to
-- `FuseRt` of lictor_core (fuse.rs, FuseRt; tally.rs, Tally), with the codes of 01-scope.md,
-- Modules 1.
use Rattle.std.specs.Prelude.{cond, List, [], ◌∷◌, ℕ, eqb, get_or, None, Some, Option}
use Rattle.lictor_core.specs.Cases.{by_option}
use Rattle.lictor_core.specs.Codes.{state_code, reason_code}
use Rattle.lictor_core.specs.declared.fuse.Control.{Control as FuseControl}
use Rattle.lictor_core.specs.declared.fuse.Motion.{Motion as FuseMotion}
use Rattle.lictor_core.specs.declared.fuse.Clock.{Clock as FuseClock}
use Rattle.lictor_core.specs.declared.fuse.FuseRt.{FuseRt}
use Rattle.lictor_core.specs.declared.reason.ReasonCode.{ReasonCode}
use Rattle.lictor_core.specs.declared.reason.ReasonCode.TheVariants as W
use Rattle.lictor_core.specs.declared.state.FuseState.{FuseState}
use Rattle.lictor_core.specs.declared.state.FuseState.TheVariants as S
use Rattle.lictor_core.specs.declared.tally.Tally.{Tally as FuseTally}
use Rattle.host_layout.specs.declared.state.Control.{Control}
use Rattle.host_layout.specs.declared.state.Motion.{Motion}
use Rattle.host_layout.specs.declared.state.Clock.{Clock}
use Rattle.host_layout.specs.declared.state.Mark.{Mark}
use Rattle.host_layout.specs.declared.state.ReasonMark.{ReasonMark}
use Rattle.host_layout.specs.declared.state.Tally.{Tally}
use Rattle.host_layout.specs.declared.state.RunState.{RunState}
use Rattle.host_layout.specs.Flags.{flag_of, flag_code}

-- ---- codes: the states and the reasons in the order of the source

unfoldable pub states : List FuseState
states =
    S.Idle ∷ S.Armed ∷ S.Watching ∷ S.Clamped ∷ S.Braking ∷ S.Held ∷ S.Escalated ∷ S.Fault ∷ S.Terminated ∷ []

-- a number that is none of theirs is a Fault
abbrev pub state_of : ℕ → FuseState
state_of n = get_or states n S.Fault

unfoldable pub reasons : List ReasonCode
reasons =
    W.Ok ∷ W.ObserveOnly ∷ W.WatchBand ∷ W.ClampWorkspace ∷ W.ClampSpeed ∷ W.ClampAccel ∷ W.ClampJerk ∷ W.ClampReach
    ∷ W.ClampContact ∷ W.BrakeInfeasible ∷ W.BrakeTier1Cp ∷ W.BrakeClampBudget ∷ W.Stopping ∷ W.HeldStandstill
    ∷ W.EscalateHoldTimeout ∷ W.EscalateRearmBudget ∷ W.EscalateTier1Persistent ∷ W.FaultNonFinite ∷ W.FaultSchema
    ∷ W.FaultWatchdog ∷ W.FaultBrakeTimeout ∷ W.FaultInternal ∷ W.RearmedAuto ∷ W.RearmedAck ∷ W.TerminatedAbort
    ∷ W.TerminatedTimeout ∷ W.TerminatedRetune ∷ W.EpisodeEnd ∷ []

-- a number that is none of theirs is an EpisodeEnd
abbrev pub reason_of : ℕ → ReasonCode
reason_of n = get_or reasons n W.EpisodeEnd

-- ---- marks

unfoldable pub mark_in : Mark → Option ℕ
mark_in m = cond (eqb m.set 0) None (Some m.at)

unfoldable pub mark_out : Option ℕ → Mark
mark_out m = by_option m (record { set = 0; at = 0 }) (λ t. record { set = 1; at = t })

unfoldable pub reason_mark_in : ReasonMark → Option ReasonCode
reason_mark_in m = cond (eqb m.set 0) None (Some (reason_of m.reason))

unfoldable pub reason_set : ReasonCode → ReasonMark
reason_set w = record { set = 1; reason = reason_code w }

unfoldable pub reason_mark_out : Option ReasonCode → ReasonMark
reason_mark_out m = by_option m (record { set = 0; reason = 0 }) reason_set

-- ---- what a lent run state means

unfoldable pub control_in : Control → FuseControl
control_in c = record {
  window = record { bits = c.window };
  state = state_of c.state;
  hold = c.hold;
  clean_run = c.clean_run;
  clamp_streak = c.clamp_streak;
  clamps = c.clamps;
  brake_ticks = c.brake_ticks;
  stopped_ticks = c.stopped_ticks;
  held_ticks = c.held_ticks;
  held_clean = c.held_clean;
  escalated_ticks = c.escalated_ticks;
  rearms = c.rearms;
  handoff_seq = c.handoff_seq;
  handoff_pending = flag_of c.handoff_pending;
  last_nonce = c.last_nonce;
}

unfoldable pub motion_in : Motion → FuseMotion
motion_in c = record {
  pos = c.pos;
  prev_pos = c.prev_pos;
  vel = c.vel;
  have_prev_pos = flag_of c.have_prev_pos;
  last_cmd = c.last_cmd;
}

unfoldable pub clock_in : Clock → FuseClock
clock_in c = record {
  filled = flag_of c.filled;
  seq = c.seq;
  last_t = c.last_t;
  next_chunk_seq = c.next_chunk_seq;
  chunk_ok_this_tick = flag_of c.chunk_ok_this_tick;
}

unfoldable pub tally_in : Tally → FuseTally
tally_in c = record {
  ticks = c.ticks;
  nominal = c.nominal;
  watching = c.watching;
  clamped = c.clamped;
  braking = c.braking;
  held = c.held;
  escalated = c.escalated;
  fault = c.fault;
  terminated = c.terminated;
  substituted = c.substituted;
  chunks_seen = c.chunks_seen;
  chunks_rejected = c.chunks_rejected;
  clamps = c.clamps;
  holds = c.holds;
  rearms = c.rearms;
  escalations = c.escalations;
  trips_by_bit = c.trips_by_bit;
  fired_by_feat = c.fired_by_feat;
  first_trip_tick = mark_in c.first_trip_tick;
  first_trip_reason = reason_mark_in c.first_trip_reason;
  first_stop_tick = mark_in c.first_stop_tick;
  handoff_tick = mark_in c.handoff_tick;
  violations_reached_env = c.violations_reached_env;
  max_s = c.max_s;
  max_z = c.max_z;
  terminal_state = state_of c.terminal_state;
  stop_actions = c.stop_actions;
}

unfoldable pub state_in : RunState → FuseRt
state_in r = record {
  control = control_in r.control;
  motion = motion_in r.motion;
  clock = clock_in r.clock;
  tally = tally_in r.tally;
}

-- ---- how a run state of the fuse is lent

unfoldable pub control_out : FuseControl → Control
control_out c = record {
  window = c.window.bits;
  state = state_code c.state;
  hold = c.hold;
  clean_run = c.clean_run;
  clamp_streak = c.clamp_streak;
  clamps = c.clamps;
  brake_ticks = c.brake_ticks;
  stopped_ticks = c.stopped_ticks;
  held_ticks = c.held_ticks;
  held_clean = c.held_clean;
  escalated_ticks = c.escalated_ticks;
  rearms = c.rearms;
  handoff_seq = c.handoff_seq;
  handoff_pending = flag_code c.handoff_pending;
  last_nonce = c.last_nonce;
}

unfoldable pub motion_out : FuseMotion → Motion
motion_out c = record {
  pos = c.pos;
  prev_pos = c.prev_pos;
  vel = c.vel;
  have_prev_pos = flag_code c.have_prev_pos;
  last_cmd = c.last_cmd;
}

unfoldable pub clock_out : FuseClock → Clock
clock_out c = record {
  filled = flag_code c.filled;
  seq = c.seq;
  last_t = c.last_t;
  next_chunk_seq = c.next_chunk_seq;
  chunk_ok_this_tick = flag_code c.chunk_ok_this_tick;
}

unfoldable pub tally_out : FuseTally → Tally
tally_out c = record {
  ticks = c.ticks;
  nominal = c.nominal;
  watching = c.watching;
  clamped = c.clamped;
  braking = c.braking;
  held = c.held;
  escalated = c.escalated;
  fault = c.fault;
  terminated = c.terminated;
  substituted = c.substituted;
  chunks_seen = c.chunks_seen;
  chunks_rejected = c.chunks_rejected;
  clamps = c.clamps;
  holds = c.holds;
  rearms = c.rearms;
  escalations = c.escalations;
  trips_by_bit = c.trips_by_bit;
  fired_by_feat = c.fired_by_feat;
  first_trip_tick = mark_out c.first_trip_tick;
  first_trip_reason = reason_mark_out c.first_trip_reason;
  first_stop_tick = mark_out c.first_stop_tick;
  handoff_tick = mark_out c.handoff_tick;
  violations_reached_env = c.violations_reached_env;
  max_s = c.max_s;
  max_z = c.max_z;
  terminal_state = state_code c.terminal_state;
  stop_actions = c.stop_actions;
}

unfoldable pub state_out : FuseRt → RunState
state_out r = record {
  control = control_out r.control;
  motion = motion_out r.motion;
  clock = clock_out r.clock;
  tally = tally_out r.tally;
}
