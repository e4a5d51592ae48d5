-- A fault tick (01-scope.md, One tick; fuse.rs, fault_tick): it takes t and, if it is fit,
-- the position; nothing of the outcome, the acknowledgement, the chunk or the velocity.
use Rattle.std.specs.Prelude.{Bool, true, false, cond, ◌&&◌, List, ℕ, eqb, length, Float, None}
use Rattle.std.specs.Int.Bits.{bit_or}
use Rattle.std.specs.Float.{nan}
use Rattle.fmath.specs.Float.{all_finite}
use Rattle.lictor_core.specs.declared.envelope.FuseConfig.{FuseConfig}
use Rattle.lictor_core.specs.declared.fuse.Clock.{Clock}
use Rattle.lictor_core.specs.declared.fuse.FuseRt.{FuseRt}
use Rattle.lictor_core.specs.declared.fuse.Motion.{Motion}
use Rattle.lictor_core.specs.declared.fuse.TickInput.{TickInput}
use Rattle.lictor_core.specs.declared.state.FuseState.{FuseState}
use Rattle.lictor_core.specs.declared.verdict.ActionSource.TheVariants.{Hold}
use Rattle.lictor_core.specs.declared.verdict.SafetyVerdict.{SafetyVerdict}
use Rattle.lictor_core.specs.Codes.{is_project}
use Rattle.lictor_detect.specs.Brake.{hold_action}
use Rattle.lictor_detect.specs.Window.{hits_of}
use Rattle.lictor_guard.specs.Delivery.{delivered_of}
use Rattle.lictor_core.specs.Rows.{taken_row}
use Rattle.lictor_stages.specs.Act.{status_of}
use Rattle.lictor_stages.specs.Verdict.{action_dim, disarmed_scores}
use Rattle.lictor_table.specs.declared.FsmInput.{FsmInput}
use Rattle.lictor_table.specs.declared.Turn.{Turn}
use Rattle.lictor_table.specs.Table.{next_of}
use Rattle.lictor_tally.specs.declared.TickEvents.{TickEvents}
use Rattle.lictor_fuse.specs.declared.decide.Decided.{Decided}
use Rattle.lictor_fuse.specs.Closed.{closed_of}

-- ---- what it takes

-- the length is right and every value finite
unfoldable pub is_fit : FuseConfig → List Float → Bool
is_fit cfg pos = eqb (length pos) cfg.pos_dim && all_finite pos

-- the position alone (01-scope.md, the fault tick)
unfoldable pub with_pos : FuseConfig → Motion → List Float → Motion
with_pos cfg m pos = record {
  pos = taken_row pos m.pos cfg.pos_dim;
  prev_pos = m.prev_pos;
  vel = m.vel;
  have_prev_pos = m.have_prev_pos;
  last_cmd = m.last_cmd;
}

-- the position is taken if it is fit, and nothing else
unfoldable pub fault_motion : FuseConfig → Motion → List Float → Motion
fault_motion cfg m pos = cond (is_fit cfg pos) (with_pos cfg m pos) m

-- ---- what the machine is asked

-- the guard's bits, whether a chunk came, and nothing else that the tick brings
unfoldable pub fault_input : FuseConfig → TickInput → ℕ → FsmInput
fault_input cfg inp bits = record {
  trips = bits;
  predictive = false;
  warn = false;
  soft_clampable = is_project cfg.clamp;
  stopped = false;
  chunk_boundary = delivered_of inp.chunk;
  chunk_ok = false;
  ack = None;
}

-- ---- the verdict

-- nothing of the outcome, the hold action in both modes
unfoldable pub fault_verdict : FuseConfig → ℕ → FuseState → TickInput → ℕ → Turn → List Float → SafetyVerdict
fault_verdict cfg seq from inp bits turn action = record {
  seq = seq;
  t = inp.t;
  status = status_of turn.state;
  state = turn.state;
  prev_state = from;
  trips = bit_or bits turn.extra;
  action = action;
  action_dim = action_dim cfg;
  action_src = Hold;
  substituted = true;
  clamped_dims = 0;
  scores = disarmed_scores;
  tau = cfg.calib.tau;
  window = turn.rt.window.bits;
  window_hits = hits_of turn.rt.window;
  brake_margin = nan;
  reason = turn.reason;
  handoff_seq = None;
  ack_consumed = false;
  violation_reached_env = false;
}

-- ---- the clock

-- t alone is taken
unfoldable pub fault_clock : Clock → ℕ → Clock
fault_clock k t = record {
  filled = k.filled;
  seq = k.seq;
  last_t = t;
  next_chunk_seq = k.next_chunk_seq;
  chunk_ok_this_tick = k.chunk_ok_this_tick;
}

-- ---- the tick

-- TickEvents::default
unfoldable pub no_events : TickEvents
no_events = record { entered_hold = false; entered_escalated = false; rearmed = false; clamped = false; live_z = 0 }

-- its end: t alone moves the clock, and no event is recorded
unfoldable pub close_fault : FuseRt → TickInput → Motion → Turn → SafetyVerdict → Decided
close_fault rt inp m turn v = closed_of turn.rt m (fault_clock rt.clock inp.t) rt.tally v no_events

-- the position, the state machine, the hold action and the verdict, in the order of fuse.rs
unfoldable pub fault_tick : FuseConfig → FuseRt → TickInput → ℕ → List Float → Decided
fault_tick cfg rt inp bits pos =
    let m = fault_motion cfg rt.motion pos in
    let turn = next_of cfg rt.control m.pos (fault_input cfg inp bits) in
    let v = fault_verdict cfg rt.clock.seq rt.control.state inp bits turn (hold_action cfg turn.rt.hold) in
    close_fault rt inp m turn v
