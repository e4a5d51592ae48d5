-- What a tick makes of the tally (tally.rs). Each field goes by one of four rules: a count, a mark,
-- a maximum (lictor_tally, specs/Counts), the last state.
use Rattle.std.specs.Prelude.{Bool, not, ◌&&◌, ℕ, eqb}
use Rattle.fmath.specs.Float.{max_of}
use Rattle.lictor_core.specs.Codes.{is_state, is_stop, is_stop_action}
use Rattle.lictor_core.specs.Num.{sat_up}
use Rattle.lictor_core.specs.declared.state.FuseState.TheVariants as S
use Rattle.lictor_core.specs.declared.verdict.SafetyVerdict.{SafetyVerdict}
use Rattle.lictor_core.specs.declared.tally.Tally.{Tally}
use Rattle.lictor_tally.specs.declared.TickEvents.{TickEvents}
unfoldable pub use Rattle.lictor_tally.specs.Counts.{count, bit_of, count_bit, each_from, count_bits, first, first_reason, most_at, most_live}
pub use Rattle.lictor_tally.specs.Counts.{is_nominal, is_never}

-- the tick stops the arm: it ends in a stop state, and its action is the brake or the hold one, no
-- row of the outcome (02-change-requests.md, Ask 8)
abbrev pub stops_arm : SafetyVerdict → Bool
stops_arm v = is_stop v.state && is_stop_action v.action_src

-- ---- Tally::record

unfoldable pub record_of : Tally → SafetyVerdict → TickEvents → Tally
record_of t v ev = record {
  ticks = sat_up 32 t.ticks;
  -- the match on the verdict's state
  nominal = count (is_nominal v.state) t.nominal;
  watching = count (is_state v.state S.Watching) t.watching;
  clamped = count (is_state v.state S.Clamped) t.clamped;
  braking = count (is_state v.state S.Braking) t.braking;
  held = count (is_state v.state S.Held) t.held;
  escalated = count (is_state v.state S.Escalated) t.escalated;
  fault = count (is_state v.state S.Fault) t.fault;
  terminated = count (is_state v.state S.Terminated) t.terminated;
  substituted = count v.substituted t.substituted;
  -- these two are record_chunk's
  chunks_seen = t.chunks_seen;
  chunks_rejected = t.chunks_rejected;
  -- what the events say
  clamps = count ev.clamped t.clamps;
  holds = count ev.entered_hold t.holds;
  rearms = count ev.rearmed t.rearms;
  escalations = count ev.entered_escalated t.escalations;
  -- the two loops
  trips_by_bit = count_bits v.trips t.trips_by_bit;
  fired_by_feat = count_bits v.scores.fired t.fired_by_feat;
  -- the first trip and its reason, the first stop, the first handoff
  first_trip_tick = first (not (eqb v.trips 0)) v.t t.first_trip_tick;
  first_trip_reason = first_reason (not (eqb v.trips 0)) t.first_trip_tick v.reason t.first_trip_reason;
  first_stop_tick = first (is_stop v.state) v.t t.first_stop_tick;
  handoff_tick = first ev.entered_escalated v.t t.handoff_tick;
  violations_reached_env = count v.violation_reached_env t.violations_reached_env;
  -- s of every tick; z of live channels alone
  max_s = max_of t.max_s v.scores.s;
  max_z = most_live ev.live_z v.scores.z t.max_z;
  terminal_state = v.state;
  -- not in tally.rs
  stop_actions = count (stops_arm v) t.stop_actions;
}

-- ---- Tally::record_chunk

-- the two counts of chunks anew, the rest as it was
abbrev pub with_chunks : ℕ → ℕ → Tally → Tally
with_chunks seen rejected t = record {
  chunks_seen = seen;
  chunks_rejected = rejected;
  ticks = t.ticks;
  nominal = t.nominal;
  watching = t.watching;
  clamped = t.clamped;
  braking = t.braking;
  held = t.held;
  escalated = t.escalated;
  fault = t.fault;
  terminated = t.terminated;
  substituted = t.substituted;
  clamps = t.clamps;
  holds = t.holds;
  rearms = t.rearms;
  escalations = t.escalations;
  trips_by_bit = t.trips_by_bit;
  fired_by_feat = t.fired_by_feat;
  first_trip_tick = t.first_trip_tick;
  first_trip_reason = t.first_trip_reason;
  first_stop_tick = t.first_stop_tick;
  handoff_tick = t.handoff_tick;
  violations_reached_env = t.violations_reached_env;
  max_s = t.max_s;
  max_z = t.max_z;
  terminal_state = t.terminal_state;
  stop_actions = t.stop_actions;
}

unfoldable pub record_chunk : Tally → Bool → Tally
record_chunk t rejected = with_chunks (sat_up 32 t.chunks_seen) (count rejected t.chunks_rejected) t
