-- What joining makes of the tallies of two stretches of one episode, the earlier and the later
-- (request 3). Each field goes by one of four rules: a count, a mark, a maximum, the last state.
use Rattle.std.specs.Prelude.{cond, List, ℕ, ◌+◌, ◌-◌, ◌^◌, min, eqb, get_or, Float, Option}
use Rattle.std.specs.Float.{nan}
use Rattle.fmath.specs.Float.{max_of}
use Rattle.lictor_core.specs.declared.state.FuseState.{FuseState}
use Rattle.lictor_core.specs.declared.tally.Tally.{Tally}
use Rattle.lictor_tally.specs.Counts.{each_from, is_never}

-- ---- the rules

-- a count: the sum, up to the largest number of 32 bits
unfoldable pub sum_of : ℕ → ℕ → ℕ
sum_of a b = min (a + b) (2 ^ 32 - 1)

-- what goes by a mark m of the earlier: the earlier's if the earlier has m, otherwise the later's
unfoldable pub marked_by : {X : Type 0} → Option ℕ → X → X → X
marked_by m a b = cond (is_never m) b a

-- a mark: the earlier's if the earlier has it, whatever its t is, otherwise the later's
unfoldable pub mark_of : Option ℕ → Option ℕ → Option ℕ
mark_of a b = marked_by a a b

-- the last state: the later's, unless the later has no ticks
unfoldable pub last_by : ℕ → FuseState → FuseState → FuseState
last_by ticks a b = cond (eqb ticks 0) a b

-- a list by one rule, place by place; a place that the later does not have is taken as d
unfoldable pub join_at : {X : Type 0} → (X → X → X) → X → List X → ℕ → X → X
join_at f d b k x = f x (get_or b k d)

unfoldable pub join_each : {X : Type 0} → (X → X → X) → X → List X → List X → List X
join_each f d a b = each_from 0 (join_at f d b) a

unfoldable pub sum_each : List ℕ → List ℕ → List ℕ
sum_each a b = join_each sum_of 0 a b

unfoldable pub max_each : List Float → List Float → List Float
max_each a b = join_each max_of nan a b

-- ---- the fields, in the order of tally.rs

-- of any two tallies, also such as no episode gives
unfoldable pub join_of : Tally → Tally → Tally
join_of a b = record {
  ticks = sum_of a.ticks b.ticks;
  nominal = sum_of a.nominal b.nominal;
  watching = sum_of a.watching b.watching;
  clamped = sum_of a.clamped b.clamped;
  braking = sum_of a.braking b.braking;
  held = sum_of a.held b.held;
  escalated = sum_of a.escalated b.escalated;
  fault = sum_of a.fault b.fault;
  terminated = sum_of a.terminated b.terminated;
  substituted = sum_of a.substituted b.substituted;
  chunks_seen = sum_of a.chunks_seen b.chunks_seen;
  chunks_rejected = sum_of a.chunks_rejected b.chunks_rejected;
  clamps = sum_of a.clamps b.clamps;
  holds = sum_of a.holds b.holds;
  rearms = sum_of a.rearms b.rearms;
  escalations = sum_of a.escalations b.escalations;
  trips_by_bit = sum_each a.trips_by_bit b.trips_by_bit;
  fired_by_feat = sum_each a.fired_by_feat b.fired_by_feat;
  -- the reason comes from the same tally as the tick that it belongs to
  first_trip_tick = mark_of a.first_trip_tick b.first_trip_tick;
  first_trip_reason = marked_by a.first_trip_tick a.first_trip_reason b.first_trip_reason;
  first_stop_tick = mark_of a.first_stop_tick b.first_stop_tick;
  handoff_tick = mark_of a.handoff_tick b.handoff_tick;
  violations_reached_env = sum_of a.violations_reached_env b.violations_reached_env;
  max_s = max_of a.max_s b.max_s;
  max_z = max_each a.max_z b.max_z;
  terminal_state = last_by b.ticks a.terminal_state b.terminal_state;
  stop_actions = sum_of a.stop_actions b.stop_actions;
}
