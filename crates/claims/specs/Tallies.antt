-- The tally and its ticks: what the run state's tally holds after any list of calls from a reset
-- on, or from the settings on (01-scope.md, Modules 4).
-- Proved in proofs/Tallies, `tally_told`.
use Rattle.std.specs.Prelude.{◌≡◌, Bool, cond, ◌&&◌, List, ℕ, ◌+◌, ◌^◌, ◌<◌, eqb, length}
use Rattle.lictor_core.specs.declared.fuse.FuseRt.{FuseRt}
use Rattle.lictor_core.specs.declared.state.FuseState.{FuseState}
use Rattle.lictor_core.specs.declared.state.FuseState.TheVariants as S
use Rattle.lictor_core.specs.declared.tally.Tally.{Tally}
use Rattle.lictor_core.specs.declared.verdict.SafetyVerdict.{SafetyVerdict}
use Rattle.lictor_core.specs.Codes.{is_state}
use Rattle.lictor_core.specs.Initial.{new_of, reset_of}
use Rattle.lictor_guard.specs.Delivery.{delivered_of}
use Rattle.lictor_stages.specs.Verdict.{events_of, rejected_of}
use Rattle.lictor_fuse.specs.FaultTick.{no_events}
use Rattle.lictor_table.specs.declared.Turn.{Turn}
use Rattle.lictor_tally.specs.History.{Item, tally_of}
use Rattle.lictor_tally.specs.Tally.{is_nominal}
use Rattle.lictor_fuse.specs.declared.Ticked.{Ticked}
use Rattle.claims.specs.Runs.{total, course}
use Rattle.claims.specs.Calls.{Call, guard_bits, trips_of, step_of, left_by}

-- ---- what the tally takes in of a tick

-- what the state machine answered, as far as the events go by it
abbrev pub turn_seen : FuseRt → SafetyVerdict → Turn
turn_seen r v = record { rt = r.control; state = v.state; extra = 0; reason = v.reason }

-- of a call on r, clean or not, that leaves r' and gives v: its verdict;
-- of a clean tick also its chunk, if it brings one, and its events
abbrev pub item_by : Bool → FuseRt → Call → FuseRt → SafetyVerdict → Item
item_by clean r c r' v =
    record {
      chunk = clean && delivered_of c.input.chunk;
      rejected = rejected_of (trips_of c);
      verdict = v;
      events = cond clean (events_of c.settings.calib c.outcome.scores r.control (turn_seen r' v)) no_events;
    }

abbrev pub item_of : FuseRt → Call → Ticked → Item
item_of r c a = item_by (eqb (guard_bits r c) 0) r c a.rt a.verdict

abbrev pub verdict_in : FuseRt → Call → Ticked → SafetyVerdict
verdict_in r c a = a.verdict

-- ---- of a list of calls from the run state r

-- what the tally took in, tick by tick, and the verdicts
abbrev pub history_from : FuseRt → List Call → List Item
history_from r cs = course (step_of item_of) r cs

abbrev pub verdicts_from : FuseRt → List Call → List SafetyVerdict
verdicts_from r cs = course (step_of verdict_in) r cs

-- ---- the claim

-- how many of the verdicts have the property
abbrev pub how_many : (SafetyVerdict → Bool) → List SafetyVerdict → ℕ
how_many p l = total (λ v. cond (p v) 1 0) l

abbrev pub ended_in : FuseState → SafetyVerdict → Bool
ended_in q v = is_state v.state q

-- in Idle or Armed
abbrev pub ended_nominal : SafetyVerdict → Bool
ended_nominal v = is_nominal v.state

-- every tick is counted, by its verdict's state
pub record StateCounts (t : Tally) (l : List SafetyVerdict) : Type 0 where
  pub ticks : t.ticks ≡ length l
  pub sum : t.nominal + t.watching + t.clamped + t.braking
      + t.held + t.escalated + t.fault + t.terminated ≡ t.ticks
  pub nominal : t.nominal ≡ how_many ended_nominal l
  pub watching : t.watching ≡ how_many (ended_in S.Watching) l
  pub clamped : t.clamped ≡ how_many (ended_in S.Clamped) l
  pub braking : t.braking ≡ how_many (ended_in S.Braking) l
  pub held : t.held ≡ how_many (ended_in S.Held) l
  pub escalated : t.escalated ≡ how_many (ended_in S.Escalated) l
  pub fault : t.fault ≡ how_many (ended_in S.Fault) l
  pub terminated : t.terminated ≡ how_many (ended_in S.Terminated) l

pub record TallyTold (r : FuseRt) (cs : List Call) : Type 0 where
  -- of whatever length: the tally is that of the history, every field
  -- (lictor_tally, specs/History, says of each what it holds, at its ceiling too)
  pub whole : (left_by r cs).tally ≡ tally_of (history_from r cs)
  -- below 2^32 ticks
  pub states : length (verdicts_from r cs) < 2 ^ 32 → StateCounts (left_by r cs).tally (verdicts_from r cs)

-- after any calls, whatever their settings, refused ones among them
pub record TalliesTold : Type 0 where
  -- from a reset on
  pub from_reset : (r : FuseRt) (cs : List Call) → TallyTold (reset_of r) cs
  -- from the start on, where no reset came: a tick then ends in Fault, and is counted all the same
  pub from_new : (cs : List Call) → TallyTold new_of cs
