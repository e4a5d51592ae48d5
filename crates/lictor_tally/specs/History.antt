-- The tally and its history: what a list of ticks leaves in a tally that was empty before it
-- (01-scope.md, Modules 4). Proved in proofs/History.
use Rattle.std.specs.Prelude.{◌≡◌, Bool, true, cond, not, ◌&&◌, List, [], ◌∷◌, ℕ, ◌+◌, ◌-◌, ◌^◌, ◌<◌, min, eqb, ltb, length, get_or, Float, None, Some, Option}
use Rattle.lictor_core.specs.declared.reason.ReasonCode.{ReasonCode}
use Rattle.std.specs.Float.{inf, nan}
use Rattle.fmath.specs.Most.{most_of, Largest}
use Rattle.lictor_core.specs.Codes.{is_state, is_stop}
use Rattle.lictor_core.specs.Initial.{empty_tally}
use Rattle.lictor_core.specs.Sizes.{features, trip_bits}
use Rattle.lictor_core.specs.declared.state.FuseState.{FuseState}
use Rattle.lictor_core.specs.declared.state.FuseState.TheVariants as S
use Rattle.lictor_core.specs.declared.verdict.SafetyVerdict.{SafetyVerdict}
use Rattle.lictor_core.specs.declared.tally.Tally.{Tally}
use Rattle.lictor_tally.specs.declared.TickEvents.{TickEvents}
use Rattle.lictor_tally.specs.Tally.{bit_of, is_nominal, stops_arm, record_of, record_chunk}

-- what the tally takes in of a tick
pub record Item : Type 0 where
  -- a chunk was taken, and it was rejected
  pub chunk : Bool
  pub rejected : Bool
  pub verdict : SafetyVerdict
  pub events : TickEvents

-- one tick, in the order of `decide`: record_chunk where a chunk was taken, then record
unfoldable pub recorded : Tally → Item → Tally
recorded t x = record_of (cond x.chunk (record_chunk t x.rejected) t) x.verdict x.events

-- a list of ticks, each on the tally that the one before left
abbrev pub tally_from : Tally → List Item → Tally
tally_from t [] = t
tally_from t (x ∷ h) = tally_from (recorded t x) h

abbrev pub tally_of : List Item → Tally
tally_of h = tally_from empty_tally h

-- ---- counts: the field that holds each, and the ticks that it counts

pub data Count : Type 0 where
  ticks_count nominal_count watching_count clamped_count braking_count held_count escalated_count fault_count terminated_count : Count
  substituted_count violations_count chunks_seen_count chunks_rejected_count clamps_count holds_count rearms_count escalations_count stop_actions_count : Count
  -- one for each place of the two lists
  trips_count fired_count : ℕ → Count

abbrev pub value_of : Count → Tally → ℕ
value_of ticks_count t = t.ticks
value_of nominal_count t = t.nominal
value_of watching_count t = t.watching
value_of clamped_count t = t.clamped
value_of braking_count t = t.braking
value_of held_count t = t.held
value_of escalated_count t = t.escalated
value_of fault_count t = t.fault
value_of terminated_count t = t.terminated
value_of substituted_count t = t.substituted
value_of violations_count t = t.violations_reached_env
value_of chunks_seen_count t = t.chunks_seen
value_of chunks_rejected_count t = t.chunks_rejected
value_of clamps_count t = t.clamps
value_of holds_count t = t.holds
value_of rearms_count t = t.rearms
value_of escalations_count t = t.escalations
value_of stop_actions_count t = t.stop_actions
value_of (trips_count b) t = get_or t.trips_by_bit b 0
value_of (fired_count j) t = get_or t.fired_by_feat j 0

abbrev pub counts : Count → Item → Bool
counts ticks_count x = true
counts nominal_count x = is_nominal x.verdict.state
counts watching_count x = is_state x.verdict.state S.Watching
counts clamped_count x = is_state x.verdict.state S.Clamped
counts braking_count x = is_state x.verdict.state S.Braking
counts held_count x = is_state x.verdict.state S.Held
counts escalated_count x = is_state x.verdict.state S.Escalated
counts fault_count x = is_state x.verdict.state S.Fault
counts terminated_count x = is_state x.verdict.state S.Terminated
counts substituted_count x = x.verdict.substituted
counts violations_count x = x.verdict.violation_reached_env
counts chunks_seen_count x = x.chunk
counts chunks_rejected_count x = x.chunk && x.rejected
counts clamps_count x = x.events.clamped
counts holds_count x = x.events.entered_hold
counts rearms_count x = x.events.rearmed
counts escalations_count x = x.events.entered_escalated
counts stop_actions_count x = stops_arm x.verdict
counts (trips_count b) x = ltb b trip_bits && bit_of x.verdict.trips b
counts (fired_count j) x = ltb j features && bit_of x.verdict.scores.fired j

-- how many ticks of a list have a property
abbrev pub number : (Item → Bool) → List Item → ℕ
number p [] = 0
number p (x ∷ h) = cond (p x) 1 0 + number p h

-- the sum over the eight state counts
abbrev pub over_states : (Count → ℕ) → ℕ
over_states f = f nominal_count + f watching_count + f clamped_count + f braking_count + f held_count + f escalated_count + f fault_count + f terminated_count

-- ---- marks, maxima, the last state

abbrev pub has_trips : Item → Bool
has_trips x = not (eqb x.verdict.trips 0)

abbrev pub stops : Item → Bool
stops x = is_stop x.verdict.state

abbrev pub hands_over : Item → Bool
hands_over x = x.events.entered_escalated

-- a maximum: that of s, and one for each channel
pub data Maximum : Type 0 where
  of_s : Maximum
  of_z : ℕ → Maximum

-- the field that holds it; where there is no such channel, minus infinity
abbrev pub maximum_in : Maximum → Tally → Float
maximum_in of_s t = t.max_s
maximum_in (of_z j) t = get_or t.max_z j (inf true)

-- the ticks that it takes in: all, and of a channel those in which it is live
abbrev pub takes : Maximum → Item → Bool
takes of_s x = true
takes (of_z j) x = ltb j features && bit_of x.events.live_z j

-- what it takes of a verdict
abbrev pub score_in : Maximum → SafetyVerdict → Float
score_in of_s v = v.scores.s
score_in (of_z j) v = get_or v.scores.z j nan

abbrev pub score_of : Maximum → Item → Float
score_of m x = score_in m x.verdict

-- the t of the first tick with a property, and the reason of the first that trips
abbrev pub first_in : (Item → Bool) → List Item → Option ℕ
first_in p [] = None
first_in p (x ∷ h) = cond (p x) (Some x.verdict.t) (first_in p h)

abbrev pub first_reason_of : List Item → Option ReasonCode
first_reason_of [] = None
first_reason_of (x ∷ h) = cond (has_trips x) (Some x.verdict.reason) (first_reason_of h)

-- the state in which the last tick ended, s where there was none
abbrev pub last_in : FuseState → List Item → FuseState
last_in s [] = s
last_in s (x ∷ h) = last_in x.verdict.state h

-- ---- the claim, for every history

pub record OfHistory (h : List Item) : Type 0 where
  -- of whatever length: a count is the number of ticks that it counts, cut at its ceiling; so there
  -- it stays
  pub cut : (k : Count) → value_of k (tally_of h) ≡ min (number (counts k) h) (2 ^ 32 - 1)
  -- of fewer than 2^32 ticks: it is that number, `ticks` is the length, and the eight state counts
  -- sum to it
  pub exact : length h < 2 ^ 32 → (k : Count) → value_of k (tally_of h) ≡ number (counts k) h
  pub all : length h < 2 ^ 32 → (tally_of h).ticks ≡ length h
  pub sum : length h < 2 ^ 32 → over_states (λ k. value_of k (tally_of h)) ≡ (tally_of h).ticks
  -- the other fields
  pub first_trip : (tally_of h).first_trip_tick ≡ first_in has_trips h
  pub first_trip_reason : (tally_of h).first_trip_reason ≡ first_reason_of h
  pub first_stop : (tally_of h).first_stop_tick ≡ first_in stops h
  pub first_handoff : (tally_of h).handoff_tick ≡ first_in hands_over h
  -- a maximum is the larger of all that it takes in, one after the other, and so it is the largest
  -- of them that is no NaN, or minus infinity
  pub most : (m : Maximum) → maximum_in m (tally_of h) ≡ most_of (takes m) (score_of m) (inf true) h
  pub largest : (m : Maximum) → Largest (takes m) (score_of m) h (maximum_in m (tally_of h))
  pub last : (tally_of h).terminal_state ≡ last_in S.Idle h
