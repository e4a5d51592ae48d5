-- The tally and its history: the proofs of specs/History. A law of one tick for each field, and
-- what it says of a list of ticks.
use Rattle.std.proofs.Common.{None, Some, Option, ℕ}
use Rattle.std.specs.Option.{option_or}
use mathlib.Core.Path.{◌≡◌, refl, ◌∙◌}
use mathlib.Core.Bool.{Bool, true, false, cond, ◌&&◌}
use mathlib.Core.List.{List, [], ◌∷◌, ◌++◌}
use Prim.Native.Nat.{ℕ, zero, suc, ◌+◌, ◌-◌, ◌^◌, ◌≤◌, ◌<◌, min}
use native.Mathlib.Omega.{arith}
use lib.ListN.{length, get_or, replicate}
use lib.Ieee.{Float, inf}
use Rattle.fmath.specs.Float.{max_of}
use Rattle.fmath.specs.Most.{most_of}
use Rattle.fmath.proofs.Most.{most_largest}
use Rattle.lictor_core.specs.Initial.{empty_tally}
use Rattle.lictor_core.specs.Sizes.{features, trip_bits}
use Rattle.lictor_core.specs.declared.reason.ReasonCode.{ReasonCode}
use Rattle.lictor_core.specs.declared.state.FuseState.{FuseState}
use Rattle.lictor_core.specs.declared.state.FuseState.TheVariants as S
use Rattle.lictor_core.specs.declared.tally.Tally.{Tally}
use Rattle.lictor_tally.specs.Tally.{count, count_bit, count_bits, first, first_reason, most_at, most_live, record_of, record_chunk, with_chunks}
use Rattle.lictor_tally.specs.History.{Item, recorded, tally_from, tally_of, Count, ticks_count, nominal_count, watching_count, clamped_count, braking_count, held_count, escalated_count, fault_count, terminated_count, substituted_count, violations_count, chunks_seen_count, chunks_rejected_count, clamps_count, holds_count, rearms_count, escalations_count, stop_actions_count, trips_count, fired_count, value_of, counts, number, over_states, has_trips, stops, hands_over, Maximum, of_s, of_z, maximum_in, takes, score_of, first_in, first_reason_of, last_in, OfHistory}
use Rattle.lictor_tally.proofs.Places.{length_each}
use Rattle.lictor_tally.proofs.CountsLaws.{count_fits, bits_at, most_at_lem}

-- ---- one tick

-- a chunk, or none, as one update
chunked : (t : Tally) (c r : Bool) → cond c (record_chunk t r) t ≡ with_chunks (count c t.chunks_seen) (count (c && r) t.chunks_rejected) t
unfolding record_chunk count
chunked t true r = refl
chunked t false r = refl

-- a tick as one record of all fields
unfoldable pub ticked : Tally → Item → Tally
ticked t x = record_of (with_chunks (count x.chunk t.chunks_seen) (count (x.chunk && x.rejected) t.chunks_rejected) t) x.verdict x.events

pub as_ticked : (t : Tally) (x : Item) → recorded t x ≡ ticked t x
unfolding recorded ticked
as_ticked t x = rw (chunked t x.chunk x.rejected)

-- the lists have their lengths
pub record Sized (t : Tally) : Type 0 where
  pub trips : length t.trips_by_bit ≡ 16
  pub fired : length t.fired_by_feat ≡ 12
  pub maxima : length t.max_z ≡ 12

pub empty_sized : Sized empty_tally
unfolding empty_tally
empty_sized = record { trips = refl; fired = refl; maxima = refl }

pub stays_sized : (t : Tally) (x : Item) → Sized t → Sized (recorded t x)
unfolding ticked record_of count_bits most_live
stays_sized t x z = rw (as_ticked t x) (record {
  trips = length_each (count_bit x.verdict.trips) 0 _ ∙ z.trips;
  fired = length_each (count_bit x.verdict.scores.fired) 0 _ ∙ z.fired;
  maxima = length_each (most_at x.events.live_z x.verdict.scores.z) 0 _ ∙ z.maxima;
})

-- a count moves where the tick is one that it counts
moves : (k : Count) (t : Tally) (x : Item) → Sized t → value_of k (ticked t x) ≡ count (counts k x) (value_of k t)
unfolding ticked record_of count
moves ticks_count t x z = refl
moves nominal_count t x z = refl
moves watching_count t x z = refl
moves clamped_count t x z = refl
moves braking_count t x z = refl
moves held_count t x z = refl
moves escalated_count t x z = refl
moves fault_count t x z = refl
moves terminated_count t x z = refl
moves substituted_count t x z = refl
moves violations_count t x z = refl
moves chunks_seen_count t x z = refl
moves chunks_rejected_count t x z = refl
moves clamps_count t x z = refl
moves holds_count t x z = refl
moves rearms_count t x z = refl
moves escalations_count t x z = refl
moves stop_actions_count t x z = refl
moves (trips_count b) t x z = bits_at x.verdict.trips t.trips_by_bit 16 b z.trips
moves (fired_count j) t x z = bits_at x.verdict.scores.fired t.fired_by_feat 12 j z.fired

pub tick_counts : (k : Count) (t : Tally) (x : Item) → Sized t → value_of k (recorded t x) ≡ count (counts k x) (value_of k t)
tick_counts k t x z = rw (as_ticked t x) (moves k t x z)

-- ---- a list of ticks, from any tally

-- two lists in a row
pub tally_append : (t : Tally) (a b : List Item) → tally_from t (a ++ b) ≡ tally_from (tally_from t a) b
tally_append t [] b = refl
tally_append t (x ∷ a) b = tally_append (recorded t x) a b

-- one tick more
pub tally_next : (h : List Item) (x : Item) → tally_of (h ++ (x ∷ [])) ≡ recorded (tally_of h) x
tally_next h x = tally_append empty_tally h (x ∷ [])

-- counts: what was there and the number of ticks counted, cut at the ceiling
goes_on_lem : (b : Bool) (c n : ℕ) → min (count b c + n) (2 ^ 32 - 1) ≡ min (c + (cond b 1 0 + n)) (2 ^ 32 - 1)
unfolding count
goes_on_lem true c n = omega arith
goes_on_lem false c n = omega arith

pub count_from : (k : Count) (t : Tally) (h : List Item) → Sized t → value_of k t < 2 ^ 32 → value_of k (tally_from t h) ≡ min (value_of k t + number (counts k) h) (2 ^ 32 - 1)
count_from k t [] z f = omega arith
count_from k t (x ∷ h) z f =
    let e : value_of k (recorded t x) ≡ count (counts k x) (value_of k t) = tick_counts k t x z in
    count_from k (recorded t x) h (stays_sized t x z) (rw e (count_fits (counts k x) (value_of k t) f)) ∙ rw e (goes_on_lem (counts k x) (value_of k t) (number (counts k) h))

-- a mark that goes by `first`: the one that was set, else that of the first tick in the list
abbrev pub or_else : Option ℕ → Option ℕ → Option ℕ
or_else None m = m
or_else (Some k) m = Some k

mark_none : (m : Option ℕ) → m ≡ option_or m None
mark_none None = refl
mark_none (Some k) = refl

mark_this : (b : Bool) (t : ℕ) (m n : Option ℕ) → option_or (first b t m) n ≡ option_or m (cond b (Some t) n)
unfolding first
mark_this true t None n = refl
mark_this false t None n = refl
mark_this true t (Some k) n = refl
mark_this false t (Some k) n = refl

module _ (mark : Tally → Option ℕ) (p : Item → Bool) (tick : (t : Tally) (x : Item) → mark (recorded t x) ≡ first (p x) x.verdict.t (mark t)) where
  pub mark_from : (t : Tally) (h : List Item) → mark (tally_from t h) ≡ option_or (mark t) (first_in p h)
  mark_from t [] = mark_none (mark t)
  mark_from t (x ∷ h) = mark_from (recorded t x) h ∙ rw (tick t x) (mark_this (p x) x.verdict.t (mark t) (first_in p h))

-- the reason beside a mark: the one that was written, else that of the first tick in the list, else
-- the old one
abbrev pub or_reason : Option ℕ → Option ReasonCode → Option ReasonCode → Option ReasonCode
or_reason None old None = old
or_reason None old (Some w) = Some w
or_reason (Some k) old n = old

reason_none : (m : Option ℕ) (old : Option ReasonCode) → old ≡ or_reason m old None
reason_none None old = refl
reason_none (Some k) old = refl

reason_this : (b : Bool) (t : ℕ) (w : ReasonCode) (m : Option ℕ) (old n : Option ReasonCode) → or_reason (first b t m) (first_reason b m w old) n ≡ or_reason m old (cond b (Some w) n)
unfolding first first_reason
reason_this true t w None old n = refl
reason_this false t w None old n = refl
reason_this true t w (Some k) old n = refl
reason_this false t w (Some k) old n = refl

trip_marked : (t : Tally) (x : Item) → (recorded t x).first_trip_tick ≡ first (has_trips x) x.verdict.t t.first_trip_tick
unfolding ticked record_of
trip_marked t x = rw (as_ticked t x)

trip_reasoned : (t : Tally) (x : Item) → (recorded t x).first_trip_reason ≡ first_reason (has_trips x) t.first_trip_tick x.verdict.reason t.first_trip_reason
unfolding ticked record_of
trip_reasoned t x = rw (as_ticked t x)

pub reason_from : (t : Tally) (h : List Item) → (tally_from t h).first_trip_reason ≡ or_reason t.first_trip_tick t.first_trip_reason (first_reason_of h)
reason_from t [] = reason_none t.first_trip_tick t.first_trip_reason
reason_from t (x ∷ h) = reason_from (recorded t x) h ∙ rw (trip_marked t x, trip_reasoned t x) (reason_this (has_trips x) x.verdict.t x.verdict.reason t.first_trip_tick t.first_trip_reason (first_reason_of h))

-- a maximum: of what was there and the scores that it takes
module _ (most : Tally → Float) (p : Item → Bool) (score : Item → Float) (tick : (t : Tally) (x : Item) → Sized t → most (recorded t x) ≡ cond (p x) (max_of (most t) (score x)) (most t)) where
  pub most_from : (t : Tally) (h : List Item) → Sized t → most (tally_from t h) ≡ most_of p score (most t) h
  most_from t [] z = refl
  most_from t (x ∷ h) z = rw (← tick t x z) (most_from (recorded t x) h (stays_sized t x z))

-- the last state
pub last_from : (t : Tally) (h : List Item) → (tally_from t h).terminal_state ≡ last_in t.terminal_state h
unfolding recorded record_of
last_from t [] = refl
last_from t (x ∷ h) = last_from (recorded t x) h

-- ---- from an empty tally

-- a list that has one value everywhere, and past its end too
all_same : {X : Type 0} (n b : ℕ) (x : X) → get_or (replicate n x) b x ≡ x
all_same zero b x = refl
all_same (suc n) zero x = refl
all_same (suc n) (suc b) x = all_same n b x

none_yet : (k : Count) → value_of k empty_tally ≡ 0
unfolding empty_tally
none_yet ticks_count = refl
none_yet nominal_count = refl
none_yet watching_count = refl
none_yet clamped_count = refl
none_yet braking_count = refl
none_yet held_count = refl
none_yet escalated_count = refl
none_yet fault_count = refl
none_yet terminated_count = refl
none_yet substituted_count = refl
none_yet violations_count = refl
none_yet chunks_seen_count = refl
none_yet chunks_rejected_count = refl
none_yet clamps_count = refl
none_yet holds_count = refl
none_yet rearms_count = refl
none_yet escalations_count = refl
none_yet stop_actions_count = refl
none_yet (trips_count b) = all_same trip_bits b 0
none_yet (fired_count j) = all_same features j 0

pub count_all : (h : List Item) (k : Count) → value_of k (tally_of h) ≡ min (number (counts k) h) (2 ^ 32 - 1)
count_all h k =
    let e : value_of k empty_tally < 2 ^ 32 = omega (arith, none_yet k) in
    omega (arith, none_yet k, count_from k empty_tally h empty_sized e)

number_le : (p : Item → Bool) (h : List Item) → number p h ≤ length h
number_le p [] = omega arith
number_le p (x ∷ h) = by_test (p x) (number_le p h) where
  by_test : (b : Bool) → number p h ≤ length h → cond b 1 0 + number p h ≤ suc (length h)
  by_test true e = omega arith
  by_test false e = omega arith

-- a number that fits is the count
exactly : (h : List Item) (k : Count) → number (counts k) h < 2 ^ 32 → value_of k (tally_of h) ≡ number (counts k) h
exactly h k f = omega (arith, count_all h k)

-- every tick is counted by `ticks`, and by just one of the state counts
each_tick : (h : List Item) → number (counts ticks_count) h ≡ length h
each_tick [] = refl
each_tick (x ∷ h) = omega (arith, each_tick h)

one_state : (s : FuseState) (x : Item) → x.verdict.state ≡ s → over_states (λ k. cond (counts k x) 1 0) ≡ 1
one_state S.Idle x e = rw e
one_state S.Armed x e = rw e
one_state S.Watching x e = rw e
one_state S.Clamped x e = rw e
one_state S.Braking x e = rw e
one_state S.Held x e = rw e
one_state S.Escalated x e = rw e
one_state S.Fault x e = rw e
one_state S.Terminated x e = rw e

each_state : (h : List Item) → over_states (λ k. number (counts k) h) ≡ length h
each_state [] = refl
each_state (x ∷ h) = omega (arith, each_state h, one_state x.verdict.state x refl)

sums : (h : List Item) → ((k : Count) → value_of k (tally_of h) ≡ number (counts k) h) → over_states (λ k. value_of k (tally_of h)) ≡ (tally_of h).ticks
sums h e = omega (arith, each_state h, each_tick h, e ticks_count, e nominal_count, e watching_count, e clamped_count, e braking_count, e held_count, e escalated_count, e fault_count, e terminated_count)

reason_first : (n : Option ReasonCode) → or_reason None None n ≡ n
reason_first None = refl
reason_first (Some w) = refl

-- each maximum is the larger of what it was and the score, where it takes the tick in
larger : (m : Maximum) (t : Tally) (x : Item) → Sized t → maximum_in m (recorded t x) ≡ cond (takes m x) (max_of (maximum_in m t) (score_of m x)) (maximum_in m t)
unfolding ticked record_of
larger of_s t x z = rw (as_ticked t x)
larger (of_z j) t x z = rw (as_ticked t x) (most_at_lem x.events.live_z x.verdict.scores.z t.max_z features j (inf true) z.maxima)

lowest : (m : Maximum) → maximum_in m empty_tally ≡ inf true
unfolding empty_tally
lowest of_s = refl
lowest (of_z j) = all_same features j (inf true)

maximum_of : (h : List Item) (m : Maximum) → maximum_in m (tally_of h) ≡ most_of (takes m) (score_of m) (inf true) h
maximum_of h m = rw (lowest m) at (most_from (maximum_in m) (takes m) (score_of m) (larger m) empty_tally h empty_sized)

-- ---- the claim

pub history : (h : List Item) → OfHistory h
unfolding empty_tally ticked record_of
history h = record {
  cut = count_all h;
  exact = λ b k. exactly h k (omega (arith, number_le (counts k) h));
  all = λ b. omega (arith, count_all h ticks_count, each_tick h);
  sum = λ b. sums h (λ k. exactly h k (omega (arith, number_le (counts k) h)));
  first_trip = mark_from (λ t. t.first_trip_tick) has_trips trip_marked empty_tally h;
  first_trip_reason = reason_from empty_tally h ∙ reason_first (first_reason_of h);
  first_stop = mark_from (λ t. t.first_stop_tick) stops (λ t x. rw (as_ticked t x)) empty_tally h;
  first_handoff = mark_from (λ t. t.handoff_tick) hands_over (λ t x. rw (as_ticked t x)) empty_tally h;
  most = maximum_of h;
  largest = λ m. rw (maximum_of h m) (most_largest (takes m) (score_of m) h);
  last = last_from empty_tally h;
}
