-- The laws of joining: the proofs of specs/Stretches. A law of one tick for each kind of field says
-- that a tick may be recorded before or after joining; the others follow from it.
use Rattle.std.proofs.Common.{None, Some, Option, ℕ}
use mathlib.Core.Path.{◌≡◌, refl, sym, ap, ◌∙◌}
use mathlib.Core.Bool.{Bool, true, false, cond}
use mathlib.Core.List.{List, [], ◌∷◌, ◌++◌, append_assoc}
use Prim.Native.Nat.{ℕ, ◌+◌, ◌^◌, ◌<◌}
use native.Mathlib.Omega.{arith}
use lib.Dec.{eqb}
use borrow.Author.Tests.{ne_eqb}
use lib.ListN.{length, get_or, replicate, get_or-replicate}
use lib.Ieee.{Float, inf, nan}
use Rattle.fmath.specs.Float.{max_of}
use Rattle.fmath.specs.Rank.{Number}
use Rattle.fmath.proofs.Order.{max_assoc, max_to_lowest}
use Rattle.lictor_core.specs.Initial.{empty_tally}
use Rattle.lictor_core.specs.Num.{sat_up}
use Rattle.lictor_core.specs.Sizes.{features, trip_bits}
use Rattle.lictor_core.specs.declared.reason.ReasonCode.{ReasonCode}
use Rattle.lictor_core.specs.declared.state.FuseState.{FuseState}
use Rattle.lictor_core.specs.declared.tally.Tally.{Tally}
use Rattle.lictor_tally.specs.Tally.{count, bit_of, count_bit, count_bits, each_from, first, first_reason, most_at, most_live, record_of}
use Rattle.lictor_tally.specs.History as H
use Rattle.lictor_tally.specs.History.{Item, recorded, tally_from, tally_of, Count, value_of, counts, Maximum, of_s, of_z, maximum_in, has_trips, stops, hands_over, first_in, first_reason_of}
use Rattle.lictor_tally.specs.Join.{sum_of, marked_by, mark_of, last_by, join_at, join_each, sum_each, max_each, join_of}
use Rattle.lictor_tally.specs.Stretches.{JoinTold}
use Rattle.lictor_tally.proofs.Places.{each_at, each_twice, each_alike, each_same}
use Rattle.lictor_tally.proofs.History.{ticked, as_ticked, Sized, empty_sized, stays_sized, tally_append, count_all, history}

-- ---- one tick, recorded before joining or after it: a law for each kind of field

sum_count : (moves : Bool) (a b : ℕ) → sum_of a (count moves b) ≡ count moves (sum_of a b)
unfolding sum_of count
sum_count true a b = omega arith
sum_count false a b = refl

mark_first : (happens : Bool) (t : ℕ) (a b : Option ℕ) → mark_of a (first happens t b) ≡ first happens t (mark_of a b)
unfolding mark_of marked_by first
mark_first happens t None b = refl
mark_first true t (Some k) b = refl
mark_first false t (Some k) b = refl

reason_first : (happens : Bool) (w : ReasonCode) (a b : Option ℕ) (v u : Option ReasonCode) → marked_by a v (first_reason happens b w u) ≡ first_reason happens (mark_of a b) w (marked_by a v u)
unfolding mark_of marked_by first_reason
reason_first happens w None b v u = refl
reason_first true w (Some k) b v u = refl
reason_first false w (Some k) b v u = refl

max_most : (takes : Bool) (a b s : Float) → max_of a (cond takes (max_of b s) b) ≡ cond takes (max_of (max_of a b) s) (max_of a b)
max_most true a b s = sym (max_assoc a b s)
max_most false a b s = refl

-- a tick has been, so that the later has ticks
last_later : (n : ℕ) (s u : FuseState) → last_by (sat_up 32 n) s u ≡ u
unfolding last_by
last_later n s u = let e : eqb (sat_up 32 n) 0 ≡ false = ne_eqb (sat_up 32 n) 0 (omega arith) in rw e

-- a list whose elements go by a rule of their place that may come before joining or after it
module _ {X : Type 0} (f : X → X → X) (d : X) (g : ℕ → X → X) (after : (k : ℕ) (x y : X) → f x (g k y) ≡ g k (f x y)) where
  each_after : (a b : List X) → length a ≡ length b → join_each f d a (each_from 0 g b) ≡ each_from 0 g (join_each f d a b)
  unfolding join_each join_at
  each_after a b e =
      each_alike (join_at f d (each_from 0 g b)) (λ k x. g k (join_at f d b k x)) a d
      (λ k h. let i : 0 + k ≡ k = omega arith in ap (f (get_or a k d)) (rw i at (each_at g 0 b k d (omega arith))) ∙ after k (get_or a k d) (get_or b k d))
      ∙ sym (each_twice (join_at f d b) g 0 a)

sum_bits : (mask : ℕ) (l m : List ℕ) → length l ≡ length m → sum_each l (count_bits mask m) ≡ count_bits mask (sum_each l m)
unfolding sum_each count_bits count_bit
sum_bits mask l m e = each_after sum_of 0 (count_bit mask) (λ k x y. sum_count (bit_of mask k) x y) l m e

max_live : (live : ℕ) (z l m : List Float) → length l ≡ length m → max_each l (most_live live z m) ≡ most_live live z (max_each l m)
unfolding max_each most_live most_at
max_live live z l m e = each_after max_of nan (most_at live z) (λ k x y. max_most (bit_of live k) x y (get_or z k nan)) l m e

-- ---- one tick and a list of ticks

module _ (a b : Tally) (p : Sized a) (q : Sized b) where
  sums : (x : Item) (k : Count) → sum_of (value_of k a) (count (counts k x) (value_of k b)) ≡ count (counts k x) (sum_of (value_of k a) (value_of k b))
  sums x k = sum_count (counts k x) (value_of k a) (value_of k b)

  as_joined : (x : Item) → join_of a (ticked b x) ≡ ticked (join_of a b) x
  unfolding ticked record_of join_of count
  as_joined x =
      let v = x.verdict in
      λ i. record {
        ticks = sums x H.ticks_count i;
        nominal = sums x H.nominal_count i;
        watching = sums x H.watching_count i;
        clamped = sums x H.clamped_count i;
        braking = sums x H.braking_count i;
        held = sums x H.held_count i;
        escalated = sums x H.escalated_count i;
        fault = sums x H.fault_count i;
        terminated = sums x H.terminated_count i;
        substituted = sums x H.substituted_count i;
        chunks_seen = sums x H.chunks_seen_count i;
        chunks_rejected = sums x H.chunks_rejected_count i;
        clamps = sums x H.clamps_count i;
        holds = sums x H.holds_count i;
        rearms = sums x H.rearms_count i;
        escalations = sums x H.escalations_count i;
        trips_by_bit = sum_bits v.trips a.trips_by_bit b.trips_by_bit (p.trips ∙ sym q.trips) i;
        fired_by_feat = sum_bits v.scores.fired a.fired_by_feat b.fired_by_feat (p.fired ∙ sym q.fired) i;
        first_trip_tick = mark_first (has_trips x) v.t a.first_trip_tick b.first_trip_tick i;
        first_trip_reason = reason_first (has_trips x) v.reason a.first_trip_tick b.first_trip_tick a.first_trip_reason b.first_trip_reason i;
        first_stop_tick = mark_first (stops x) v.t a.first_stop_tick b.first_stop_tick i;
        handoff_tick = mark_first (hands_over x) v.t a.handoff_tick b.handoff_tick i;
        violations_reached_env = sums x H.violations_count i;
        max_s = max_most true a.max_s b.max_s v.scores.s i;
        max_z = max_live x.events.live_z v.scores.z a.max_z b.max_z (p.maxima ∙ sym q.maxima) i;
        terminal_state = last_later b.ticks a.terminal_state v.state i;
        stop_actions = sums x H.stop_actions_count i;
      }

  joined_tick : (x : Item) → join_of a (recorded b x) ≡ recorded (join_of a b) x
  joined_tick x = rw (as_ticked b x, as_ticked (join_of a b) x) (as_joined x)

pub joined_ticks : (a b : Tally) (h : List Item) → Sized a → Sized b → join_of a (tally_from b h) ≡ tally_from (join_of a b) h
joined_ticks a b [] p q = refl
joined_ticks a b (x ∷ h) p q = joined_ticks a (recorded b x) h p (stays_sized b x q) ∙ ap (λ t. tally_from t h) (joined_tick a b p q x)

-- ---- the empty tally on the right: what is asked of the other

pub record Ordinary (t : Tally) : Type 0 where
  pub sized : Sized t
  pub fits : (k : Count) → value_of k t < 2 ^ 32
  -- no reason without its mark
  pub reason : marked_by t.first_trip_tick t.first_trip_reason None ≡ t.first_trip_reason
  pub numbers : (m : Maximum) → Number (maximum_in m t)

sum_none : (n : ℕ) → n < 2 ^ 32 → sum_of n 0 ≡ n
unfolding sum_of
sum_none n h = omega arith

mark_none : (m : Option ℕ) → mark_of m None ≡ m
unfolding mark_of marked_by
mark_none None = refl
mark_none (Some k) = refl

-- a list joined with one that has a neutral value everywhere
module _ {X : Type 0} (f : X → X → X) (d e none : X) (n : ℕ) where
  each_with_none : (l : List X) → length l ≡ n → ((k : ℕ) → k < n → f (get_or l k e) none ≡ get_or l k e) → join_each f d l (replicate n none) ≡ l
  unfolding join_each join_at
  each_with_none l s h =
      each_alike (join_at f d (replicate n none)) (λ k x. x) l e
      (λ k b. let c : k < n = omega arith in ap (f (get_or l k e)) (get_or-replicate n k none d c) ∙ h k c)
      ∙ each_same (λ k x. x) 0 l (λ k x. refl)

join_none : (t : Tally) → Ordinary t → join_of t empty_tally ≡ t
unfolding join_of empty_tally sum_each max_each last_by
join_none t o =
    let n : (k : Count) → sum_of (value_of k t) 0 ≡ value_of k t = λ k. sum_none (value_of k t) (o.fits k) in
    λ i. record {
      ticks = n H.ticks_count i;
      nominal = n H.nominal_count i;
      watching = n H.watching_count i;
      clamped = n H.clamped_count i;
      braking = n H.braking_count i;
      held = n H.held_count i;
      escalated = n H.escalated_count i;
      fault = n H.fault_count i;
      terminated = n H.terminated_count i;
      substituted = n H.substituted_count i;
      chunks_seen = n H.chunks_seen_count i;
      chunks_rejected = n H.chunks_rejected_count i;
      clamps = n H.clamps_count i;
      holds = n H.holds_count i;
      rearms = n H.rearms_count i;
      escalations = n H.escalations_count i;
      trips_by_bit = each_with_none sum_of 0 0 0 trip_bits t.trips_by_bit o.sized.trips (λ k h. n (H.trips_count k)) i;
      fired_by_feat = each_with_none sum_of 0 0 0 features t.fired_by_feat o.sized.fired (λ k h. n (H.fired_count k)) i;
      first_trip_tick = mark_none t.first_trip_tick i;
      first_trip_reason = o.reason i;
      first_stop_tick = mark_none t.first_stop_tick i;
      handoff_tick = mark_none t.handoff_tick i;
      violations_reached_env = n H.violations_count i;
      max_s = max_to_lowest t.max_s (o.numbers of_s) i;
      max_z = each_with_none max_of nan (inf true) (inf true) features t.max_z o.sized.maxima (λ k h. max_to_lowest (maximum_in (of_z k) t) (o.numbers (of_z k))) i;
      terminal_state = t.terminal_state;
      stop_actions = n H.stop_actions_count i;
    }

-- ---- the tallies of histories are such

from_sized : (t : Tally) (h : List Item) → Sized t → Sized (tally_from t h)
from_sized t [] z = z
from_sized t (x ∷ h) z = from_sized (recorded t x) h (stays_sized t x z)

with_its_mark : (h : List Item) → marked_by (first_in has_trips h) (first_reason_of h) None ≡ first_reason_of h
unfolding marked_by
with_its_mark [] = refl
with_its_mark (x ∷ h) = by_trips (has_trips x) (with_its_mark h) where
  by_trips : (b : Bool) → marked_by (first_in has_trips h) (first_reason_of h) None ≡ first_reason_of h
      → marked_by (cond b (Some x.verdict.t) (first_in has_trips h)) (cond b (Some x.verdict.reason) (first_reason_of h)) None
      ≡ cond b (Some x.verdict.reason) (first_reason_of h)
  by_trips true e = refl
  by_trips false e = e

pub ordinary : (h : List Item) → Ordinary (tally_of h)
ordinary h =
    let o = history h in
    record {
      sized = from_sized empty_tally h empty_sized;
      fits = λ k. omega (arith, count_all h k);
      reason = rw (o.first_trip, o.first_trip_reason) (with_its_mark h);
      numbers = λ m. (o.largest m).number;
    }

-- ---- the claim

pub join_cut : (g h : List Item) → tally_of (g ++ h) ≡ join_of (tally_of g) (tally_of h)
join_cut g h =
    let o = ordinary g in
    tally_append empty_tally g h
    ∙ ap (λ t. tally_from t h) (sym (join_none (tally_of g) o))
    ∙ sym (joined_ticks (tally_of g) empty_tally h o.sized empty_sized)

join_assoc : (f g h : List Item) → join_of (join_of (tally_of f) (tally_of g)) (tally_of h) ≡ join_of (tally_of f) (join_of (tally_of g) (tally_of h))
join_assoc f g h =
    ap (λ t. join_of t (tally_of h)) (sym (join_cut f g))
    ∙ sym (join_cut (f ++ g) h)
    ∙ ap tally_of (append_assoc f g h)
    ∙ join_cut f (g ++ h)
    ∙ ap (join_of (tally_of f)) (join_cut g h)

pub join_told : JoinTold
unfolding sum_of
join_told = record {
  cut = join_cut;
  again = λ a b p q. record { history = p.history ++ q.history; is = rw (p.is, q.is) (sym (join_cut p.history q.history)) };
  assoc = λ a b c p q r. rw (p.is, q.is, r.is) (join_assoc p.history q.history r.history);
  left = λ t p. rw p.is (sym (join_cut [] p.history));
  right = λ t p. rw p.is (join_none (tally_of p.history) (ordinary p.history));
  full_earlier = λ n. omega arith;
  full_later = λ n. omega arith;
}
