-- The rules of the tally's fields, one law a kind.
use Rattle.std.proofs.Common.{Some, Option}
use mathlib.Core.Path.{◌≡◌, refl, sym, ◌∙◌, ap}
use mathlib.Core.Bool.{Bool, true, false, cond, not, ◌&&◌}
use mathlib.Core.List.{List}
use Prim.Native.Nat.{ℕ, zero, suc, ◌+◌, ◌-◌, ◌/◌, ◌%◌, ◌^◌, ◌<◌}
use native.Mathlib.Nat.{zero-div, mod-lt}
use native.Mathlib.Omega.{arith}
use lib.Bits.{bit_and, and_zero_l, and_shr, and_mod}
use lib.Dec.{eqb, ltb}
use lib.ListN.{length, get_or}
use lib.Ieee.{Float, nan}
use Rattle.fmath.specs.Float.{max_of}
use Rattle.lictor_core.proofs.Counts.{sat_fits, sat_counts, sat_stops}
use Rattle.lictor_core.specs.declared.reason.ReasonCode.{ReasonCode}
use Rattle.lictor_tally.specs.Counts.{count, bit_of, count_bit, count_bits, first, first_reason, most_at, most_live}
use Rattle.lictor_tally.proofs.Places.{each_within, each_same}

-- ---- counts

-- a count never passes its ceiling
pub count_fits : (moves : Bool) (n : ℕ) → n < 2 ^ 32 → count moves n < 2 ^ 32
unfolding count
count_fits true n h = sat_fits 32 n
count_fits false n h = h

-- below it, it goes up by one; at it, it stays
pub count_up : (n : ℕ) → n + 1 < 2 ^ 32 → count true n ≡ n + 1
unfolding count
count_up n h = sat_counts 32 n h

pub count_stops : count true (2 ^ 32 - 1) ≡ 2 ^ 32 - 1
unfolding count
count_stops = sat_stops 32 (2 ^ 32 - 1) (omega arith)

-- of a list of n counts, that of bit b: none past the list's end
pub bits_at : (mask : ℕ) (l : List ℕ) (n b : ℕ) → length l ≡ n → get_or (count_bits mask l) b 0 ≡ count (ltb b n && bit_of mask b) (get_or l b 0)
unfolding count_bits count_bit count
bits_at mask l n b e = each_within (count_bit mask) l n b 0 e ∙ by_place (ltb b n) where
  by_place : (q : Bool) → cond q (count_bit mask b (get_or l b 0)) (get_or l b 0) ≡ count (q && bit_of mask b) (get_or l b 0)
  by_place true = refl
  by_place false = refl

-- a bit of two masks at once is a bit of each
both_bits : (x y : ℕ) → x < 2 → y < 2 → not (eqb (bit_and x y) 0) ≡ (not (eqb x 0) && not (eqb y 0))
both_bits zero y p q = ap (λ (n : ℕ). not (eqb n 0)) (and_zero_l y)
both_bits (suc zero) zero p q = refl
both_bits (suc zero) (suc zero) p q = refl
both_bits (suc zero) (suc (suc y)) p q = absurd (omega arith)
both_bits (suc (suc x)) y p q = absurd (omega arith)

pub bit_of_and : (a b j : ℕ) → bit_of (bit_and a b) j ≡ (bit_of a j && bit_of b j)
unfolding bit_of
bit_of_and a b j =
    ap (λ (n : ℕ). not (eqb (n % 2) 0)) (and_shr a b j) ∙ ap (λ (n : ℕ). not (eqb n 0)) (and_mod (a / 2 ^ j) (b / 2 ^ j) 1)
    ∙ both_bits (a / 2 ^ j % 2) (b / 2 ^ j % 2) (mod-lt (a / 2 ^ j) (omega arith)) (mod-lt (b / 2 ^ j) (omega arith))

-- an empty mask has no bit, so that nothing moves
pub no_bit : (mask b : ℕ) → mask ≡ 0 → bit_of mask b ≡ false
unfolding bit_of
no_bit mask b e = rw (e, zero-div (2 ^ b))

pub bits_none : (mask : ℕ) (l : List ℕ) → mask ≡ 0 → l ≡ count_bits mask l
unfolding count_bits count_bit count
bits_none mask l e = sym (each_same (count_bit mask) 0 l (λ b n. rw (no_bit mask b e)))

-- ---- marks

-- a mark that is set stays, and so does the reason beside it
pub first_stays : (happens : Bool) (t k : ℕ) → first happens t (Some k) ≡ Some k
unfolding first
first_stays true t k = refl
first_stays false t k = refl

pub reason_stays : (happens : Bool) (k : ℕ) (w : ReasonCode) (old : Option ReasonCode) → first_reason happens (Some k) w old ≡ old
unfolding first_reason
reason_stays true k w old = refl
reason_stays false k w old = refl

-- ---- maxima

-- of a list of n maxima, that of channel j: none past the list's end
pub most_at_lem : (live : ℕ) (z l : List Float) (n j : ℕ) (d : Float) → length l ≡ n
    → get_or (most_live live z l) j d ≡ cond (ltb j n && bit_of live j) (max_of (get_or l j d) (get_or z j nan)) (get_or l j d)
unfolding most_live most_at
most_at_lem live z l n j d e = each_within (most_at live z) l n j d e ∙ by_place (ltb j n) where
  by_place : (q : Bool) → cond q (most_at live z j (get_or l j d)) (get_or l j d) ≡ cond (q && bit_of live j) (max_of (get_or l j d) (get_or z j nan)) (get_or l j d)
  by_place true = refl
  by_place false = refl

-- with no channel live they stay
pub most_none : (live : ℕ) (z l : List Float) → live ≡ 0 → l ≡ most_live live z l
unfolding most_live most_at
most_none live z l e = sym (each_same (most_at live z) 0 l (λ j x. rw (no_bit live j e)))
