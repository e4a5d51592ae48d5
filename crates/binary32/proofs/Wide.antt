-- The pattern of binary64 that has the value of a pattern of binary32, by the fields of both. Assumes nothing.
--     value_bits       a value that is q * 2 ^ k smallest values of binary64, with q of 53 digits, has the pattern k * 2 ^ 52 + q
--     wide_at          so each pattern of binary32 that is no NaN's is in one of the four cases of `Wide`
--     too_large, in_normal, in_few, too_small          in each of its ways out `guess` finds the m of `Wide`
use mathlib.Core.Path.{◌≡◌, refl, sym, ap, ◌∙◌, subst}
use mathlib.Core.Bool.{Bool, true, false, not, cond}
use Prim.Native.Nat.{ℕ, zero, suc, ◌+◌, ◌-◌, ◌*◌, ◌/◌, ◌%◌, ◌^◌, ◌≤◌, ◌<◌}
use native.Mathlib.Nat.{lt_of_lt_of_le, lt_of_not-le, not-le_of_lt, mul_assoc, mul_right_comm, mul-div_cancel, mul-le-mul_right, add_assoc, zero-add}
use native.Mathlib.Omega.{arith}
use lib.Dec.{T, T_not, leb, eqb, eqb→eq}
use lib.Pow.{pow-add, pow_pos, pow_mono, shl_lt, shr_lt}
use lib.Ieee.{Float, nan, inf, fin, binary32, binary64, up, down, size, odd, of_fields, of_bits, to_bits}
use lib.Ieee.Digits.{size-lt, size-le, size_reaches}
use lib.Ieee.Exact.{HasValue, odd_sign}
use lib.Ieee.Fits.{down_pos, eq→eqb}
use Rattle.binary32.specs.Guess.{Wide, nought, few, normal, infinite}

-- ---- from a value to its pattern in binary64
size_gt : (n j : ℕ) → 2 ^ j ≤ n → j < size n
size_gt n j h = lt_of_not-le (λ (g : size n ≤ j). not-le_of_lt (lt_of_lt_of_le (size-lt n) (pow_mono g)) h)

dropped : (q k : ℕ) → 2 ^ 52 ≤ q → q < 2 ^ 53 → size (q * 2 ^ k) - 53 ≡ k
dropped q k l u = omega (arith, most, least)
  where
    most : size (q * 2 ^ k) ≤ 53 + k
    most = size-le (q * 2 ^ k) (53 + k) (shl_lt 53 k u)

    least : 52 + k < size (q * 2 ^ k)
    least = size_gt (q * 2 ^ k) (52 + k) (subst (λ (y : ℕ). y ≤ q * 2 ^ k) (sym (pow-add 2 52 k)) (mul-le-mul_right (2 ^ k) l))

pub value_bits : (x : Float) (s : Bool) (q k : ℕ) → HasValue x s (q * 2 ^ k) (2 ^ 1074) → 2 ^ 52 ≤ q → q < 2 ^ 53 → to_bits binary64 x ≡ cond s (2 ^ 63) 0 + (k * 2 ^ 52 + q)
unfolding to_bits
value_bits nan s q k v l u = absurd v
value_bits (inf t) s q k v l u = absurd v
value_bits (fin t m e) s q k v l u =
    ap (λ (n : ℕ). cond t (2 ^ 63) 0 + (size n - 53) * 2 ^ 52 + n / 2 ^ (size n - 53)) units
    ∙ ap (λ (d : ℕ). cond t (2 ^ 63) 0 + d * 2 ^ 52 + q * 2 ^ k / 2 ^ d) (dropped q k l u)
    ∙ ap (λ (y : ℕ). cond t (2 ^ 63) 0 + k * 2 ^ 52 + y) (mul-div_cancel q (pow_pos k))
    ∙ add_assoc (cond t (2 ^ 63) 0) (k * 2 ^ 52) q
    ∙ ap (λ (b : Bool). cond b (2 ^ 63) 0 + (k * 2 ^ 52 + q)) v.0
  where
    units : m * up e * 2 ^ 1074 / down e ≡ q * 2 ^ k
    units = ap (λ (y : ℕ). y / down e) v.1 ∙ mul-div_cancel (q * 2 ^ k) (down_pos e)

-- ---- smallest values of binary32, in those of binary64
scaled : (x : Float) (s : Bool) (a : ℕ) → HasValue x s a (2 ^ 149) → HasValue x s (a * 2 ^ 925) (2 ^ 1074)
scaled nan s a v = v
scaled (inf t) s a v = v
scaled (fin t m e) s a v = (v.0, sym (mul_assoc (m * up e) (2 ^ 149) (2 ^ 925)) ∙ ap (λ (y : ℕ). y * 2 ^ 925) v.1 ∙ mul_right_comm a (down e) (2 ^ 925))

shift : (a i j k l : ℕ) → i + j ≡ k + l → a * 2 ^ i * 2 ^ j ≡ a * 2 ^ k * 2 ^ l
shift a i j k l h =
    mul_assoc a (2 ^ i) (2 ^ j)
    ∙ ap (λ (y : ℕ). a * y) (sym (pow-add 2 i j) ∙ ap (λ (y : ℕ). 2 ^ y) h ∙ pow-add 2 k l)
    ∙ sym (mul_assoc a (2 ^ k) (2 ^ l))

-- a * 2 ^ i smallest values of binary32, as q * 2 ^ l of binary64's, with q = a * 2 ^ k
written : (s : Bool) (a i k l : ℕ) → i + 925 ≡ k + l → 2 ^ 52 ≤ a * 2 ^ k → a * 2 ^ k < 2 ^ 53 → to_bits binary64 (odd 24 s a i 149) ≡ cond s (2 ^ 63) 0 + (l * 2 ^ 52 + a * 2 ^ k)
written s a i k l h lo hi =
    value_bits (odd 24 s a i 149) s (a * 2 ^ k) l
    (subst (λ (n : ℕ). HasValue (odd 24 s a i 149) s n (2 ^ 1074)) (shift a i 925 k l h) (scaled (odd 24 s a i 149) s (a * 2 ^ i) (odd_sign 24 s a i 149)))
    lo
    hi

-- ---- the four cases
abbrev Widened : Bool → ℕ → Float → Type 0
Widened s m x = (b : ℕ) × Wide m b × (to_bits binary64 x ≡ cond s (2 ^ 63) 0 + b)

at_nought : (s : Bool) → to_bits binary64 (odd 24 s 0 0 149) ≡ cond s (2 ^ 63) 0 + 0
unfolding to_bits odd
at_nought true = refl
at_nought false = refl

at_few : (s : Bool) (t : ℕ) → 0 < t → t < 2 ^ 23 → Widened s t (odd 24 s t 0 149)
at_few s t p u = ((872 + z) * 2 ^ 52 + t * 2 ^ (53 - z), few z (t * 2 ^ (53 - z)) some most refl lo hi refl, written s t 0 (53 - z) (872 + z) (omega (arith, most)) lo hi)
  where
    z : ℕ
    z = size t

    some : 0 < z
    some = size_gt t 0 p

    most : z ≤ 23
    most = size-le t 23 u

    all : z + (53 - z) ≡ 53
    all = omega (arith, most)

    rest : z - 1 + (53 - z) ≡ 52
    rest = omega (arith, some, most)

    hi : t * 2 ^ (53 - z) < 2 ^ 53
    hi = subst (λ (y : ℕ). t * 2 ^ (53 - z) < 2 ^ y) all (shl_lt z (53 - z) (size-lt t))

    lo : 2 ^ 52 ≤ t * 2 ^ (53 - z)
    lo = subst (λ (y : ℕ). y ≤ t * 2 ^ (53 - z)) (sym (pow-add 2 (z - 1) (53 - z)) ∙ ap (λ (y : ℕ). 2 ^ y) rest) (mul-le-mul_right (2 ^ (53 - z)) (size_reaches t (z - 1) (omega (arith, some))))

at_normal : (s : Bool) (x t : ℕ) → x < 254 → t < 2 ^ 23 → Widened s (suc x * 2 ^ 23 + t) (odd 24 s (2 ^ 23 + t) x 149)
at_normal s x t X u = (
  (suc x * 2 ^ 23 + t + 896 * 2 ^ 23) * 2 ^ 29,
  normal (omega arith) (omega arith) refl,
  written s (2 ^ 23 + t) x 29 (x + 896) (omega arith) (omega arith) (omega arith) ∙ ap (λ (y : ℕ). cond s (2 ^ 63) 0 + y) (omega arith),
)

at_infinite : (s : Bool) → to_bits binary64 (inf s) ≡ cond s (2 ^ 63) 0 + 0x7ff0_0000_0000_0000
unfolding to_bits
at_infinite s = refl

by_fields : (s : Bool) (x t : ℕ) → x < 256 → t < 2 ^ 23 → (x ≡ 255 → t ≡ 0) → Widened s (x * 2 ^ 23 + t) (of_fields binary32 s x t)
unfolding of_fields
by_fields s zero zero X H N = (0, nought refl refl, at_nought s)
by_fields s zero (suc t) X H N = subst (λ (m : ℕ). Widened s m (odd 24 s (suc t) 0 149)) (sym (zero-add (suc t))) (at_few s (suc t) (omega arith) H)
by_fields s (suc x) t X H N = go (eqb (suc x) 255) (eqb→eq (suc x) 255) (λ n e. T_not (eqb (suc x) 255) n (eq→eqb e))
  where
    go : (b : Bool) → (T b → suc x ≡ 255) → (T (not b) → suc x ≡ 255 → ⊥) → Widened s (suc x * 2 ^ 23 + t) (cond b (cond (eqb t 0) (inf s) nan) (odd 24 s (2 ^ 23 + t) x 149))
    go true y n = subst (λ (d : ℕ). Widened s (suc x * 2 ^ 23 + d) (cond (eqb d 0) (inf s) nan)) (sym (N (y tt))) (0x7ff0_0000_0000_0000, infinite (omega (arith, y tt)) refl, at_infinite s)
    go false y n = at_normal s x t (omega (arith, n tt)) H

pub wide_at : (n : ℕ) → n % 2 ^ 31 ≤ 0x7f80_0000 → Widened (leb (2 ^ 31) n) (n % 2 ^ 31) (of_bits binary32 n)
unfolding of_bits
wide_at n h =
    subst (λ (m : ℕ). Widened (leb (2 ^ 31) n) m (of_fields binary32 (leb (2 ^ 31) n) (n % 2 ^ 31 / 2 ^ 23) (n % 2 ^ 23))) whole
    (by_fields (leb (2 ^ 31) n) (n % 2 ^ 31 / 2 ^ 23) (n % 2 ^ 23) (omega arith) (omega arith) (λ e. omega arith))
  where
    whole : n % 2 ^ 31 / 2 ^ 23 * 2 ^ 23 + n % 2 ^ 23 ≡ n % 2 ^ 31
    whole = omega arith

-- ---- the guess finds the m of each case
pub too_large : (b : ℕ) → 1151 ≤ b / 2 ^ 52 → (m : ℕ) → Wide m b → 0x7f80_0000 ≡ m
too_large b h m (nought p q) = omega arith
too_large b h m (few z g a c e l u q) = omega arith
too_large b h m (normal l u q) = omega arith
too_large b h m (infinite p q) = omega arith

pub in_normal : (b : ℕ) → 897 ≤ b / 2 ^ 52 → b / 2 ^ 52 < 1151 → (m : ℕ) → Wide m b → b / 2 ^ 29 - 896 * 2 ^ 23 ≡ m
in_normal b h k m (nought p q) = omega arith
in_normal b h k m (few z g a c e l u q) = omega arith
in_normal b h k m (normal l u q) = omega arith
in_normal b h k m (infinite p q) = omega arith

pub few_le : (b : ℕ) → b / 2 ^ 52 < 897 → (2 ^ 52 + b % 2 ^ 52) / 2 ^ (926 - b / 2 ^ 52) < 2 ^ 23
few_le b h = shr_lt 23 (926 - b / 2 ^ 52) (lt_of_lt_of_le digits (pow_mono places))
  where
    digits : 2 ^ 52 + b % 2 ^ 52 < 2 ^ 53
    digits = omega arith

    places : 53 ≤ 23 + (926 - b / 2 ^ 52)
    places = omega arith

pub in_few : (b : ℕ) → 874 ≤ b / 2 ^ 52 → b / 2 ^ 52 < 897 → (m : ℕ) → Wide m b → (2 ^ 52 + b % 2 ^ 52) / 2 ^ (926 - b / 2 ^ 52) ≡ m
in_few b h k m (nought p q) = absurd (omega arith)
in_few b h k m (few z g a c e l u q) =
    ap (λ (y : ℕ). y / 2 ^ (926 - b / 2 ^ 52)) (digits ∙ e) ∙ ap (λ (y : ℕ). m * 2 ^ (53 - z) / 2 ^ y) places ∙ mul-div_cancel m (pow_pos (53 - z))
  where
    digits : 2 ^ 52 + b % 2 ^ 52 ≡ g
    digits = omega arith

    places : 926 - b / 2 ^ 52 ≡ 53 - z
    places = omega arith
in_few b h k m (normal l u q) = absurd (omega arith)
in_few b h k m (infinite p q) = absurd (omega arith)

pub too_small : (b : ℕ) → b / 2 ^ 52 < 874 → (m : ℕ) → Wide m b → 0 ≡ m
too_small b h m (nought p q) = omega arith
too_small b h m (few z g a c e l u q) = omega arith
too_small b h m (normal l u q) = omega arith
too_small b h m (infinite p q) = omega arith

pub wide_lt : (m b : ℕ) → Wide m b → b < 2 ^ 63
wide_lt m b (nought p q) = omega arith
wide_lt m b (few z g a c e l u q) = omega arith
wide_lt m b (normal l u q) = omega arith
wide_lt m b (infinite p q) = omega arith
