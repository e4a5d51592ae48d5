-- What `round` makes of the root of n * (2 ^ k * 2 ^ k) units: g * 2 ^ k units, where g is the
-- whole number nearest to the root of n. Assumes nothing.
use mathlib.Core.Path.{◌≡◌, refl, sym, ap, ◌∙◌, subst}
use Prim.Native.Nat.{ℕ, zero, suc, ◌+◌, ◌-◌, ◌*◌, ◌/◌, ◌%◌, ◌^◌, ◌≤◌, ◌<◌}
use native.Mathlib.Nat.{lt_of_not-le, not-le_of_lt, le_trans, le_of_eq, lt_of_lt_of_le, mul_assoc, mul-div_cancel, mul-pos, pow-suc, div-lt_iff_lt-mul}
use native.Mathlib.Omega.{arith}
use mathlib.Core.Bool.{Bool, true, false, cond}
use lib.Dec.{T, ltb, lt→ltb}
use lib.Pow.{pow-add, pow_pos, pow_mono, shl_lt}
use lib.Count.{count_trailing_zeros, under}
use lib.Ieee.{inf, fin, binary64, size, odd, units, round, minus}
use lib.Ieee.Digits.{size-lt, size-le}
use lib.Ieee.Fits.{core, round_is}
use lib.Ieee.Nearest.{closest, closest_same}
use Rattle.root.specs.Root.{whole_root}
use Rattle.root.specs.Steps.{NearRoot}
use Rattle.root.proofs.Squares.{Scaled, is_root, s_ge, s_lt, rounds}
use Rattle.root.proofs.Squares.{g_ge as Scaled·g-ge, g_lt as Scaled·g-lt}

-- ---- how many places `odd` is told of does not matter where they are enough
none : (q : ℕ) → 0 < q → q < 1 → ⊥
none q h k = omega arith

half_pos : (q : ℕ) → 0 < q → q % 2 ≡ 0 → 0 < q / 2
half_pos q h e = omega arith

tz_more : (d q : ℕ) → 0 < q → q < 2 ^ d → count_trailing_zeros (suc d) q ≡ count_trailing_zeros d q
unfolding count_trailing_zeros
tz_more zero q h k = absurd (none q h k)
tz_more (suc d) q h k = go (q % 2) refl (λ (e : q % 2 ≡ 0). tz_more d (q / 2) (half_pos q h e) ((div-lt_iff_lt-mul {k = 2} (omega arith)).1 (subst (λ (x : ℕ). q < x) (pow-suc 2 d) k)))
  where
    go : (r : ℕ) → q % 2 ≡ r → (q % 2 ≡ 0 → count_trailing_zeros (suc d) (q / 2) ≡ count_trailing_zeros d (q / 2)) → under r (count_trailing_zeros (suc d) (q / 2)) ≡ under r (count_trailing_zeros d (q / 2))
    go zero e ih = ap suc (ih e)
    go (suc r) e ih = refl

odd_more : (d : ℕ) (s : Bool) (q k l : ℕ) → q < 2 ^ d → odd (suc d) s q k l ≡ odd d s q k l
unfolding odd
odd_more d s zero k l h = refl
odd_more d s (suc q) k l h = ap (λ (t : ℕ). fin s (suc q / 2 ^ t) (minus (k + t) l)) (tz_more d (suc q) (omega arith) h)

units_odd : (g k : ℕ) → g < 2 ^ 53 → k ≤ 2045 → units binary64 false g k ≡ odd 53 false g k 1074
unfolding units
units_odd g k h l = go (ltb (g * 2 ^ k) (2 ^ 2098)) (lt→ltb (g * 2 ^ k) (2 ^ 2098) (lt_of_lt_of_le (shl_lt 53 k h) (pow_mono {i = 53 + k} {j = 2098} (omega arith)))) ∙ odd_more 53 false g k 1074 h
  where
    go : (b : Bool) → T b → cond b (odd 54 false g k 1074) (inf false) ≡ odd 54 false g k 1074
    go true t = refl
    go false t = absurd t

size_is : (n j i : ℕ) → i ≡ suc j → 2 ^ j ≤ n → n < 2 ^ i → size n ≡ i
size_is n j i e h k =
    let l : j < size n = lt_of_not-le (λ (g : size n ≤ j). not-le_of_lt (lt_of_lt_of_le (size-lt n) (pow_mono g)) h) in
    let u : size n ≤ i = size-le n i k in
    omega arith

-- ---- n of 105 or 106 binary digits, and g nearest to its root
module _ (n g k : ℕ) (above : 2 ^ 104 ≤ n) (below : n + 2 ^ 53 ≤ 2 ^ 106) (lo : 56 ≤ k) (hi : k ≤ 2045) (near : NearRoot n g) where
  s : ℕ
  s = whole_root (n * (2 ^ k * 2 ^ k))

  scaled : Scaled n g (2 ^ k) s
  unfolding s
  scaled = record { above = above; below = below; large = pow_mono {i = 56} {j = k} lo; near = near; root = is_root (n * (2 ^ k * 2 ^ k)) }

  pub g_ge : 2 ^ 52 ≤ g
  g_ge = Scaled·g-ge n g (2 ^ k) s scaled

  pub g_lt : g < 2 ^ 53
  g_lt = Scaled·g-lt n g (2 ^ k) s scaled

  s_size : size s ≡ 53 + k
  s_size = size_is s (52 + k) (53 + k) (omega arith) (le_trans (le_of_eq (pow-add 2 52 k)) (s_ge n g (2 ^ k) s scaled)) (lt_of_lt_of_le (s_lt n g (2 ^ k) s scaled) (le_of_eq (sym (pow-add 2 53 k))))

  dropped : size (s * 2 ^ 1074 / 2 ^ 1074) - 53 ≡ k
  dropped = ap (λ (x : ℕ). size x - 53) (mul-div_cancel s (pow_pos 1074)) ∙ ap (λ (x : ℕ). x - 53) s_size ∙ omega arith

  kept : closest (s * 2 ^ 1074) (2 ^ 1074 * 2 ^ k) ≡ g
  kept =
      closest_same (s * 2 ^ 1074) (2 ^ 1074 * 2 ^ k) s (2 ^ k) (mul-pos (pow_pos 1074) (pow_pos k)) (pow_pos k) (mul_assoc s (2 ^ 1074) (2 ^ k))
      ∙ rounds n g (2 ^ k) s scaled

  pub rounded : round binary64 false (whole_root (n * (2 ^ k * 2 ^ k))) (2 ^ 1074) ≡ odd 53 false g k 1074
  unfolding s
  rounded =
      round_is binary64 false s (2 ^ 1074)
      ∙ ap (λ (j : ℕ). core binary64 false (s * 2 ^ 1074) (2 ^ 1074) j) dropped
      ∙ ap (λ (x : ℕ). units binary64 false x k) kept
      ∙ units_odd g k g_lt hi
