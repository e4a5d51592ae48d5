-- The steps of `sqrt` as facts of numbers: moving up, the product from its halves, and the two
-- tests. Assumes nothing.
use mathlib.Core.Path.{◌≡◌, sym, ap, ◌∙◌, subst}
use Prim.Native.Nat.{ℕ, zero, suc, ◌+◌, ◌-◌, ◌*◌, ◌/◌, ◌%◌, ◌^◌, ◌≤◌, ◌<◌}
use native.Mathlib.Nat.{lt_of_not-le, lt_irrefl, lt_of_lt_of_le, le_trans, mul-le-mul_left, mul-le-mul_right, mod-eq_of_lt}
use native.Mathlib.Omega.{arith}
use mathlib.Core.Bool.{true}
use borrow.Author.Tests.{leb-true, ltb-true}
use lib.Dec.{leb, ltb}
use lib.Count.{count_leading_zeros}
use lib.Pow.{pow-add, pow_mono, shl_lt}
use Rattle.std.proofs.lemmas.Nat.{leading_top}
use Rattle.root.specs.Steps.{Normed}
use Rattle.root.proofs.Squares.{root_lt}

-- ---- t moved up, by all but 11 of the zeros before its top bit
placed : (t j k : ℕ) → j + k ≡ 52 → 2 ^ j ≤ t → t < 2 ^ suc j → Normed t (t * 2 ^ k % 2 ^ 64) k
placed t j k e l u = record { is = mod-eq_of_lt (omega (arith, high)); low = omega (arith, low, high); high = omega (arith, high); few = omega arith }
  where
    low : 2 ^ 52 ≤ t * 2 ^ k
    low = subst (λ (n : ℕ). n ≤ t * 2 ^ k) (sym (pow-add 2 j k) ∙ ap (λ (n : ℕ). 2 ^ n) e) (mul-le-mul_right (2 ^ k) l)

    high : t * 2 ^ k < 2 ^ 53
    high = let n : suc j + k ≡ 53 = omega arith in subst (λ (n : ℕ). t * 2 ^ k < 2 ^ n) n (shl_lt (suc j) k u)

pub moved_up : (t : ℕ) → 0 < t → t < 2 ^ 52 → (11 ≤ count_leading_zeros 64 t) × Normed t (t * 2 ^ (count_leading_zeros 64 t - 11) % 2 ^ 64) (count_leading_zeros 64 t - 11)
moved_up t p h =
    let d = leading_top 64 t p (omega arith) in
    let few : d.0 < 52 = lt_of_not-le (λ (g : 52 ≤ d.0). lt_irrefl t (lt_of_lt_of_le h (le_trans (pow_mono g) d.2))) in
    (omega (arith, d.1, few), placed t d.0 (count_leading_zeros 64 t - 11) (omega (arith, d.1, few)) d.2 d.3)

-- ---- x * y / 2 ^ 52 from the halves: x is xh * 2 ^ 26 + xl, and so is y
halves : (xh xl yh yl : ℕ) → (xh * 2 ^ 26 + xl) * (yh * 2 ^ 26 + yl) / 2 ^ 52 ≡ xh * yh + (xh * yl + xl * yh + xl * yl / 2 ^ 26) / 2 ^ 26
halves xh xl yh yl = omega arith

pub high_is : (x y : ℕ) → x / 2 ^ 26 * (y / 2 ^ 26) + (x / 2 ^ 26 * (y % 2 ^ 26) + x % 2 ^ 26 * (y / 2 ^ 26) + x % 2 ^ 26 * (y % 2 ^ 26) / 2 ^ 26) / 2 ^ 26 ≡ x * y / 2 ^ 52
high_is x y = sym (ap (λ (z : ℕ). z * y / 2 ^ 52) (whole x) ∙ ap (λ (z : ℕ). (x / 2 ^ 26 * 2 ^ 26 + x % 2 ^ 26) * z / 2 ^ 52) (whole y) ∙ halves (x / 2 ^ 26) (x % 2 ^ 26) (y / 2 ^ 26) (y % 2 ^ 26))
  where
    whole : (x : ℕ) → x ≡ x / 2 ^ 26 * 2 ^ 26 + x % 2 ^ 26
    whole x = omega arith

-- m or twice m
pub doubled_lt : (m o : ℕ) → m < 2 ^ 53 → o ≤ 1 → m * (1 + o) < 2 ^ 54
doubled_lt m o h k = let t : 1 + o ≤ 2 = omega arith in omega (arith, mul-le-mul_left m t)

-- ---- the tests
-- what is too large is above 1, and what is too small below 2 ^ 53
pub large_more : (g a : ℕ) → 0 < a → leb (a * 2 ^ 52 + g) (g * g) ≡ true → 1 < g
large_more zero a h e = absurd (no (leb-true (a * 2 ^ 52 + 0) 0 e))
  where
    no : a * 2 ^ 52 + 0 ≤ 0 → ⊥
    no k = omega arith
large_more (suc zero) a h e = absurd (no (leb-true (a * 2 ^ 52 + 1) 1 e))
  where
    no : a * 2 ^ 52 + 1 ≤ 1 → ⊥
    no k = omega arith
large_more (suc (suc g)) a h e = omega arith

pub small_less : (g a : ℕ) → a < 2 ^ 54 → ltb (g * g + g) (a * 2 ^ 52) ≡ true → g < 2 ^ 53
small_less g a h e = root_lt {x = g} {y = 2 ^ 53} (omega (arith, ltb-true (g * g + g) (a * 2 ^ 52) e))

-- one more than what is too small is not too large
pub small_next : (g a : ℕ) → ltb (g * g + g) (a * 2 ^ 52) ≡ true → (g + 1) * (g + 1) < a * 2 ^ 52 + (g + 1)
small_next g a e = omega (arith, ltb-true (g * g + g) (a * 2 ^ 52) e)
