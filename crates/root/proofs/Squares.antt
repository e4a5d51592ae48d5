-- Roots of whole numbers: `whole_root` is the root cut to a whole number, and how the root of n * (P
-- * P) lies against the whole number nearest to the root of n.
-- Assumes nothing.
use mathlib.Core.Path.{◌≡◌, subst}
use mathlib.Core.Logic.{inl, inr}
use Prim.Native.Nat.{ℕ, zero, suc, ◌+◌, ◌*◌, ◌/◌, ◌%◌, ◌^◌, ◌≤◌, ◌<◌, compare, Ordering}
use native.Mathlib.Nat.{lt_of_not-le, not-le_of_lt, le_trans, lt_of_lt_of_le, lt_of_le_of_lt, le_of_suc-le-suc, mul-le-mul, mul-le-mul_right, lt_of_mul-lt-mul_right, mul-pos, pow-suc, pow-le-pow_left, div-add-mod', div-lt_iff_lt-mul, mod-lt, eq-zero-or-pos}
use native.Mathlib.Omega.{arith}
use mathlib.Core.Bool.{Bool, true, false, not, cond}
use lib.Dec.{T, leb, is_le, compare_is_eq, eqb, leb→le, nleb→lt, eqb→eq, eqb_refl}
use lib.Arith.{lt_of_le-ne}
use lib.Ieee.{size, nearest}
use lib.Ieee.Digits.{size-lt}
use lib.Ieee.Nearest.{closest}
use Rattle.root.specs.Root.{root_in, whole_root}
use Rattle.root.specs.Steps.{NearRoot}

-- ---- squares keep the order
pub root_lt : {x y : ℕ} → x * x < y * y → x < y
root_lt {x} {y} h = lt_of_not-le (λ (g : y ≤ x). not-le_of_lt h (mul-le-mul g g))

pub square_lt : {x y : ℕ} → x < y → x * x < y * y
square_lt h = omega (arith, mul-le-mul h h)

-- ---- `whole_root` is the root, cut
-- q is the root of n cut to a whole number
pub record IsRoot (n q : ℕ) : Type 0 where
  pub low : q * q ≤ n
  pub high : n < suc q * suc q

quarter : (n s : ℕ) → n / 4 < suc s * suc s → n < suc (suc (2 * s)) * suc (suc (2 * s))
quarter n s h = omega arith

fourfold : (n s : ℕ) → s * s ≤ n / 4 → 2 * s * (2 * s) ≤ n
fourfold n s h = omega arith

step : (n s : ℕ) → IsRoot (n / 4) s → IsRoot n (cond (leb (suc (2 * s) * suc (2 * s)) n) (suc (2 * s)) (2 * s))
step n s w = go (leb (suc (2 * s) * suc (2 * s)) n) (leb→le (suc (2 * s) * suc (2 * s)) n) (nleb→lt (suc (2 * s) * suc (2 * s)) n)
  where
    go : (b : Bool) → (T b → suc (2 * s) * suc (2 * s) ≤ n) → (T (not b) → n < suc (2 * s) * suc (2 * s)) → IsRoot n (cond b (suc (2 * s)) (2 * s))
    go true h k = record { low = h tt; high = quarter n s w.high }
    go false h k = record { low = fourfold n s w.low; high = k tt }

in_root : (d n : ℕ) → n < 4 ^ d → IsRoot n (root_in d n)
unfolding root_in
in_root zero n h = record { low = omega arith; high = omega arith }
in_root (suc d) n h = step n (root_in d (n / 4)) (in_root d (n / 4) ((div-lt_iff_lt-mul {k = 4} (omega arith)).1 (subst (λ (x : ℕ). n < x) (pow-suc 4 d) h)))

pub is_root : (n : ℕ) → IsRoot n (whole_root n)
unfolding whole_root
is_root n = in_root (size n) n (lt_of_lt_of_le (size-lt n) (pow-le-pow_left {n = 2} {m = 4} (omega arith) (size n)))

-- ---- each number has a nearest root: half the root of 4 * n, rounded up
near_even : (n g : ℕ) → 0 < n → IsRoot (4 * n) (2 * g) → NearRoot n g
near_even n zero p w = absurd (omega (arith, w.high))
near_even n (suc j) p w = record { low = omega (arith, w.low); high = omega (arith, w.high) }

near_odd : (n g : ℕ) → IsRoot (4 * n) (2 * g + 1) → NearRoot n (g + 1)
near_odd n g w = record { low = omega (arith, w.low); high = omega (arith, w.high) }

pub some_near : (n : ℕ) → 0 < n → (g : ℕ) × NearRoot n g
some_near n p = go (whole_root (4 * n)) (is_root (4 * n))
  where
    go : (q : ℕ) → IsRoot (4 * n) q → (g : ℕ) × NearRoot n g
    go q w = elim (eq-zero-or-pos (q % 2)) [
      | inl e ↦ (q / 2, near_even n (q / 2) p (subst (λ (x : ℕ). IsRoot (4 * n) x) (omega arith) w))
      | inr e ↦ (q / 2 + 1, near_odd n (q / 2) (subst (λ (x : ℕ). IsRoot (4 * n) x) (omega arith) w))
    ]

-- ---- what is closer to g than a half rounds to g
abbrev Cmp : Ordering → ℕ → ℕ → Type 0
Cmp Ordering.lt a b = a < b
Cmp Ordering.eq a b = a ≡ b
Cmp Ordering.gt a b = b < a

cmp : (a b : ℕ) → Cmp (compare a b) a b
cmp a b = go (compare a b) (leb→le a b) (nleb→lt a b) (eqb→eq a b) (λ (e : a ≡ b). subst (λ (x : ℕ). T (eqb a x)) e (eqb_refl a))
  where
    go : (o : Ordering) → (T (is_le o) → a ≤ b) → (T (not (is_le o)) → b < a) → (T (compare_is_eq o) → a ≡ b) → (a ≡ b → T (compare_is_eq o)) → Cmp o a b
    go Ordering.lt h k e n = lt_of_le-ne (h tt) n
    go Ordering.eq h k e n = e tt
    go Ordering.gt h k e n = k tt

module _ (s P g : ℕ) (pos : 0 < P) (above : g * P * 2 < s * 2 + P) (below : s * 2 < g * P * 2 + P) where
  abbrev w : ℕ
  w = s / P

  whole : w * P + s % P ≡ s
  whole = div-add-mod' s P

  rest : s % P < P
  rest = mod-lt s pos

  -- the whole part is at most g, and at least g - 1
  w_le : w < suc g
  w_le = lt_of_mul-lt-mul_right P (omega (arith, whole))

  w_ge : g < suc (suc w)
  w_ge = lt_of_mul-lt-mul_right P (omega (arith, whole, rest))

  pub closest_is : closest s P ≡ g
  closest_is = go (compare (s % P * 2) P) (cmp (s % P * 2) P)
    where
      up_to : s % P * 2 < P → g < suc w
      up_to h = lt_of_mul-lt-mul_right P (omega (arith, whole))

      beyond : P < s % P * 2 → w < g
      beyond h = lt_of_mul-lt-mul_right P (omega (arith, whole))

      between : w < g → g < suc w → ⊥
      between h k = omega arith

      go : (o : Ordering) → Cmp o (s % P * 2) P → nearest w o ≡ g
      go Ordering.lt c = omega (arith, w_le, up_to c)
      go Ordering.eq c = absurd (between (lt_of_mul-lt-mul_right P (omega (arith, whole, c))) (lt_of_mul-lt-mul_right P (omega (arith, whole, c))))
      go Ordering.gt c = omega (arith, w_ge, beyond c)

-- ---- n of 105 or 106 binary digits, g nearest to its root, and s the root of n * (P * P), cut
pub record Scaled (n g P s : ℕ) : Type 0 where
  pub above : 2 ^ 104 ≤ n
  pub below : n + 2 ^ 53 ≤ 2 ^ 106
  pub large : 2 ^ 56 ≤ P
  pub near : NearRoot n g
  pub root : IsRoot (n * (P * P)) s

module _ (n g P s : ℕ) (w : Scaled n g P s) where
  P_pos : 0 < P
  P_pos = le_trans (omega arith) w.large

  pub g_ge : 2 ^ 52 ≤ g
  g_ge = le_of_suc-le-suc (lt_of_not-le (λ (h : suc g ≤ 2 ^ 52). short (mul-le-mul h h)))
    where
      short : suc g * suc g ≤ 2 ^ 52 * 2 ^ 52 → ⊥
      short h = omega (arith, w.above, w.near.high)

  pub g_lt : g < 2 ^ 53
  g_lt = lt_of_not-le (λ (h : 2 ^ 53 ≤ g). long (mul-le-mul_right g h) h)
    where
      long : 2 ^ 53 * g ≤ g * g → 2 ^ 53 ≤ g → ⊥
      long h k = omega (arith, w.below, w.near.low)

  s_below : s * 2 < g * P * 2 + P
  s_below = root_lt {x = s * 2} {y = g * P * 2 + P} (omega (arith, w.root.low, mul-le-mul_right (P * P) w.near.high, mul-pos P_pos P_pos))

  s_above : g * P * 2 < s * 2 + P
  s_above = lt_of_not-le (λ (h : s * 2 + P ≤ g * P * 2). far g w.near.low g_lt h)
    where
      -- twice the root, 2 * s + 2 at most, would be no more than (2 * j + 1) * P + 2, whose square
      -- is below 4 * n * P * P
      far : (g : ℕ) → g * g < n + g → g < 2 ^ 53 → s * 2 + P ≤ g * P * 2 → ⊥
      far zero l k h = omega (arith, P_pos)
      far (suc j) l k h =
          let t : suc s * 2 ≤ j * P * 2 + P + 2 = omega arith in
          let q : suc s * 2 * (suc s * 2) ≤ (j * P * 2 + P + 2) * (j * P * 2 + P + 2) = mul-le-mul t t in
          let m : (j * j + j + 1) * (P * P) ≤ n * (P * P) = mul-le-mul_right (P * P) (omega arith) in
          omega (arith, w.root.high, mul-le-mul_right P w.large, mul-le-mul_right P k)

  pub rounds : closest s P ≡ g
  rounds = closest_is s P g P_pos s_above s_below

  pub s_ge : 2 ^ 52 * P ≤ s
  s_ge = le_of_suc-le-suc (root_lt {x = 2 ^ 52 * P} {y = suc s} (lt_of_le_of_lt (omega (arith, mul-le-mul_right (P * P) w.above)) w.root.high))

  pub s_lt : s < 2 ^ 53 * P
  s_lt = omega (arith, s_below, mul-le-mul_right P g_lt, P_pos)
