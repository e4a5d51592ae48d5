-- What `sqrt` returns at each kind of argument is `root_of` of it. Assumes nothing.
use mathlib.Core.Path.{◌≡◌, refl, sym, ap, ◌∙◌, subst}
use Prim.Native.Nat.{ℕ, zero, suc, ◌+◌, ◌-◌, ◌*◌, ◌/◌, ◌%◌, ◌^◌, ◌≤◌, ◌<◌}
use native.Mathlib.Nat.{lt_irrefl, le_of_lt, le_of_suc-le-suc, lt_of_not-le, zero-mul, mul_assoc, mul-div_cancel, mul-pos, mod-eq_of_lt}
use native.Mathlib.Omega.{arith}
use mathlib.Core.Bool.{Bool, true, false, not, cond, true≢false, false≢true}
use lib.Dec.{T, leb, ltb, eqb, le→leb, lt→ltb, T_not}
use lib.Pow.{pow-add, pow_pos}
use lib.Ieee.{Float, nan, inf, fin, binary64, up, down, odd, round, of_fields, of_bits, to_bits, fits, is_nan}
use lib.Ieee.Bits.{of_bits-to_bits, nan_bits_is, nan_bits_above, to_bits-lt, is_true}
use lib.Ieee.Exact.{HasValue, odd_sign}
use lib.Ieee.Fits.{down_pos}
use Rattle.root.specs.Root.{root_of, whole_root}
use Rattle.root.specs.Steps.{Normed, NearRoot, RootBits}
use Rattle.root.proofs.Rounded.{rounded, g_lt, g_ge}
use Rattle.std.proofs.lemmas.Float.{T_from_false}
use Rattle.floats.proofs.Nan.{the_nan}
use Rattle.root.proofs.Patterns.{no_nan_bits, of_bits_is, put, normal_value, low_value}

-- ---- a NaN
pub at_nan : (x : Float) → is_nan x ≡ true → x ≡ root_of x
unfolding root_of
at_nan x d = subst (λ (y : Float). y ≡ root_of y) (sym (the_nan x d)) refl

-- ---- -0, +0 and the infinity are their own roots
own_root : (x : Float) (b : ℕ) → T (fits binary64 x) → of_bits binary64 b ≡ root_of (of_bits binary64 b) → to_bits binary64 x ≡ b → x ≡ root_of x
own_root x b F r e = subst (λ (y : Float). y ≡ root_of y) (ap (of_bits binary64) (sym e) ∙ of_bits-to_bits binary64 x F) r

pub at_minus_zero : (x : Float) → T (fits binary64 x) → to_bits binary64 x ≡ 2 ^ 63 → x ≡ root_of x
unfolding of_bits root_of
at_minus_zero x F e = own_root x (2 ^ 63) F refl e

pub at_plus_zero : (x : Float) → T (fits binary64 x) → to_bits binary64 x ≡ 0 → x ≡ root_of x
unfolding of_bits root_of
at_plus_zero x F e = own_root x 0 F refl e

pub at_infinity : (x : Float) → T (fits binary64 x) → to_bits binary64 x ≡ 0x7ff0_0000_0000_0000 → x ≡ root_of x
unfolding of_bits root_of
at_infinity x F e = own_root x 0x7ff0_0000_0000_0000 F refl e

-- ---- below zero
odd_below : (d q k l : ℕ) → 0 < q → nan ≡ root_of (odd d true q k l)
unfolding root_of
odd_below d q k l h = go (odd d true q k l) (odd_sign d true q k l)
  where
    go : (x : Float) → HasValue x true (q * 2 ^ k) (2 ^ l) → nan ≡ root_of x
    go nan v = absurd v
    go (inf s) v = absurd v
    go (fin false m e) v = absurd (false≢true v.0)
    go (fin true zero e) v = absurd (lt_irrefl 0 (subst (λ (z : ℕ). 0 < z) (sym v.1 ∙ ap (λ (z : ℕ). z * 2 ^ l) (zero-mul (up e)) ∙ zero-mul (2 ^ l)) (mul-pos (mul-pos h (pow_pos k)) (down_pos e))))
    go (fin true (suc m) e) v = refl

fields_below : (x t : ℕ) → 0 < x + t → nan ≡ root_of (of_fields binary64 true x t)
unfolding of_fields root_of
fields_below zero t h = odd_below 53 t 0 1074 (omega arith)
fields_below (suc x) t h = go (eqb (suc x) 2047) (eqb t 0)
  where
    go : (a b : Bool) → nan ≡ root_of (cond a (cond b (inf true) nan) (odd 53 true (2 ^ 52 + t) x 1074))
    go true true = refl
    go true false = refl
    go false b = odd_below 53 (2 ^ 52 + t) x 1074 (omega arith)

pub at_below : (x : Float) → T (fits binary64 x) → 2 ^ 63 < to_bits binary64 x → nan ≡ root_of x
at_below x F l =
    let b = to_bits binary64 x in
    fields_below (b % 2 ^ 63 / 2 ^ 52) (b % 2 ^ 52) (some b l (to_bits-lt binary64 x F))
    ∙ ap (λ (s : Bool). root_of (of_fields binary64 s (b % 2 ^ 63 / 2 ^ 52) (b % 2 ^ 52))) (sym (is_true (leb (2 ^ 63) b) (le→leb (2 ^ 63) b (le_of_lt l))))
    ∙ ap root_of (sym (of_bits_is b) ∙ of_bits-to_bits binary64 x F)
  where
    some : (b : ℕ) → 2 ^ 63 < b → b < 2 ^ 64 → 0 < b % 2 ^ 63 / 2 ^ 52 + b % 2 ^ 52
    some b l u = omega arith

-- ---- above zero, and finite: the pattern is below the infinity's
not_above : (b : ℕ) → b < 2 ^ 63 → T (not (is_nan (of_bits binary64 b))) → b ≤ 0x7ff0_0000_0000_0000
not_above b u n = le_of_suc-le-suc (lt_of_not-le (λ (g : suc 0x7ff0_0000_0000_0000 ≤ b). T_not (is_nan (of_bits binary64 b)) n
    (subst T (sym (ap (λ (z : ℕ). ltb 0x7ff0_0000_0000_0000 z) (mod-eq_of_lt u)) ∙ sym (nan_bits_above binary64 b) ∙ nan_bits_is binary64 b) (lt→ltb 0x7ff0_0000_0000_0000 b g))))

pub pattern_lt : (x : Float) → T (fits binary64 x) → is_nan x ≡ false → (to_bits binary64 x ≡ 2 ^ 63 → ⊥) → to_bits binary64 x ≤ 2 ^ 63 → (to_bits binary64 x ≡ 0x7ff0_0000_0000_0000 → ⊥)
    → to_bits binary64 x < 0x7ff0_0000_0000_0000
pattern_lt x F d z l i = go (to_bits binary64 x) (of_bits-to_bits binary64 x F) z l i
  where
    go : (b : ℕ) → of_bits binary64 b ≡ x → (b ≡ 2 ^ 63 → ⊥) → b ≤ 2 ^ 63 → (b ≡ 0x7ff0_0000_0000_0000 → ⊥) → b < 0x7ff0_0000_0000_0000
    go b e z l i = let k : b ≤ 0x7ff0_0000_0000_0000 = not_above b (omega arith) (subst (λ (y : Float). T (not (is_nan y))) (sym e) (T_from_false (is_nan x) d)) in omega arith

-- the root of n units
pub root_at : (x : Float) (n : ℕ) → HasValue x false n (2 ^ 1074) → 0 < n → root_of x ≡ round binary64 false (whole_root (n * 2 ^ 1074)) (2 ^ 1074)
unfolding root_of
root_at nan n v h = absurd v
root_at (inf s) n v h = absurd v
root_at (fin true m e) n v h = absurd (true≢false v.0)
root_at (fin false zero e) n v h = absurd (lt_irrefl 0 (subst (λ (z : ℕ). 0 < z) (sym v.1 ∙ ap (λ (z : ℕ). z * 2 ^ 1074) (zero-mul (up e)) ∙ zero-mul (2 ^ 1074)) (mul-pos h (down_pos e))))
root_at (fin false (suc m) e) n v h = ap (λ (z : ℕ). round binary64 false (whole_root (z * 2 ^ 1074)) (2 ^ 1074)) (ap (λ (z : ℕ). z / down e) v.1 ∙ mul-div_cancel n (down_pos e))

-- ---- the pattern of the root
-- a number m * 2 ^ e, whether e is even or odd, in the form n * (2 ^ k * 2 ^ k) with an n of 105 or
-- 106 binary digits
pub record Window (m e : ℕ) : Type 0 where
  pub k : ℕ
  pub n : ℕ
  pub k_is : k ≡ e / 2 - 26
  pub n_is : n ≡ m * (1 + e % 2) * 2 ^ 52
  pub is : m * 2 ^ e ≡ n * (2 ^ k * 2 ^ k)
  pub above : 2 ^ 104 ≤ n
  pub below : n + 2 ^ 53 ≤ 2 ^ 106
  pub lo : 56 ≤ k
  pub hi : k ≤ 2045

squared : (m e c k : ℕ) → e ≡ c + (k + k) → m * 2 ^ e ≡ m * 2 ^ c * (2 ^ k * 2 ^ k)
squared m e c k p = rw (p, pow-add 2 c (k + k), pow-add 2 k k) (sym (mul_assoc m (2 ^ c) (2 ^ k * 2 ^ k)))

pub window : (m e : ℕ) → 2 ^ 52 ≤ m → m < 2 ^ 53 → 1022 ≤ e → e < 3120 → Window m e
window m e l u c d = go (e % 2) refl (omega arith)
  where
    at : (j : ℕ) → e ≡ j + (e / 2 - 26 + (e / 2 - 26)) → m * 2 ^ j ≡ m * (1 + e % 2) * 2 ^ 52 → 2 ^ 104 ≤ m * 2 ^ j → m * 2 ^ j + 2 ^ 53 ≤ 2 ^ 106 → Window m e
    at j p q above below = record { k = e / 2 - 26; n = m * 2 ^ j; k_is = refl; n_is = q; is = squared m e j (e / 2 - 26) p; above = above; below = below; lo = omega arith; hi = omega arith }

    go : (o : ℕ) → e % 2 ≡ o → o < 2 → Window m e
    go zero p h = at 52 (omega arith) (rw p (omega arith)) (omega arith) (omega arith)
    go (suc zero) p h = at 53 (omega arith) (rw p (omega arith)) (omega arith) (omega arith)
    go (suc (suc o)) p h = absurd (omega arith)

-- g is the digits of the root, and k its exponent
module _ (m e g : ℕ) (l : 2 ^ 52 ≤ m) (u : m < 2 ^ 53) (c : 1022 ≤ e) (d : e < 3120) (r : NearRoot (m * (1 + e % 2) * 2 ^ 52) g) where
  w : Window m e
  w = window m e l u c d

  near : NearRoot w.n g
  near = subst (λ (n : ℕ). NearRoot n g) (sym w.n_is) r

  pub digits_lt : g < 2 ^ 53
  digits_lt = g_lt w.n g w.k w.above w.below w.lo w.hi near

  digits_ge : 2 ^ 52 ≤ g
  digits_ge = g_ge w.n g w.k w.above w.below w.lo w.hi near

  pub written : RootBits m e ((e / 2 - 26) * 2 ^ 52 + g)
  written =
      subst (λ (k : ℕ). RootBits m e (k * 2 ^ 52 + g)) w.k_is (record {
        fine = no_nan_bits (w.k * 2 ^ 52 + g) (omega (arith, w.hi, digits_lt));
        is =
            put w.k g (omega (arith, w.hi)) digits_ge digits_lt
            ∙ sym (rounded w.n g w.k w.above w.below w.lo w.hi near)
            ∙ ap (λ (x : ℕ). round binary64 false (whole_root x) (2 ^ 1074)) (sym w.is);
      })

-- ---- a normal number and a subnormal one
normal_scale : (m f : ℕ) → 0 < f → m * 2 ^ (f - 1) * 2 ^ 1074 ≡ m * 2 ^ (f + 1073)
normal_scale m f h = mul_assoc m (2 ^ (f - 1)) (2 ^ 1074) ∙ ap (λ (z : ℕ). m * z) (sym (pow-add 2 (f - 1) 1074) ∙ ap (λ (z : ℕ). 2 ^ z) exponent)
  where
    exponent : f - 1 + 1074 ≡ f + 1073
    exponent = omega arith

low_scale : (t m k : ℕ) → Normed t m k → t * 2 ^ 1074 ≡ m * 2 ^ (1074 - k)
low_scale t m k w = ap (λ (z : ℕ). t * z) (ap (λ (z : ℕ). 2 ^ z) exponent ∙ pow-add 2 k (1074 - k)) ∙ sym (mul_assoc t (2 ^ k) (2 ^ (1074 - k))) ∙ ap (λ (z : ℕ). z * 2 ^ (1074 - k)) (sym w.is)
  where
    exponent : 1074 ≡ k + (1074 - k)
    exponent = omega (arith, w.few)

pub at_normal : (x : Float) (r : ℕ) → T (fits binary64 x) → 2 ^ 52 ≤ to_bits binary64 x → to_bits binary64 x < 0x7ff0_0000_0000_0000
    → RootBits (2 ^ 52 + to_bits binary64 x % 2 ^ 52) (to_bits binary64 x / 2 ^ 52 + 1073) r → of_bits binary64 r ≡ root_of x
at_normal x r F l u w =
    let b = to_bits binary64 x in
    let n = (2 ^ 52 + b % 2 ^ 52) * 2 ^ (b / 2 ^ 52 - 1) in
    w.is
    ∙ ap (λ (z : ℕ). round binary64 false (whole_root z) (2 ^ 1074)) (sym (normal_scale (2 ^ 52 + b % 2 ^ 52) (b / 2 ^ 52) (omega arith)))
    ∙ sym (root_at (of_bits binary64 b) n (normal_value b l u) (mul-pos (omega arith) (pow_pos (b / 2 ^ 52 - 1))))
    ∙ ap root_of (of_bits-to_bits binary64 x F)

pub at_low : (x : Float) (m k r : ℕ) → T (fits binary64 x) → 0 < to_bits binary64 x % 2 ^ 52 → to_bits binary64 x < 2 ^ 52
    → Normed (to_bits binary64 x % 2 ^ 52) m k → RootBits m (1074 - k) r → of_bits binary64 r ≡ root_of x
at_low x m k r F h u n w =
    let b = to_bits binary64 x in
    w.is
    ∙ ap (λ (z : ℕ). round binary64 false (whole_root z) (2 ^ 1074)) (sym (low_scale (b % 2 ^ 52) m k n))
    ∙ sym (root_at (of_bits binary64 b) (b % 2 ^ 52) (low_value b u) h)
    ∙ ap root_of (of_bits-to_bits binary64 x F)

-- ---- what the last test says
pub field_zero : (b : ℕ) → b / 2 ^ 52 ≡ 0 → b < 2 ^ 52
field_zero b e = omega arith

pub digits_pos : (b : ℕ) → b / 2 ^ 52 ≡ 0 → (b ≡ 0 → ⊥) → 0 < b % 2 ^ 52
digits_pos b e n = omega arith

pub field_pos : (b : ℕ) → (b / 2 ^ 52 ≡ 0 → ⊥) → 2 ^ 52 ≤ b
field_pos b n = omega arith
