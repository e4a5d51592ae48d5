-- The bit patterns of binary64: what value each stands for. Assumes nothing.
use mathlib.Core.Path.{◌≡◌, refl, sym, ap, ◌∙◌, subst}
use Prim.Native.Nat.{ℕ, zero, suc, ◌+◌, ◌-◌, ◌*◌, ◌/◌, ◌%◌, ◌^◌, ◌≤◌, ◌<◌}
use native.Mathlib.Nat.{not-le_of_lt, mod-eq_of_lt, mul-one}
use native.Mathlib.Omega.{arith}
use mathlib.Core.Bool.{Bool, true, false, not, cond}
use lib.Dec.{T, leb, eqb, leb→le, eqb→eq, not_T}
use lib.Ieee.{Float, nan, inf, binary64, odd, of_fields, of_bits, to_bits, nan_bits, fits}
use lib.Ieee.Bits.{is_false, cond_no, of_bits-to_bits}
use lib.Ieee.Exact.{HasValue, odd_sign}
use lib.Ieee.Scale.{finite}
use Rattle.std.proofs.lemmas.Float.{not_nan_f64_bits}

-- a pattern up to the infinity's is no NaN's
pub no_nan_bits : (b : ℕ) → b ≤ 0x7ff0_0000_0000_0000 → T (not (nan_bits binary64 b))
no_nan_bits b h = not_nan_f64_bits b (omega (arith, mod-eq_of_lt wide))
  where
    wide : b < 2 ^ 63
    wide = omega arith

-- ---- by fields
pub of_bits_is : (b : ℕ) → of_bits binary64 b ≡ of_fields binary64 (leb (2 ^ 63) b) (b % 2 ^ 63 / 2 ^ 52) (b % 2 ^ 52)
unfolding of_bits
of_bits_is b = refl

pub sign_clear : (b : ℕ) → b < 2 ^ 63 → of_bits binary64 b ≡ of_fields binary64 false (b / 2 ^ 52) (b % 2 ^ 52)
sign_clear b u =
    of_bits_is b
    ∙ ap (λ (s : Bool). of_fields binary64 s (b % 2 ^ 63 / 2 ^ 52) (b % 2 ^ 52)) (is_false (leb (2 ^ 63) b) (not_T (leb (2 ^ 63) b) (λ (t : T (leb (2 ^ 63) b)). not-le_of_lt u (leb→le (2 ^ 63) b t))))
    ∙ ap (λ (x : ℕ). of_fields binary64 false (x / 2 ^ 52) (b % 2 ^ 52)) (mod-eq_of_lt u)

under_ones : (t x : ℕ) → suc x < 2047 → of_fields binary64 false (suc x) t ≡ odd 53 false (2 ^ 52 + t) x 1074
unfolding of_fields
under_ones t x h = cond_no (eqb (suc x) 2047) (cond (eqb t 0) (inf false) nan) (odd 53 false (2 ^ 52 + t) x 1074) (not_T (eqb (suc x) 2047) (λ (u : T (eqb (suc x) 2047)). differ x h (eqb→eq (suc x) 2047 u)))
  where
    differ : (x : ℕ) → suc x < 2047 → suc x ≡ 2047 → ⊥
    differ x h e = omega arith

at_zero : (t : ℕ) → of_fields binary64 false 0 t ≡ odd 53 false t 0 1074
unfolding of_fields
at_zero t = refl

-- ---- finite where the exponent field is not all ones
odd_finite : (d : ℕ) (s : Bool) (q k l : ℕ) → finite (odd d s q k l) ≡ true
unfolding odd
odd_finite d s zero k l = refl
odd_finite d s (suc q) k l = refl

fields_finite : (s : Bool) (x t : ℕ) → finite (of_fields binary64 s x t) ≡ not (eqb x 2047)
unfolding of_fields
fields_finite s zero t = odd_finite 53 s t 0 1074
fields_finite s (suc x) t = go (eqb (suc x) 2047) (eqb t 0)
  where
    go : (a b : Bool) → finite (cond a (cond b (inf s) nan) (odd 53 s (2 ^ 52 + t) x 1074)) ≡ not a
    go true true = refl
    go true false = refl
    go false b = odd_finite 53 s (2 ^ 52 + t) x 1074

pub finite_bits : (x : Float) → T (fits binary64 x) → finite x ≡ not (eqb (to_bits binary64 x / 2 ^ 52 % 2 ^ 11) 2047)
finite_bits x F =
    let b = to_bits binary64 x in
    ap finite (sym (of_bits-to_bits binary64 x F) ∙ of_bits_is b)
    ∙ fields_finite (leb (2 ^ 63) b) (b % 2 ^ 63 / 2 ^ 52) (b % 2 ^ 52)
    ∙ ap (λ (y : ℕ). not (eqb y 2047)) (field b)
  where
    field : (b : ℕ) → b % 2 ^ 63 / 2 ^ 52 ≡ b / 2 ^ 52 % 2 ^ 11
    field b = omega arith

-- ---- numbers above zero
-- the digits g and the exponent k, as a pattern
pub put : (k g : ℕ) → k < 2046 → 2 ^ 52 ≤ g → g < 2 ^ 53 → of_bits binary64 (k * 2 ^ 52 + g) ≡ odd 53 false g k 1074
put k g K l u =
    sign_clear (k * 2 ^ 52 + g) (omega arith)
    ∙ ap (λ (x : ℕ). of_fields binary64 false x ((k * 2 ^ 52 + g) % 2 ^ 52)) field
    ∙ under_ones ((k * 2 ^ 52 + g) % 2 ^ 52) k (omega arith)
    ∙ ap (λ (t : ℕ). odd 53 false t k 1074) digits
  where
    field : (k * 2 ^ 52 + g) / 2 ^ 52 ≡ suc k
    field = omega arith

    digits : 2 ^ 52 + (k * 2 ^ 52 + g) % 2 ^ 52 ≡ g
    digits = omega arith

-- a normal number, in units
pub normal_value : (b : ℕ) → 2 ^ 52 ≤ b → b < 0x7ff0_0000_0000_0000 → HasValue (of_bits binary64 b) false ((2 ^ 52 + b % 2 ^ 52) * 2 ^ (b / 2 ^ 52 - 1)) (2 ^ 1074)
normal_value b l u =
    subst (λ (y : Float). HasValue y false ((2 ^ 52 + b % 2 ^ 52) * 2 ^ (b / 2 ^ 52 - 1)) (2 ^ 1074))
    (sym (sign_clear b (omega arith) ∙ ap (λ (z : ℕ). of_fields binary64 false z (b % 2 ^ 52)) field ∙ under_ones (b % 2 ^ 52) (b / 2 ^ 52 - 1) (omega arith)))
    (odd_sign 53 false (2 ^ 52 + b % 2 ^ 52) (b / 2 ^ 52 - 1) 1074)
  where
    field : b / 2 ^ 52 ≡ suc (b / 2 ^ 52 - 1)
    field = omega arith

-- a subnormal number, in units
pub low_value : (b : ℕ) → b < 2 ^ 52 → HasValue (of_bits binary64 b) false (b % 2 ^ 52) (2 ^ 1074)
low_value b u =
    subst (λ (n : ℕ). HasValue (of_bits binary64 b) false n (2 ^ 1074)) (mul-one (b % 2 ^ 52))
    (subst (λ (y : Float). HasValue y false (b % 2 ^ 52 * 1) (2 ^ 1074))
    (sym (sign_clear b (omega arith) ∙ ap (λ (z : ℕ). of_fields binary64 false z (b % 2 ^ 52)) field ∙ at_zero (b % 2 ^ 52)))
    (odd_sign 53 false (b % 2 ^ 52) 0 1074))
  where
    field : b / 2 ^ 52 ≡ 0
    field = omega arith
