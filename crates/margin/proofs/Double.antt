-- The margin of a double by its three fields, the sign, the exponent and the digits, as they are in
-- its bits.
use Prim.Native.Nat.{ℕ, zero, suc, ◌+◌, ◌-◌, ◌*◌, ◌/◌, ◌%◌, ◌^◌, ◌≤◌, ◌<◌, compare}
use mathlib.Core.Path.{◌≡◌, refl, sym, ap, ap₂, subst, ◌∙◌}
use mathlib.Core.Bool.{Bool, true, false, not, cond}
use native.Mathlib.Omega.{arith}
use native.Mathlib.Decide.{ℕ_discrete}
use native.Mathlib.Nat.{div-eq_of_lt, mod-eq_of_lt, mul_assoc, mul_right_comm, le-div_iff_mul-le, mul-le-mul_right, mul-le-mul_left, le_trans}
use borrow.Author.Tests.{lt-ltb, ne_eqb}
use lib.Pow.{pow_mono, pow_pos, pow-add}
use lib.Dec.{T, leb, eqb, lit≤}
use lib.Ieee.{Float, nan, inf, fin, up, down, binary64, of_bits, of_fields, odd, is_nan}
use lib.Ieee.Exact.{HasValue, odd_sign}
use lib.Ieee.Fits.{down_pos}
use lib.Ieee.Nearest.{nearest-ge, closest_same}
use Rattle.margin.specs.Margin.{nearest_whole, far_of, millis_of, margin_of}
use Rattle.margin.proofs.Nearest.{goes_down}

-- a thousand times a number below 2 ^ 53 is less than half of 2 ^ 64
pub none_left : (m k : ℕ) → m < 2 ^ 53 → 63 < k → 0 ≡ nearest_whole (m * 1000) (2 ^ k)
none_left m k h p =
    let q : 2 ^ 64 ≤ 2 ^ k = pow_mono {i = 64} {j = k} (omega arith) in
    let l : m * 1000 < 2 ^ k = omega arith in
    let r : m * 1000 % 2 ^ k ≡ m * 1000 = mod-eq_of_lt l in
    sym (goes_down (m * 1000) (2 ^ k) (pow_pos k) (rw r (omega arith)) (λ half. absurd (omega arith)) ∙ div-eq_of_lt l)

-- equal fractions have the same nearest whole number, and it is not below the quotient
nearest_same : (n d a c : ℕ) → 0 < d → 0 < c → n * c ≡ a * d → nearest_whole n d ≡ nearest_whole a c
unfolding nearest_whole
nearest_same = closest_same

at_least_quotient : (num den : ℕ) → num / den ≤ nearest_whole num den
unfolding nearest_whole
at_least_quotient num den = nearest-ge (num / den) (compare (num % den * 2) den)

-- a value has the margin of any fraction that it equals
margin_value : (v : Float) (s : Bool) (a c : ℕ) → 0 < c → HasValue v s a c → margin_of v ≡ millis_of s (nearest_whole (a * 1000) c)
unfolding margin_of
margin_value nan s a c C h = absurd h
margin_value (inf t) s a c C h = absurd h
margin_value (fin t m e) s a c C h =
    let x : m * up e * 1000 * c ≡ a * 1000 * down e = mul_right_comm (m * up e) 1000 c ∙ ap (λ (z : ℕ). z * 1000) h.1 ∙ mul_right_comm a (down e) 1000 in
    ap₂ millis_of h.0 (nearest_same (m * up e * 1000) (down e) (a * 1000) c (down_pos e) C x)

-- m * 2 ^ j smallest doubles are m / 2 ^ k metres
shifted : (m j k : ℕ) → j + k ≡ 1074 → nearest_whole (m * 2 ^ j * 1000) (2 ^ 1074) ≡ nearest_whole (m * 1000) (2 ^ k)
shifted m j k e =
    let x : m * 2 ^ j * 1000 * 2 ^ k ≡ m * 1000 * 2 ^ 1074
    = ap (λ (z : ℕ). z * 2 ^ k) (mul_right_comm m (2 ^ j) 1000) ∙ mul_assoc (m * 1000) (2 ^ j) (2 ^ k) ∙ ap (λ (z : ℕ). m * 1000 * z) (sym (pow-add 2 j k) ∙ ap (λ (i : ℕ). 2 ^ i) e) in
    nearest_same (m * 2 ^ j * 1000) (2 ^ 1074) (m * 1000) (2 ^ k) (pow_pos 1074) (pow_pos k) x

abbrev pub sign : ℕ → Bool
sign b = leb 9223372036854775808 b

abbrev pub exponent : ℕ → ℕ
exponent b = b % 9223372036854775808 / 4503599627370496

abbrev pub digits : ℕ → ℕ
digits b = b % 4503599627370496

-- exponent 0: no leading digit
pub margin_low : (b : ℕ) → exponent b ≡ 0 → margin_of (of_bits binary64 b) ≡ millis_of (sign b) (nearest_whole (digits b * 1000) (2 ^ 1074))
unfolding of_bits of_fields
margin_low b e =
    let o = odd 53 (sign b) (digits b) 0 1074 in
    let w : of_bits binary64 b ≡ o = ap (λ (x : ℕ). of_fields binary64 (sign b) x (digits b)) e in
    ap margin_of w
    ∙ margin_value o (sign b) (digits b * 2 ^ 0) (2 ^ 1074) (pow_pos 1074) (odd_sign 53 (sign b) (digits b) 0 1074)
    ∙ ap (millis_of (sign b)) (shifted (digits b) 0 1074 refl)

-- from 1 to 2046 the leading digit counts
fields_mid : (s : Bool) (x t : ℕ) → 0 < x → x < 2047 → of_fields binary64 s x t ≡ odd 53 s (4503599627370496 + t) (x - 1) 1074
unfolding of_fields
fields_mid s zero t p q = absurd (omega arith)
fields_mid s (suc x) t p q =
    rw (ne_eqb (suc x) 2047 (λ e. omega arith))
    (ap (λ (k : ℕ). odd 53 s (4503599627370496 + t) k 1074) (omega arith))

margin_mid_value : (b : ℕ) → 0 < exponent b → exponent b < 2047
    → margin_of (of_bits binary64 b) ≡ millis_of (sign b) (nearest_whole ((4503599627370496 + digits b) * 2 ^ (exponent b - 1) * 1000) (2 ^ 1074))
unfolding of_bits
margin_mid_value b p q =
    let x = exponent b in
    let m = 4503599627370496 + digits b in
    ap margin_of (fields_mid (sign b) x (digits b) p q)
    ∙ margin_value (odd 53 (sign b) m (x - 1) 1074) (sign b) (m * 2 ^ (x - 1)) (2 ^ 1074) (pow_pos 1074) (odd_sign 53 (sign b) m (x - 1) 1074)

pub margin_mid : (b : ℕ) → 0 < exponent b → exponent b < 1033
    → margin_of (of_bits binary64 b) ≡ millis_of (sign b) (nearest_whole ((4503599627370496 + digits b) * 1000) (2 ^ (1075 - exponent b)))
margin_mid b p q =
    margin_mid_value b p (omega arith)
    ∙ ap (millis_of (sign b)) (shifted (4503599627370496 + digits b) (exponent b - 1) (1075 - exponent b) (omega arith))

-- 1,024 metres or more are far
far_by : (s : Bool) (n d : ℕ) → 0 < d → 1024 * d ≤ n → millis_of s (nearest_whole (n * 1000) d) ≡ far_of s
far_by s n d D h =
    let q : 1024000 ≤ n * 1000 / d = (le-div_iff_mul-le {k = d} D).1 (omega arith) in
    rw (lt-ltb 999999 (nearest_whole (n * 1000) d) (omega (arith, at_least_quotient (n * 1000) d))) refl

far_mid : (b : ℕ) → 1033 ≤ exponent b → exponent b < 2047 → margin_of (of_bits binary64 b) ≡ far_of (sign b)
far_mid b p q =
    let m = 4503599627370496 + digits b in
    let j = exponent b - 1 in
    let g : 2 ^ 1032 ≤ 2 ^ j = pow_mono {i = 1032} {j = j} (omega arith) in
    let k : 4503599627370496 * 2 ^ j ≤ m * 2 ^ j = mul-le-mul_right (2 ^ j) (omega arith) in
    margin_mid_value b (omega arith) q
    ∙ far_by (sign b) (m * 2 ^ j) (2 ^ 1074) (pow_pos 1074) (le_trans (lit≤ {m = 1024 * 2 ^ 1074} {n = 4503599627370496 * 2 ^ 1032} tt) (le_trans (mul-le-mul_left 4503599627370496 g) k))

-- the largest exponent is an infinity's or a NaN's
top_by : (s c : Bool) → T (not (is_nan (cond c (inf s) nan))) → margin_of (cond c (inf s) nan) ≡ far_of s
unfolding is_nan margin_of
top_by s true n = refl
top_by s false n = absurd n

far_top : (b : ℕ) → exponent b ≡ 2047 → T (not (is_nan (of_bits binary64 b))) → margin_of (of_bits binary64 b) ≡ far_of (sign b)
unfolding of_bits of_fields
far_top b e n =
    let w : of_bits binary64 b ≡ cond (eqb (digits b) 0) (inf (sign b)) nan = ap (λ (x : ℕ). of_fields binary64 (sign b) x (digits b)) e in
    ap margin_of w ∙ top_by (sign b) (eqb (digits b) 0) (subst (λ (v : Float). T (not (is_nan v))) w n)

far_dec : (b : ℕ) → 1033 ≤ exponent b → exponent b ≤ 2047 → T (not (is_nan (of_bits binary64 b))) → Dec (exponent b ≡ 2047) → margin_of (of_bits binary64 b) ≡ far_of (sign b)
far_dec b p q n (yes e) = far_top b e n
far_dec b p q n (no e) = far_mid b p (omega arith)

pub margin_far : (b : ℕ) → 1033 ≤ exponent b → T (not (is_nan (of_bits binary64 b))) → margin_of (of_bits binary64 b) ≡ far_of (sign b)
margin_far b p n = far_dec b p (omega arith) n (ℕ_discrete _ _)
