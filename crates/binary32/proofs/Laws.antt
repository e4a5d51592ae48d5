-- The laws of `widen_of` and `narrow_of`. Assumes nothing.
--     widen_value      widening keeps the value, a NaN's too.          value_kept      so does narrowing, where it gives a pattern
--     holds_where      it gives each pattern, no NaN's, that has the value. So there is one at most
--     none             where it gives none, no pattern of binary32 has the value
--     narrow_widen     widening and then narrowing restores a pattern that is no NaN's.        widen_narrow    so does narrowing and then widening
--     same_double      narrowing and then widening keeps the double, a NaN too
--     widen_lt, narrow_lt      both are patterns of their width
--     nan_widens, nan_narrows  what a NaN becomes
--     tested           the guess is the pattern where it widens to what was asked, and elsewhere there is none
use mathlib.Core.Path.{◌≡◌, refl, sym, ap, ◌∙◌, subst}
use mathlib.Core.Bool.{Bool, true, false, not, cond}
use Prim.Native.Nat.{ℕ, ◌+◌, ◌*◌, ◌/◌, ◌%◌, ◌^◌, ◌≤◌, ◌<◌}
use native.Mathlib.Nat.{lt_of_not-le}
use native.Mathlib.Omega.{arith}
use lib.Dec.{T, leb, leb→le, nleb→lt}
use lib.Ieee.{Float, nan, binary32, binary64, of_bits, to_bits, fits}
use lib.Ieee.Bits.{is_true, of_bits-to_bits, to_bits-of_bits, of_bits-fits, to_bits-lt}
use lib.Ieee.Fits.{fits_widens}
use Rattle.std.specs.Bool.{then_some}
use Rattle.std.proofs.Common.{Some, None}
use Rattle.binary32.specs.Patterns.{widen_of, narrowed, narrow_of}
use Rattle.binary32.specs.Guess.{Wide, Guessed}
use Rattle.binary32.proofs.Nans.{nan_at, no_nan}
use Rattle.binary32.proofs.Wide.{wide_at, wide_lt}

-- ---- widening
pub widen_value : (n : ℕ) → of_bits binary64 (widen_of n) ≡ of_bits binary32 n
widen_value n = of_bits-to_bits binary64 (of_bits binary32 n) (fits_widens (of_bits binary32 n) (of_bits-fits binary32 n))

nan_bits : to_bits binary64 nan ≡ 0x7ff8_0000_0000_0000
unfolding to_bits
nan_bits = refl

pub nan_widens : (n : ℕ) → 0x7f80_0000 < n % 2 ^ 31 → widen_of n ≡ 0x7ff8_0000_0000_0000
nan_widens n h = ap (to_bits binary64) (nan_at binary32 n h) ∙ nan_bits

-- ---- narrowing
holds : (x : Float) → T (fits binary32 x) → narrowed x ≡ Some (to_bits binary32 x)
holds x t = ap (λ (b : Bool). cond b (Some (to_bits binary32 x)) None) (is_true (fits binary32 x) t)

narrow_nan : narrowed nan ≡ Some 0x7fc0_0000
unfolding to_bits fits
narrow_nan = refl

pub nan_narrows : (w : ℕ) → 0x7ff0_0000_0000_0000 < w % 2 ^ 63 → narrow_of w ≡ Some 0x7fc0_0000
nan_narrows w h = ap narrowed (nan_at binary64 w h) ∙ narrow_nan

-- what was given was held
given : (b : Bool) (k n : ℕ) → cond b (Some k) None ≡ Some n → T b × (k ≡ n)
given true k n e = (tt, cc)
given false k n e = let z : ◌≡◌ {A = ℕ} 0 1 = cc in absurd (omega arith)

refused : (b : Bool) (k : ℕ) → cond b (Some k) None ≡ None → T b → ⊥
refused true k e t = let z : ◌≡◌ {A = ℕ} 0 1 = cc in omega arith
refused false k e t = t

pub value_kept : (w n : ℕ) → narrow_of w ≡ Some n → of_bits binary32 n ≡ of_bits binary64 w
value_kept w n e =
    let x = of_bits binary64 w in
    let g = given (fits binary32 x) (to_bits binary32 x) n e in
    ap (of_bits binary32) (sym g.1) ∙ of_bits-to_bits binary32 x g.0

pub none : (w : ℕ) → narrow_of w ≡ None → (n : ℕ) → of_bits binary32 n ≡ of_bits binary64 w → ⊥
none w e n p = refused (fits binary32 (of_bits binary64 w)) (to_bits binary32 (of_bits binary64 w)) e (subst (λ (x : Float). T (fits binary32 x)) p (of_bits-fits binary32 n))

pub holds_where : (w n : ℕ) → n < 2 ^ 32 → n % 2 ^ 31 ≤ 0x7f80_0000 → of_bits binary32 n ≡ of_bits binary64 w → narrow_of w ≡ Some n
holds_where w n u h p = ap narrowed (sym p) ∙ holds (of_bits binary32 n) (of_bits-fits binary32 n) ∙ ap Some (to_bits-of_bits binary32 n u (no_nan binary32 n h))

-- ---- the widths
pub widen_lt : (n : ℕ) → widen_of n < 2 ^ 64
widen_lt n = to_bits-lt binary64 (of_bits binary32 n) (fits_widens (of_bits binary32 n) (of_bits-fits binary32 n))

pub narrow_lt : (w n : ℕ) → narrow_of w ≡ Some n → n < 2 ^ 32
narrow_lt w n e =
    let x = of_bits binary64 w in
    let g = given (fits binary32 x) (to_bits binary32 x) n e in
    subst (λ (k : ℕ). k < 2 ^ 32) g.1 (to_bits-lt binary32 x g.0)

-- ---- there and back
-- whatever w is, a NaN's pattern too, what comes back stands for the same double
pub same_double : (w n : ℕ) → narrow_of w ≡ Some n → of_bits binary64 (widen_of n) ≡ of_bits binary64 w
same_double w n e = widen_value n ∙ value_kept w n e

pub narrow_widen : (n : ℕ) → n < 2 ^ 32 → n % 2 ^ 31 ≤ 0x7f80_0000 → narrow_of (widen_of n) ≡ Some n
narrow_widen n u h = holds_where (widen_of n) n u h (sym (widen_value n))

pub widen_narrow : (w n : ℕ) → w < 2 ^ 64 → w % 2 ^ 63 ≤ 0x7ff0_0000_0000_0000 → narrow_of w ≡ Some n → widen_of n ≡ w
widen_narrow w n u h e = ap (to_bits binary64) (value_kept w n e) ∙ to_bits-of_bits binary64 w u (no_nan binary64 w h)

-- ---- where the guess is not the pattern, there is none
no_nan_back : (w n : ℕ) → w % 2 ^ 63 ≤ 0x7ff0_0000_0000_0000 → widen_of n ≡ w → n % 2 ^ 31 ≤ 0x7f80_0000
no_nan_back w n h e = omega (arith, lt_of_not-le (λ (g : 0x7f80_0001 ≤ n % 2 ^ 31). wrong w (sym e ∙ nan_widens n g) h))
  where
    wrong : (w : ℕ) → w ≡ 0x7ff8_0000_0000_0000 → w % 2 ^ 63 ≤ 0x7ff0_0000_0000_0000 → ⊥
    wrong w p q = omega arith

signed : (s : Bool) (w n b : ℕ) → (T s → 2 ^ 31 ≤ n) → (T (not s) → n < 2 ^ 31) → n < 2 ^ 32 → b < 2 ^ 63 → w ≡ cond s (2 ^ 63) 0 + b → (b ≡ w % 2 ^ 63) × (w / 2 ^ 63 * 2 ^ 31 + n % 2 ^ 31 ≡ n)
signed true w n b y z u v e = (omega arith, omega (arith, y tt))
signed false w n b y z u v e = (omega arith, omega (arith, z tt))

-- the guess, with the sign, is the pattern that widens to w, if there is one
pub guessed : (w r n : ℕ) → w % 2 ^ 63 ≤ 0x7ff0_0000_0000_0000 → Guessed (w % 2 ^ 63) r → n < 2 ^ 32 → widen_of n ≡ w → w / 2 ^ 63 * 2 ^ 31 + r ≡ n
guessed w r n h g u e =
    let k = wide_at n (no_nan_back w n h e) in
    let j = signed (leb (2 ^ 31) n) w n k.0 (leb→le (2 ^ 31) n) (nleb→lt (2 ^ 31) n) u (wide_lt (n % 2 ^ 31) k.0 k.1) (sym e ∙ k.2) in
    ap (λ (m : ℕ). w / 2 ^ 63 * 2 ^ 31 + m) (g.1 (n % 2 ^ 31) (subst (Wide (n % 2 ^ 31)) j.0 k.1)) ∙ j.1

not_held : (w r : ℕ) → w < 2 ^ 64 → w % 2 ^ 63 ≤ 0x7ff0_0000_0000_0000 → Guessed (w % 2 ^ 63) r → (widen_of (w / 2 ^ 63 * 2 ^ 31 + r) ≡ w → ⊥) → None ≡ narrow_of w
not_held w r u h g other = go (fits binary32 (of_bits binary64 w)) found
  where
    found : T (fits binary32 (of_bits binary64 w)) → ⊥
    found t =
        let x = of_bits binary64 w in
        let n = to_bits binary32 x in
        let e : widen_of n ≡ w = widen_narrow w n u h (holds x t) in
        other (ap widen_of (guessed w r n h g (to_bits-lt binary32 x t) e) ∙ e)

    go : (b : Bool) → (T b → ⊥) → None ≡ cond b (Some (to_bits binary32 (of_bits binary64 w))) None
    go true f = absurd (f tt)
    go false f = refl

-- so a test of that tells all
pub tested : (w r : ℕ) (b : Bool) → w < 2 ^ 64 → w % 2 ^ 63 ≤ 0x7ff0_0000_0000_0000 → Guessed (w % 2 ^ 63) r
    → (b ≡ true → widen_of (w / 2 ^ 63 * 2 ^ 31 + r) ≡ w) → (b ≡ false → widen_of (w / 2 ^ 63 * 2 ^ 31 + r) ≡ w → ⊥)
    → then_some b (w / 2 ^ 63 * 2 ^ 31 + r) ≡ narrow_of w
tested w r true u h g y n = sym (ap narrow_of (sym (y refl)) ∙ narrow_widen (w / 2 ^ 63 * 2 ^ 31 + r) (omega (arith, g.0)) (omega (arith, g.0)))
tested w r false u h g y n = not_held w r u h g (n refl)
