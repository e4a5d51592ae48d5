-- NaN, as the test `x != x` tells it, as `is_nan` does, and as its bit pattern does. Assumes
-- nothing.
--     nan_told         the two tests are one
--     is_nan_lem, not_nan  what a program learns by `x != x`, where it holds and where it does not.
--     the_nan          what `is_nan` tells
--     nan_at, not_nan_at  a pattern above the infinity's, its sign left out, is a NaN's; no other is
use mathlib.Core.Path.{◌≡◌, refl, sym, subst, ◌∙◌}
use mathlib.Core.Bool.{Bool, true, false, not}
use Prim.Native.Nat.{ℕ, ◌%◌, ◌^◌, ◌≤◌, ◌<◌}
use native.Mathlib.Omega.{arith}
use borrow.Author.Tests.{lt-ltb, le-ltb}
use lib.Dec.{T}
use lib.IntN.{ℤ}
use lib.Ieee.{Float, nan, inf, fin, binary64, of_bits, nan_bits, ne, is_nan}
use lib.Ieee.Bits.{nan_bits_is, nan_bits_above}
use lib.Ieee.Compare.{differs_from_itself, nan_differs}

never : (b : Bool) → (T b → ⊥) → b ≡ false
never true n = absurd (n tt)
never false n = refl

no_inf : (s : Bool) → inf s ≡ nan → ⊥
no_inf s p = let z : ◌≡◌ {A = ℕ} 0 1 = cc in omega arith

no_fin : (s : Bool) (m : ℕ) (e : ℤ) → fin s m e ≡ nan → ⊥
no_fin s m e p = let z : ◌≡◌ {A = ℕ} 0 1 = cc in omega arith

pub nan_told : (x : Float) → ne x x ≡ is_nan x
unfolding is_nan
nan_told nan = nan_differs
nan_told (inf s) = never (ne (inf s) (inf s)) (λ t. no_inf s (differs_from_itself (inf s) t))
nan_told (fin s m e) = never (ne (fin s m e) (fin s m e)) (λ t. no_fin s m e (differs_from_itself (fin s m e) t))

pub is_nan_lem : (x : Float) → ne x x ≡ true → x ≡ nan
is_nan_lem x e = differs_from_itself x (subst T (sym e) tt)

pub not_nan : (x : Float) → ne x x ≡ false → T (not (is_nan x))
not_nan x e = subst (λ (b : Bool). T (not b)) (sym (sym (nan_told x) ∙ e)) tt

pub the_nan : (x : Float) → is_nan x ≡ true → x ≡ nan
the_nan x e = is_nan_lem x (nan_told x ∙ e)

pub nan_at : (b : ℕ) → 0x7ff0_0000_0000_0000 < b % 2 ^ 63 → of_bits binary64 b ≡ nan
nan_at b h = the_nan (of_bits binary64 b) (sym (nan_bits_is binary64 b) ∙ nan_bits_above binary64 b ∙ lt-ltb 0x7ff0_0000_0000_0000 (b % 2 ^ 63) h)

pub not_nan_at : (b : ℕ) → b % 2 ^ 63 ≤ 0x7ff0_0000_0000_0000 → T (not (nan_bits binary64 b))
not_nan_at b h = subst (λ (t : Bool). T (not t)) (sym (nan_bits_above binary64 b ∙ le-ltb 0x7ff0_0000_0000_0000 (b % 2 ^ 63) h)) tt
