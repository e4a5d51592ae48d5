-- The values of binary64 in units of 2 ^ -1074: each is n * 2 ^ j units with an n of 53 binary
-- digits at most. Assumes nothing.
use mathlib.Core.Path.{◌≡◌, refl, sym, ap, ◌∙◌, subst}
use Prim.Native.Nat.{ℕ, zero, suc, ◌+◌, ◌-◌, ◌*◌, ◌/◌, ◌%◌, ◌^◌, ◌≤◌, ◌<◌}
use native.Mathlib.Nat.{lt_of_not-le, not-le_of_lt, lt_irrefl, le_trans, le_of_eq, le_of_suc-le-suc, lt_of_lt_of_le, lt_of_le_of_lt, mul-one, mul_assoc, mul_comm, mul-lt-mul_of_pos_right, lt_of_mul-lt-mul_right, mul-div_cancel, div-one, zero-mul, zero-div}
use native.Mathlib.Omega.{arith}
use mathlib.Core.Bool.{Bool, ◌&&◌}
use lib.Dec.{T, leb, ltb, eqb, ltb→lt, leb→le}
use lib.IntN.{ℤ, pos, negsuc}
use lib.Pow.{pow-add, pow_pos, pow_mono, pow-lt, shl_lt}
use lib.Ieee.{Float, nan, inf, fin, binary64, up, down, fits}
use lib.Ieee.Exact.{HasValue}
use lib.Ieee.Fits.{down_pos, and_l, and_r}
use lib.Ieee.Scale.{finite}
use Rattle.root.specs.Root.{in_units, units_of}

-- ---- m * 2 ^ e is m * 2 ^ j units, exactly
pow_le_back : (a l : ℕ) → 2 ^ a ≤ 2 ^ l → a ≤ l
pow_le_back a l h = le_of_suc-le-suc (lt_of_not-le (λ (g : suc l ≤ a). lt_irrefl (2 ^ l) (lt_of_lt_of_le (pow-lt g) h)))

place : (m : ℕ) (e : ℤ) → down e ≤ 2 ^ 1074 → (j : ℕ) × (in_units m e ≡ m * 2 ^ j) × (m * up e * 2 ^ 1074 ≡ m * 2 ^ j * down e)
place m (pos a) h =
    let p : m * 2 ^ a * 2 ^ 1074 ≡ m * 2 ^ (a + 1074) = mul_assoc m (2 ^ a) (2 ^ 1074) ∙ ap (λ (x : ℕ). m * x) (sym (pow-add 2 a 1074)) in
    (a + 1074, div-one (m * 2 ^ a * 2 ^ 1074) ∙ p, p ∙ sym (mul-one (m * 2 ^ (a + 1074))))
place m (negsuc a) h =
    let l : suc a ≤ 1074 = pow_le_back (suc a) 1074 h in
    let p : m * 1 * 2 ^ 1074 ≡ m * 2 ^ (1074 - suc a) * 2 ^ suc a =
    ap (λ (x : ℕ). x * 2 ^ 1074) (mul-one m) ∙ ap (λ (x : ℕ). m * x) (ap (λ (x : ℕ). 2 ^ x) (back a l) ∙ pow-add 2 (1074 - suc a) (suc a)) ∙ sym (mul_assoc m (2 ^ (1074 - suc a)) (2 ^ suc a)) in
    (1074 - suc a, ap (λ (x : ℕ). x / 2 ^ suc a) p ∙ mul-div_cancel (m * 2 ^ (1074 - suc a)) (pow_pos (suc a)), p)
  where
    back : (a : ℕ) → suc a ≤ 1074 → 1074 ≡ 1074 - suc a + suc a
    back a l = omega arith

-- ---- what `fits` says of a number that is not zero
module _ (s : Bool) (m : ℕ) (e : ℤ) (t : T (fits binary64 (fin s (suc m) e))) where
  abbrev is_odd : Bool
  is_odd = eqb (suc m % 2) 1

  abbrev is_short : Bool
  is_short = ltb (suc m) (2 ^ 53)

  abbrev is_fine : Bool
  is_fine = leb (down e) (2 ^ 1074)

  abbrev is_small_lem : Bool
  is_small_lem = ltb (suc m * up e) (2 ^ 1024 * down e)

  all : T (is_odd && is_short && is_fine && is_small_lem)
  unfolding fits
  all = t

  short : suc m < 2 ^ 53
  short = ltb→lt (suc m) (2 ^ 53) (and_r is_odd is_short (and_l (is_odd && is_short) is_fine (and_l (is_odd && is_short && is_fine) is_small_lem all)))

  fine : down e ≤ 2 ^ 1074
  fine = leb→le (down e) (2 ^ 1074) (and_r (is_odd && is_short) is_fine (and_l (is_odd && is_short && is_fine) is_small_lem all))

  small : suc m * up e < 2 ^ 1024 * down e
  small = ltb→lt (suc m * up e) (2 ^ 1024 * down e) (and_r (is_odd && is_short && is_fine) is_small_lem all)

-- ---- in units
pub record Units (u : ℕ) : Type 0 where
  pub n : ℕ
  pub j : ℕ
  pub n_lt : n < 2 ^ 53
  pub is : u ≡ n * 2 ^ j
  pub fine : u < 2 ^ 2098

in_units_lem : (s : Bool) (m : ℕ) (e : ℤ) → T (fits binary64 (fin s (suc m) e)) → Units (in_units (suc m) e)
in_units_lem s m e t =
    let p = place (suc m) e (fine s m e t) in
    record {
      n = suc m;
      j = p.0;
      n_lt = short s m e t;
      is = p.1;
      fine =
          subst (λ (x : ℕ). x < 2 ^ 2098) (sym p.1)
          (lt_of_mul-lt-mul_right (down e) (subst (λ (x : ℕ). x < 2 ^ 2098 * down e) p.2 (lt_of_lt_of_le (mul-lt-mul_of_pos_right (small s m e t) (pow_pos 1074)) (le_of_eq (shift (down e))))));
    }
  where
    shift : (x : ℕ) → 2 ^ 1024 * x * 2 ^ 1074 ≡ 2 ^ 2098 * x
    shift x = mul_assoc (2 ^ 1024) x (2 ^ 1074) ∙ ap (λ (y : ℕ). 2 ^ 1024 * y) (mul_comm x (2 ^ 1074)) ∙ sym (mul_assoc (2 ^ 1024) (2 ^ 1074) x)

pub none : Units 0
none = record { n = 0; j = 0; n_lt = pow_pos 53; is = refl; fine = pow_pos 2098 }

pub zero_units : (e : ℤ) → in_units 0 e ≡ 0
zero_units e = ap (λ (x : ℕ). x / down e) (ap (λ (x : ℕ). x * 2 ^ 1074) (zero-mul (up e)) ∙ zero-mul (2 ^ 1074)) ∙ zero-div (down e)

pub units_of_lem : (y : Float) → T (fits binary64 y) → T (finite y) → Units (units_of y)
units_of_lem nan t f = absurd f
units_of_lem (inf s) t f = absurd f
units_of_lem (fin s zero e) t f = subst Units (sym (zero_units e)) none
units_of_lem (fin s (suc m) e) t f = in_units_lem s m e t

-- a number has just its units
pub own_units : (s : Bool) (m : ℕ) (e : ℤ) → T (fits binary64 (fin s (suc m) e)) → HasValue (fin s (suc m) e) s (units_of (fin s (suc m) e)) (2 ^ 1074)
own_units s m e t = let q = place (suc m) e (fine s m e t) in (refl, q.2 ∙ ap (λ (z : ℕ). z * down e) (sym q.1))

pub value_units : (y : Float) (b : Bool) (n : ℕ) → HasValue y b n (2 ^ 1074) → units_of y ≡ n
value_units nan b n v = absurd v
value_units (inf s) b n v = absurd v
value_units (fin s m e) b n v = ap (λ (x : ℕ). x / down e) v.1 ∙ mul-div_cancel n (down_pos e)

-- ---- from 2 ^ 52 * 2 ^ k units on every value is a multiple of 2 ^ k units
pub on_grid : (u k : ℕ) → Units u → 2 ^ 52 * 2 ^ k ≤ u → (z : ℕ) × (u ≡ z * 2 ^ k)
on_grid u k w h = (
  w.n * 2 ^ (w.j - k),
  w.is ∙ ap (λ (x : ℕ). w.n * x) (ap (λ (x : ℕ). 2 ^ x) (back w.j k up_to) ∙ pow-add 2 (w.j - k) k) ∙ sym (mul_assoc w.n (2 ^ (w.j - k)) (2 ^ k)),
)
  where
    reach : w.j < k → 53 + w.j ≤ 52 + k
    reach g = omega arith

    up_to : k ≤ w.j
    up_to = le_of_suc-le-suc (lt_of_not-le (λ (g : suc w.j ≤ k). not-le_of_lt
        (lt_of_le_of_lt (le_of_eq w.is) (lt_of_lt_of_le (shl_lt 53 w.j w.n_lt) (le_trans (pow_mono (reach g)) (le_of_eq (pow-add 2 52 k))))) h))

    back : (j k : ℕ) → k ≤ j → j ≡ j - k + k
    back j k g = omega arith
