-- THEOREM `root_nearest`: for each finite x of binary64 that is not below zero, `root_of x` is the
-- nearest value to the root of x, and no other is as near.
-- Assumes nothing.
use mathlib.Core.Path.{◌≡◌, refl, sym, ap, ◌∙◌, subst}
use mathlib.Core.Logic.{◌⊎◌, inl, inr}
use Prim.Native.Nat.{ℕ, zero, suc, ◌+◌, ◌-◌, ◌*◌, ◌^◌, ◌≤◌, ◌<◌}
use native.Mathlib.Nat.{lt_of_not-le, not-le_of_lt, lt_irrefl, lt_trans, add-zero, le_trans, le_of_eq, le_of_lt, lt_of_lt_of_le, lt_of_le_of_lt, eq-zero-or-pos, mul_assoc, mul-le-mul, mul-le-mul_right, lt_of_mul-lt-mul_right, mul-pos, zero-mul}
use native.Mathlib.Omega.{arith}
use mathlib.Core.Bool.{Bool, true, false, not}
use lib.Dec.{T, ltb, eqb, eqb→eq, leb→le, ltb→lt, lt→ltb, nltb→le}
use lib.IntN.{ℤ}
use lib.Pow.{pow-add, pow_pos, pow_mono, shl_lt}
use lib.Ieee.{Float, nan, inf, fin, binary64, up, down, size, odd, round, fits, le}
use lib.Ieee.Digits.{size-lt, size-le, size_reaches}
use lib.Ieee.Exact.{HasValue, odd_sign}
use lib.Ieee.Fits.{up_pos, and_l, round-fits}
use lib.Ieee.Order.{le_of_values}
use lib.Ieee.Positive.{positive, positive_of_value, positive-finite, value_pos}
use lib.Ieee.Scale.{finite}
use Rattle.root.specs.Root.{root_of, whole_root, units_of, plus_zero, NearestRoot}
use Rattle.root.specs.Steps.{NearRoot}
use Rattle.root.proofs.Squares.{root_lt, square_lt, some_near}
use Rattle.root.proofs.Rounded.{rounded, g_ge}
use Rattle.root.proofs.Whole.{Window, window, root_at}
use Rattle.root.proofs.Units.{Units, none, units_of_lem, own_units, value_units, zero_units, on_grid}

lt_or_le : (x y : ℕ) → (x < y) ⊎ (y ≤ x)
lt_or_le x y = go (ltb x y) (ltb→lt x y) (nltb→le x y)
  where
    go : (b : Bool) → (T b → x < y) → (T (not b) → y ≤ x) → (x < y) ⊎ (y ≤ x)
    go true f g = inl (f tt)
    go false f g = inr (g tt)

half_below : (n g P m : ℕ) → 0 < P → g * g < n + g → m + P ≤ 2 * g * P → m * m < 4 * (n * (P * P))
half_below n zero P m p h k = absurd (omega arith)
half_below n (suc j) P m p h k =
    let a : m ≤ (2 * j + 1) * P = omega arith in
    let b : j * j + j + 1 ≤ n = omega arith in
    omega (arith, mul-le-mul a a, mul-le-mul_right (P * P) b, mul-pos p p)

four : (q : ℕ) → q < 2 ^ 3172 → 4 * q < 2 ^ 1587 * 2 ^ 1587
four q h = lt_of_lt_of_le (quadruple q (2 ^ 3172) h) (leb→le (4 * 2 ^ 3172) (2 ^ 1587 * 2 ^ 1587) tt)
  where
    quadruple : (q p : ℕ) → q < p → 4 * q < 4 * p
    quadruple q p h = omega arith

wide : (R Y : ℕ) → Y * Y ≤ (R + Y) * (R + Y)
wide R Y = let h : Y ≤ R + Y = omega arith in mul-le-mul h h

less : (R Y : ℕ) → (R - Y) * (R - Y) ≤ R * R
less R Y = let h : R - Y ≤ R = omega arith in mul-le-mul h h

-- ---- g * 2 ^ k units, where g is nearest to the root of n, against any other value of u units; 2
-- ^ k is P
module _ (n g k : ℕ) (above : 2 ^ 104 ≤ n) (below : n + 2 ^ 53 ≤ 2 ^ 106) (lo : 56 ≤ k) (hi : k ≤ 2045) (near : NearRoot n g) where
  abbrev P : ℕ
  P = 2 ^ k

  P_pos : 0 < P
  P_pos = pow_pos k

  -- a value above is (g + 1) * P at least, and n is below the square of g + 1 / 2
  beyond : (u : ℕ) → Units u → g * P < u → 4 * (n * (P * P)) < (g * P + u) * (g * P + u)
  beyond u w l =
      let z = on_grid u k w (le_trans (mul-le-mul_right P (g_ge n g k above below lo hi near)) (le_of_lt l)) in
      let more : g < z.0 = lt_of_mul-lt-mul_right P (subst (λ (x : ℕ). g * P < x) z.1 l) in
      let far : (2 * g + 1) * P ≤ g * P + u = omega (arith, z.1, mul-le-mul_right P more) in
      omega (arith, mul-le-mul far far, mul-le-mul_right (P * P) near.high, mul-pos P_pos P_pos)

  -- a value below, where n is at least the square of g: that it is below g * P is enough
  under_low : g * g ≤ n → (u : ℕ) → u < g * P → (g * P + u) * (g * P + u) < 4 * (n * (P * P))
  under_low h u l =
      let s : g * P + u < 2 * g * P = omega arith in
      omega (arith, square_lt s, mul-le-mul_right (P * P) h)

  -- and where n is below the square of g: then g is above 2 ^ 52, so that the value is (g - 1) * P
  -- at most, and n is above the square of g - 1 / 2
  under_high : n < g * g → (u : ℕ) → Units u → u < g * P → (g * P + u) * (g * P + u) < 4 * (n * (P * P))
  under_high h u w l = half_below n g P (g * P + u) P_pos near.low (omega (arith, one_down))
    where
      big : 2 ^ 52 < g
      big = root_lt {x = 2 ^ 52} {y = g} (lt_of_le_of_lt above h)

      low_down : u < 2 ^ 52 * P → u + P ≤ g * P
      low_down f = omega (arith, mul-le-mul_right P big)

      grid_down : 2 ^ 52 * P ≤ u → u + P ≤ g * P
      grid_down f =
          let z = on_grid u k w f in
          let less : z.0 < g = lt_of_mul-lt-mul_right P (subst (λ (x : ℕ). x < g * P) z.1 l) in
          omega (arith, z.1, mul-le-mul_right P less)

      one_down : u + P ≤ g * P
      one_down = elim (lt_or_le u (2 ^ 52 * P)) [ inl f ↦ low_down f | inr f ↦ grid_down f ]

  beneath : (u : ℕ) → Units u → u < g * P → (g * P + u) * (g * P + u) < 4 * (n * (P * P))
  beneath u w l = elim (lt_or_le n (g * g)) [ inl h ↦ under_high h u w l | inr h ↦ under_low h u l ]

  -- no value at all is nearer than zero, so that g * P is below twice the root
  over_zero : g * P * (g * P) < 4 * (n * (P * P))
  over_zero = subst (λ (z : ℕ). z * z < 4 * (n * (P * P))) (add-zero (g * P)) (beneath 0 none (mul-pos (lt_of_lt_of_le (pow_pos 52) (g_ge n g k above below lo hi near)) P_pos))

-- ---- every number of units above zero, in the form m * 2 ^ e with an m whose top bit is bit 52
pow_lt_back : (a l : ℕ) → 2 ^ a < 2 ^ l → a < l
pow_lt_back a l h = lt_of_not-le (λ (g : l ≤ a). lt_irrefl (2 ^ a) (lt_of_lt_of_le h (pow_mono g)))

module _ (u : ℕ) (w : Units u) (p : 0 < u) where
  n_pos : 0 < w.n
  n_pos = elim (eq-zero-or-pos w.n) [ inl z ↦ absurd (lt_irrefl 0 (subst (λ (x : ℕ). 0 < x) (w.is ∙ ap (λ (x : ℕ). x * 2 ^ w.j) z ∙ zero-mul (2 ^ w.j)) p)) | inr h ↦ h ]

  abbrev z : ℕ
  z = size w.n

  z_le : z ≤ 53
  z_le = size-le w.n 53 w.n_lt

  z_pos : 0 < z
  z_pos = elim (eq-zero-or-pos (size w.n)) [ inl e ↦ absurd (not-le_of_lt (subst (λ (x : ℕ). w.n < 2 ^ x) e (size-lt w.n)) n_pos) | inr h ↦ h ]

  abbrev m : ℕ
  m = w.n * 2 ^ (53 - z)

  abbrev e : ℕ
  e = w.j + 1074 - (53 - z)

  m_lt : m < 2 ^ 53
  m_lt = lt_of_lt_of_le (shl_lt z (53 - z) (size-lt w.n)) (le_of_eq (ap (λ (x : ℕ). 2 ^ x) all))
    where
      all : z + (53 - z) ≡ 53
      all = omega (arith, z_le)

  m_ge : 2 ^ 52 ≤ m
  m_ge = le_trans (le_of_eq (ap (λ (x : ℕ). 2 ^ x) (fifty z z_pos z_le) ∙ pow-add 2 (z - 1) (53 - z))) (mul-le-mul_right (2 ^ (53 - z)) (size_reaches w.n (z - 1) (less z z_pos)))
    where
      fifty : (z : ℕ) → 0 < z → z ≤ 53 → 52 ≡ z - 1 + (53 - z)
      fifty z h l = omega arith

      less : (z : ℕ) → 0 < z → z - 1 < z
      less z h = omega arith

  moved : u * 2 ^ 1074 ≡ m * 2 ^ e
  moved =
      ap (λ (x : ℕ). x * 2 ^ 1074) w.is
      ∙ mul_assoc w.n (2 ^ w.j) (2 ^ 1074)
      ∙ ap (λ (x : ℕ). w.n * x) (sym (pow-add 2 w.j 1074) ∙ ap (λ (x : ℕ). 2 ^ x) (split w.j z z_pos) ∙ pow-add 2 (53 - z) e)
      ∙ sym (mul_assoc w.n (2 ^ (53 - z)) (2 ^ e))
    where
      split : (j z : ℕ) → 0 < z → j + 1074 ≡ 53 - z + (j + 1074 - (53 - z))
      split j z h = omega arith

  e_lt : e < 3120
  e_lt = cut e (pow_lt_back (52 + e) 3172 (lt_of_le_of_lt (le_trans (le_of_eq (pow-add 2 52 e)) (le_trans (mul-le-mul_right (2 ^ e) m_ge) (le_of_eq (sym moved)))) (shl_lt 2098 1074 w.fine)))
    where
      cut : (e : ℕ) → 52 + e < 3172 → e < 3120
      cut e h = omega arith

  windowed : Window m e
  windowed = window m e m_ge m_lt (omega (arith, z_pos)) e_lt

-- ---- a value of u units, u above zero
nothing_le : (a b : ℕ) → 0 * a ≤ b
nothing_le a b = omega arith

module _ (x : Float) (u : ℕ) (w : Units u) (p : 0 < u) (v : HasValue x false u (2 ^ 1074)) where
  W : Window (m u w p) (e u w p)
  W = windowed u w p

  -- u * 2 ^ 1074, of which the root is looked for, is n * (P * P) with P = 2 ^ k
  abbrev n : ℕ
  n = W.n

  abbrev k : ℕ
  k = W.k

  square_is : u * 2 ^ 1074 ≡ n * (2 ^ k * 2 ^ k)
  square_is = moved u w p ∙ W.is

  G : (g : ℕ) × NearRoot n g
  G = some_near n (lt_of_lt_of_le (pow_pos 104) W.above)

  rooted : root_of x ≡ round binary64 false (whole_root (u * 2 ^ 1074)) (2 ^ 1074)
  rooted = root_at x u v p

  written : root_of x ≡ odd 53 false G.0 k 1074
  written = rooted ∙ ap (λ (y : ℕ). round binary64 false (whole_root y) (2 ^ 1074)) square_is ∙ rounded n G.0 k W.above W.below W.lo W.hi G.1

  value : HasValue (root_of x) false (G.0 * 2 ^ k) (2 ^ 1074)
  value = subst (λ (y : Float). HasValue y false (G.0 * 2 ^ k) (2 ^ 1074)) (sym written) (odd_sign 53 false G.0 k 1074)

  X-is : units_of x ≡ u
  X-is = value_units x false u v

  R-is : units_of (root_of x) ≡ G.0 * 2 ^ k
  R-is = value_units (root_of x) false (G.0 * 2 ^ k) value

  is_positive : T (positive (root_of x))
  is_positive = positive_of_value (root_of x) (G.0 * 2 ^ k) (2 ^ 1074) value (mul-pos (lt_of_lt_of_le (pow_pos 52) (g_ge n G.0 k W.above W.below W.lo W.hi G.1)) (pow_pos k))

  X-square : 4 * (n * (2 ^ k * 2 ^ k)) ≡ 4 * (units_of x * 2 ^ 1074)
  X-square = ap (λ (y : ℕ). 4 * y) (sym square_is ∙ ap (λ (y : ℕ). y * 2 ^ 1074) (sym X-is))

  abbrev R : ℕ
  R = G.0 * 2 ^ k

  -- every other value, by its units
  abbrev Far : ℕ → Type 0
  Far Y = 4 * (units_of x * 2 ^ 1074) < (R + Y) * (R + Y)

  abbrev Close : ℕ → Type 0
  Close Y = (R + Y) * (R + Y) < 4 * (units_of x * 2 ^ 1074)

  far_of_lem : (Y : ℕ) → Units Y → R < Y → Far Y
  far_of_lem Y z l = subst (λ (q : ℕ). q < (R + Y) * (R + Y)) X-square (beyond n G.0 k W.above W.below W.lo W.hi G.1 Y z l)

  close_of : (Y : ℕ) → Units Y → Y < R → Close Y
  close_of Y z l = subst (λ (q : ℕ). (R + Y) * (R + Y) < q) X-square (beneath n G.0 k W.above W.below W.lo W.hi G.1 Y z l)

  -- twice the root is above r, and below 2 ^ 513
  twice : R * R < 4 * (units_of x * 2 ^ 1074)
  twice = subst (λ (q : ℕ). R * R < q) X-square (over_zero n G.0 k W.above W.below W.lo W.hi G.1)

  room : 4 * (units_of x * 2 ^ 1074) < 2 ^ 1587 * 2 ^ 1587
  room = four (units_of x * 2 ^ 1074) (shl_lt 2098 1074 (subst (λ (y : ℕ). y < 2 ^ 2098) (sym X-is) w.fine))

  low : R < 2 ^ 1587
  low = root_lt {x = R} {y = 2 ^ 1587} (lt_trans twice room)

  far_out : (y : Float) → T (fits binary64 y) → R < units_of y → Far (units_of y)
  far_out nan F l = far_of_lem 0 none l
  far_out (inf s) F l = lt_of_lt_of_le room (le_trans (leb→le (2 ^ 1587 * 2 ^ 1587) (units_of (inf s) * units_of (inf s)) tt) (wide R (units_of (inf s))))
  far_out (fin s m e) F l = far_of_lem (units_of (fin s m e)) (units_of_lem (fin s m e) F tt) l

  close_in : (y : Float) → T (fits binary64 y) → units_of y < R → Close (units_of y)
  close_in nan F l = close_of 0 none l
  close_in (inf s) F l = absurd (lt_irrefl (2 ^ 1587) (lt_of_le_of_lt (leb→le (2 ^ 1587) (units_of (inf s)) tt) (lt_trans l low)))
  close_in (fin s m e) F l = close_of (units_of (fin s m e)) (units_of_lem (fin s m e) F tt) l

  nearest : NearestRoot x (root_of x)
  nearest = record {
    held = subst (λ (y : Float). T (fits binary64 y)) (sym rooted) (round-fits binary64 false (whole_root (u * 2 ^ 1074)) (2 ^ 1074));
    number = positive-finite (root_of x) is_positive;
    not_below_lem = le_of_values plus_zero (root_of x) 0 1 (G.0 * 2 ^ k) (2 ^ 1074) (pow_pos 0) (pow_pos 1074) (refl, refl) value (nothing_le (2 ^ 1074) (G.0 * 2 ^ k * 1));
    small = subst (λ (r : ℕ). r < 2 ^ 1587) (sym R-is) low;
    above = λ y F l. subst (λ (r : ℕ). 4 * (units_of x * 2 ^ 1074) < (r + units_of y) * (r + units_of y)) (sym R-is) (far_out y F (subst (λ (r : ℕ). r < units_of y) R-is l));
    below = λ y F l. subst (λ (r : ℕ). (r + units_of y) * (r + units_of y) < 4 * (units_of x * 2 ^ 1074)) (sym R-is) (close_in y F (subst (λ (r : ℕ). units_of y < r) R-is l));
    minus = λ y F s p l. subst (λ (r : ℕ). (r - units_of y) * (r - units_of y) < 4 * (units_of x * 2 ^ 1074)) (sym R-is) (lt_of_le_of_lt (less R (units_of y)) twice);
  }

-- ---- zero
at_zero : (s : Bool) (t : ℤ) → T (fits binary64 (fin s 0 t)) → T (le plus_zero (fin s 0 t)) → NearestRoot (fin s 0 t) (root_of (fin s 0 t))
unfolding root_of
at_zero s t F h = record {
  held = F;
  number = tt;
  not_below_lem = h;
  small = subst (λ (r : ℕ). r < 2 ^ 1587) (sym (zero_units t)) (pow_pos 1587);
  above = λ y G l. rw (zero_units t) (squares (units_of y) (rw (zero_units t) at l));
  below = λ y G l. absurd (not_under (units_of y) (rw (zero_units t) at l));
  minus = λ y G m p l. absurd (not_both (units_of y) p (rw (zero_units t) at l));
}
  where
    squares : (Y : ℕ) → 0 < Y → 4 * (0 * 2 ^ 1074) < (0 + Y) * (0 + Y)
    squares Y l = omega (arith, mul-pos l l)

    not_under : (Y : ℕ) → Y < 0 → ⊥
    not_under Y l = omega arith

    not_both : (Y : ℕ) → 0 < Y → Y ≤ 0 → ⊥
    not_both Y p l = omega arith

-- ---- below zero
below_zero : (b : ℕ) (t : ℤ) → T (le plus_zero (fin true (suc b) t)) → ⊥
unfolding le
below_zero b t h = unlike (down t) (suc b * up t) (mul-pos (omega arith) (up_pos t)) (eqb→eq (0 * 1 * down t) (suc b * up t * 1) (and_l (eqb (0 * 1 * down t) (suc b * up t * 1)) (eqb (0 * 1 * down t) 0) h))
  where
    unlike : (a c : ℕ) → 0 < c → 0 * 1 * a ≡ c * 1 → ⊥
    unlike a c l q = omega arith

-- ---- the theorem
pub root_nearest : (x : Float) → T (fits binary64 x) → T (finite x) → T (le plus_zero x) → NearestRoot x (root_of x)
root_nearest nan F f h = absurd f
root_nearest (inf s) F f h = absurd f
root_nearest (fin s zero t) F f h = at_zero s t F h
root_nearest (fin true (suc b) t) F f h = absurd (below_zero b t h)
root_nearest (fin false (suc b) t) F f h =
    let v = own_units false b t F in
    nearest (fin false (suc b) t) (units_of (fin false (suc b) t)) (units_of_lem (fin false (suc b) t) F tt) (value_pos (fin false (suc b) t) (units_of (fin false (suc b) t)) (2 ^ 1074) (lt→ltb 0 (suc b) (omega arith)) (pow_pos 1074) v) v
