-- The square root of a binary64 value, and what it is to be the nearest value to a root
-- (01-scope.md, Modules 2; IEEE 754-2019, 4.3.1, 5.4.1, 6.3 and 7.2).
-- Definitions only.
use Rattle.std.specs.Prelude.{ℕ, zero, suc, ◌+◌, ◌-◌, ◌*◌, ◌/◌, ◌^◌, ◌≤◌, ◌<◌, Bool, true, false, cond, ℤ, pos, T, leb, Float}
use Rattle.std.specs.Float.{nan, inf, fin, binary64}
use Rattle.std.specs.Float.Ieee.{up, down, size, round, fits, le}
use Rattle.std.specs.Float.Ieee.Scale.{finite}

-- ---- whole numbers

-- the root of an n below 4 ^ d, cut to a whole number: twice the root of n / 4, or one more where
-- the square of that is still no more than n
unfoldable pub root_in : ℕ → ℕ → ℕ
root_in zero n = 0
root_in (suc d) n = let r = 2 * root_in d (n / 4) in cond (leb (suc r * suc r) n) (suc r) r

-- the root of n, cut to a whole number
unfoldable pub whole_root : ℕ → ℕ
unfolding root_in size
whole_root n = root_in (size n) n

-- ---- values

-- The unit is 2 ^ -1074, the least value above zero of binary64. Every finite value of binary64 is
-- a whole number of units, and m * 2 ^ e is this many.
abbrev pub in_units : ℕ → ℤ → ℕ
in_units m e = m * up e * 2 ^ 1074 / down e

-- The root of x. A NaN and what is below zero, the infinity there too, give NaN; the infinity above
-- gives itself, and so do +0 and -0.
-- Where x is n units above zero, its root is the root of n * 2 ^ 1074 units. That is cut to whole
-- units and then rounded; cutting changes nothing, since the root has 538 binary digits or more
-- before the point and 53 are kept (`root_nearest` in proofs/Nearest.antt).
unfoldable pub root_of : Float → Float
unfolding whole_root round
root_of nan = nan
root_of (inf false) = inf false
root_of (inf true) = nan
root_of (fin s zero e) = fin s zero e
root_of (fin true (suc m) e) = nan
root_of (fin false (suc m) e) = round binary64 false (whole_root (in_units (suc m) e * 2 ^ 1074)) (2 ^ 1074)

-- ---- what is nearest

-- How many units y is away from zero. A NaN counts as none. An infinity counts as 2 ^ 1024, where
-- the value after the greatest would be: so IEEE 754-2019 rounds to it (4.3.1).
abbrev pub units_of : Float → ℕ
units_of nan = 0
units_of (inf s) = 2 ^ 1024 * 2 ^ 1074
units_of (fin s m e) = in_units m e

-- whether y has a minus sign
abbrev pub is_minus : Float → Bool
is_minus nan = false
is_minus (inf s) = s
is_minus (fin s m e) = s

abbrev pub plus_zero : Float
plus_zero = fin false 0 (pos 0)

-- Of all values of binary64, the infinities and those below zero among them, r is the nearest to
-- the root of x, and no other is as near, but for the sign of a zero: `root_of` says which comes.
-- It is a number, not below zero and below 2 ^ 513.
-- Where x is X units its root is the root of X * 2 ^ 1074 units. For each other value, of Y units,
-- the middle between it and r lies beyond the root: (R + Y) / 2 units, or (R - Y) / 2 where the
-- value is below zero; where Y is above R that middle is below zero, and no root is.
-- Both sides are doubled and squared, so that only whole numbers are compared.
pub record NearestRoot (x r : Float) : Type 0 where
  pub held : T (fits binary64 r)
  pub number : T (finite r)
  pub not_below_lem : T (le plus_zero r)
  pub small : units_of r < 2 ^ 513 * 2 ^ 1074
  pub above : (y : Float) → T (fits binary64 y) → units_of r < units_of y → 4 * (units_of x * 2 ^ 1074) < (units_of r + units_of y) * (units_of r + units_of y)
  pub below : (y : Float) → T (fits binary64 y) → units_of y < units_of r → (units_of r + units_of y) * (units_of r + units_of y) < 4 * (units_of x * 2 ^ 1074)
  pub minus : (y : Float) → T (fits binary64 y) → T (is_minus y) → 0 < units_of y → units_of y ≤ units_of r → (units_of r - units_of y) * (units_of r - units_of y) < 4 * (units_of x * 2 ^ 1074)
