-- Numbers as whole numbers at a common scale, by which `lt` is `<` (proofs/Rank). Definitions only.
use Rattle.std.specs.Prelude.{ℕ, suc, ◌+◌, ◌-◌, ◌*◌, ◌^◌, ◌≤◌, Bool, not, cond, T, ℤ, pos, negsuc, Float}
use Rattle.std.specs.Float.{nan, inf, fin}
use Rattle.std.specs.Float.Ieee.{is_nan}

-- no NaN: a finite number or an infinity
abbrev pub Number : Float → Type 0
Number x = T (not (is_nan x))

-- how many of 2 ^ -k there are in 2 ^ e, for a scale that is fine enough for e
unfoldable pub units_in : ℕ → ℤ → ℕ
units_in k (pos e) = 2 ^ (e + k)
units_in k (negsuc j) = 2 ^ (k - suc j)

-- the scales that are fine enough for x: from this k on
unfoldable pub depth : Float → ℕ
depth nan = 0
depth (inf s) = 0
depth (fin s m (pos e)) = 0
depth (fin s m (negsuc j)) = suc j

-- how many of 2 ^ -k the magnitude of a finite x is
unfoldable pub size_at : ℕ → Float → ℕ
unfolding units_in
size_at k nan = 0
size_at k (inf s) = 0
size_at k (fin s m e) = m * units_in k e

-- a whole number with a sign among those from -b to b, counted from 1: both zeros are b + 1
abbrev pub signed_from : ℕ → Bool → ℕ → ℕ
signed_from b s n = cond s (suc b - n) (suc b + n)

-- the place of x in the order of all numbers, where no finite one is above b of 2 ^ -k:
-- the infinities are the ends
unfoldable pub rank : ℕ → ℕ → Float → ℕ
unfolding size_at
rank k b nan = 0
rank k b (inf s) = cond s 0 (b + b + 2)
rank k b (fin s m e) = signed_from b s (size_at k (fin s m e))

-- x is a number for which the scale 2 ^ -k is fine enough and the bound b is wide enough
pub record Covers (k b : ℕ) (x : Float) : Type 0 where
  pub number : Number x
  pub fine : depth x ≤ k
  pub wide : size_at k x ≤ b

-- ---- one scale for all of binary64: its smallest value is 2 ^ -1074, and every finite one is
-- below 2 ^ 1024
abbrev pub rank_of : Float → ℕ
rank_of x = rank 1074 (2 ^ 2098) x
