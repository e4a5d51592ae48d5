-- What the steps of `sqrt` promise each other. Definitions only.
-- It joins the code of `sqrt` to specs/Root, and states nothing of the papers.
use Rattle.std.specs.Prelude.{◌≡◌, ℕ, ◌+◌, ◌*◌, ◌^◌, ◌≤◌, ◌<◌, false, not, T}
use Rattle.std.specs.Float.{binary64}
use Rattle.std.specs.Float.Ieee.{round, of_bits, nan_bits}
use Rattle.root.specs.Root.{whole_root}

-- m is t moved up by k places, and its top bit is bit 52
pub record Normed (t m k : ℕ) : Type 0 where
  pub is : m ≡ t * 2 ^ k
  pub low : 2 ^ 52 ≤ m
  pub high : m < 2 ^ 53
  pub few : k ≤ 52

-- g is the whole number nearest to the root of n: n lies between the squares of g - 1 / 2 and g + 1
-- / 2, which are g * g - g + 1 / 4 and g * g + g + 1 / 4
pub record NearRoot (n g : ℕ) : Type 0 where
  pub low : g * g < n + g
  pub high : n ≤ g * g + g

-- b is the pattern of the root of m * 2 ^ (e - 2148), which in units of 2 ^ -1074 is the root of m
-- * 2 ^ e
pub record RootBits (m e b : ℕ) : Type 0 where
  pub fine : T (not (nan_bits binary64 b))
  pub is : of_bits binary64 b ≡ round binary64 false (whole_root (m * 2 ^ e)) (2 ^ 1074)
