-- The larger of two beside the Rust's: they part only where the second is a NaN (request 2).
-- Proved in proofs/Order, `larger_told`.
use Rattle.std.specs.Prelude.{◌≡◌, false, cond, Float}
use Rattle.std.specs.Float.{nan}
use Rattle.std.specs.Float.Ieee.{lt}
use Rattle.fmath.specs.Rank.{Number}
use Rattle.fmath.specs.Float.{min_of, max_of, clamp_of}

-- fmath.rs, max, as it is there: a where a > b, and otherwise b, so that a NaN as b wins
unfoldable pub rust_max : Float → Float → Float
rust_max a b = cond (lt b a) a b

-- fmath.rs, clamp, over that max
unfoldable pub rust_clamp : Float → Float → Float → Float
rust_clamp x lo hi = rust_max lo (min_of x hi)

-- ---- the claim, of all values

pub record LargerTold : Type 0 where
  -- a NaN changes nothing, on either side; so of two NaNs the larger is one
  pub ignores_second : (a : Float) → max_of a nan ≡ a
  pub ignores_first : (b : Float) → max_of nan b ≡ b
  -- otherwise it is the Rust's, of equal ones and of the zeros too
  pub otherwise : (a b : Float) → Number b → max_of a b ≡ rust_max a b
  -- clamp is the Rust's wherever the upper end is a number
  pub clamp : (x lo hi : Float) → Number hi → clamp_of x lo hi ≡ rust_clamp x lo hi
  -- neither of the two is greater
  pub first_below : (a b : Float) → lt (max_of a b) a ≡ false
  pub second_below : (a b : Float) → lt (max_of a b) b ≡ false
  -- in a row it does not matter which two are compared first
  pub associative : (a b c : Float) → max_of (max_of a b) c ≡ max_of a (max_of b c)
