-- The helpers of fmath.rs on binary64 values (01-scope.md, Modules 2). Definitions only.
use Rattle.std.specs.Prelude.{ℕ, Bool, true, cond, ◌&&◌, List, [], ◌∷◌, take, Float}
use Rattle.std.specs.Float.{binary64}
use Rattle.std.specs.Float.Ieee.{add, mul, lt, is_nan}
use Rattle.std.specs.Float.Ieee.Scale.{finite}
use Rattle.fmath.specs.Root.{root_of, plus_zero}

-- fmath.rs, min: a where a < b, and otherwise b, also where one of them is a NaN
unfoldable pub min_of : Float → Float → Float
min_of a b = cond (lt a b) a b

-- the larger of two, which ignores a NaN (request 2): a where b is a NaN or less, and otherwise b,
-- so that of two NaNs it is a NaN, and of equal ones the second; fmath.rs, max, has b where it is a
-- NaN
unfoldable pub max_of : Float → Float → Float
max_of a b = cond (is_nan b) a (cond (lt b a) a b)

-- fmath.rs, clamp
unfoldable pub clamp_of : Float → Float → Float → Float
clamp_of x lo hi = max_of lo (min_of x hi)

-- fmath.rs, all_finite: no element is a NaN or an infinity
unfoldable pub all_finite : List Float → Bool
all_finite [] = true
all_finite (x ∷ xs) = finite x && all_finite xs

-- s with the squares of the elements added to it, the first element's first, each square and each
-- sum rounded
unfoldable pub add_squares : Float → List Float → Float
add_squares s [] = s
add_squares s (x ∷ xs) = add_squares (add binary64 s (mul binary64 x x)) xs

-- fmath.rs, norm: the root of the sum of the squares of the first n components, from +0. There are
-- fewer where v is shorter; there fmath.rs stops with an index out of range.
unfoldable pub norm_of : List Float → ℕ → Float
norm_of v n = root_of (add_squares plus_zero (take n v))
