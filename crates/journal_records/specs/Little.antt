-- Numbers in little-endian order (01-scope.md, Journal), defined for any list and any place:
-- a byte past the end of the list counts as 0.
use Rattle.std.specs.Prelude.{ℕ, zero, suc, ◌+◌, ◌*◌, Bool, List, [], ◌∷◌, eqb, get_or, Float}
use Rattle.std.specs.Float.{binary64}
use Rattle.std.specs.Float.Ieee.{of_bits}

abbrev pub byte_at : List ℕ → ℕ → ℕ
byte_at s at = get_or s at 0

-- a flag is 0 or 1; any other number is refused before
abbrev pub flag : ℕ → Bool
flag n = eqb n 1

-- the w bytes of s from place at on, the lowest first
unfoldable pub le_at : List ℕ → ℕ → ℕ → ℕ
le_at s at zero = 0
le_at s at (suc w) = byte_at s at + 256 * le_at s (suc at) w

-- 8 bytes of binary64; every pattern of a NaN gives the one NaN
unfoldable pub float_at : List ℕ → ℕ → Float
float_at s at = of_bits binary64 (le_at s at 8)

-- n floats, one after the other
unfoldable pub floats_at : List ℕ → ℕ → ℕ → List Float
floats_at s at zero = []
floats_at s at (suc n) = float_at s at ∷ floats_at s (at + 8) n
