-- A float's bit pattern in the other format (02-change-requests.md, Ask 9: widening keeps every
-- number, narrowing refuses a number that binary32 cannot hold exactly). The toolchain's library has
-- one type of values for both formats, so "the same value" is `≡` on it, the sign of a zero and the
-- infinities with it; it has one `nan`, for which `to_bits` writes 7FC00000 and 7FF8000000000000.
use Rattle.std.specs.Prelude.{cond, ℕ, Float, Option, Some, None}
use Rattle.std.specs.Float.{binary32, binary64}
use Rattle.std.specs.Float.Ieee.{of_bits, to_bits, fits}

-- the pattern of binary64 with the value of a pattern of binary32
abbrev pub widen_of : ℕ → ℕ
widen_of n = to_bits binary64 (of_bits binary32 n)

-- the pattern of x in binary32, where binary32 holds x
abbrev pub narrowed : Float → Option ℕ
narrowed x = cond (fits binary32 x) (Some (to_bits binary32 x)) None

-- that of a pattern of binary64
abbrev pub narrow_of : ℕ → Option ℕ
narrow_of w = narrowed (of_bits binary64 w)
