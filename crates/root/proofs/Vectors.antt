-- Roots that antt computes from the definition, by bit patterns. Assumes nothing.
use mathlib.Core.Path.{◌≡◌, refl}
use mathlib.Core.Bool.{true, false}
use lib.Ieee.{nan, inf, binary64, of_bits}
use Rattle.root.specs.Root.{root_of}

-- 2.25 gives 1.5
pub root_of_2_25 : root_of (of_bits binary64 0x4002_0000_0000_0000) ≡ of_bits binary64 0x3ff8_0000_0000_0000
unfolding root_of of_bits
root_of_2_25 = refl

-- 2.0
pub root_of_two : root_of (of_bits binary64 0x4000_0000_0000_0000) ≡ of_bits binary64 0x3ff6_a09e_667f_3bcd
unfolding root_of of_bits
root_of_two = refl

-- 5e-324, the least value above zero: 2 ^ -1074 gives 2 ^ -537
pub root_of_least : root_of (of_bits binary64 1) ≡ of_bits binary64 0x1e60_0000_0000_0000
unfolding root_of of_bits
root_of_least = refl

-- the largest subnormal number
pub root_of_subnormal : root_of (of_bits binary64 0x000f_ffff_ffff_ffff) ≡ of_bits binary64 0x1fff_ffff_ffff_ffff
unfolding root_of of_bits
root_of_subnormal = refl

-- the largest finite value
pub root_of_largest : root_of (of_bits binary64 0x7fef_ffff_ffff_ffff) ≡ of_bits binary64 0x5fef_ffff_ffff_ffff
unfolding root_of of_bits
root_of_largest = refl

-- the next value above 1: its root is just below the middle between 1 and that value, and goes down
-- to 1
pub root_above_one : root_of (of_bits binary64 0x3ff0_0000_0000_0001) ≡ of_bits binary64 0x3ff0_0000_0000_0000
unfolding root_of of_bits
root_above_one = refl

-- the next value below 1: its root is just below the middle between that value and 1, and goes down
-- to that value
pub root_below_one : root_of (of_bits binary64 0x3fef_ffff_ffff_ffff) ≡ of_bits binary64 0x3fef_ffff_ffff_ffff
unfolding root_of of_bits
root_below_one = refl

-- -0, the infinities, and -1
pub root_of_minus_zero : root_of (of_bits binary64 0x8000_0000_0000_0000) ≡ of_bits binary64 0x8000_0000_0000_0000
unfolding root_of of_bits
root_of_minus_zero = refl

pub root_of_infinity : root_of (inf false) ≡ inf false
unfolding root_of
root_of_infinity = refl

pub root_of_minus_infinity : root_of (inf true) ≡ nan
unfolding root_of
root_of_minus_infinity = refl

pub root_of_minus_one : root_of (of_bits binary64 0xbff0_0000_0000_0000) ≡ nan
unfolding root_of of_bits
root_of_minus_one = refl
