-- Patterns that are computed from the definitions: the edges of binary32, and doubles next to them.
-- A row is the pattern of binary32 and that of binary64.
use mathlib.Core.Path.{◌≡◌, refl}
use mathlib.Core.Bool.{Bool, true, false, ◌&&◌}
use mathlib.Core.List.{List, [], ◌∷◌}
use Prim.Native.Nat.{ℕ}
use lib.Dec.{eqb}
use lib.Ieee.{of_bits, to_bits, fits}
use Rattle.std.proofs.Common.{Option, Some, None}
use Rattle.binary32.specs.Patterns.{widen_of, narrow_of}

infix 70 ◌and◌
data Row : Type 0 where
  ◌and◌ : ℕ → ℕ → Row

is_held : ℕ → Option ℕ → Bool
is_held n (Some k) = eqb k n
is_held n None = false

is_refused : Option ℕ → Bool
is_refused (Some k) = false
is_refused None = true

-- each way
both : List Row → Bool
both [] = true
both (n and w ∷ rows) = eqb (widen_of n) w && is_held n (narrow_of w) && both rows

-- to the quiet NaN
all_widen : List ℕ → Bool
all_widen [] = true
all_widen (n ∷ ns) = eqb (widen_of n) 0x7ff8_0000_0000_0000 && all_widen ns

all_narrow : List ℕ → Bool
all_narrow [] = true
all_narrow (w ∷ ws) = is_held 0x7fc0_0000 (narrow_of w) && all_narrow ws

none_held : List ℕ → Bool
none_held [] = true
none_held (w ∷ ws) = is_refused (narrow_of w) && none_held ws

-- zeros, the least number, subnormal numbers, the least normal one and the next, 1, the nearest to
-- 0.1, the largest, the infinities
edges : both (
    0x0000_0000 and 0x0000_0000_0000_0000 ∷ 0x8000_0000 and 0x8000_0000_0000_0000
    ∷ 0x0000_0001 and 0x36a0_0000_0000_0000 ∷ 0x8000_0001 and 0xb6a0_0000_0000_0000
    ∷ 0x0040_0000 and 0x3800_0000_0000_0000 ∷ 0x007f_ffff and 0x380f_ffff_c000_0000
    ∷ 0x0080_0000 and 0x3810_0000_0000_0000 ∷ 0x0080_0001 and 0x3810_0000_2000_0000
    ∷ 0x3f80_0000 and 0x3ff0_0000_0000_0000 ∷ 0x3dcc_cccd and 0x3fb9_9999_a000_0000
    ∷ 0x7f7f_ffff and 0x47ef_ffff_e000_0000 ∷ 0xff7f_ffff and 0xc7ef_ffff_e000_0000
    ∷ 0x7f80_0000 and 0x7ff0_0000_0000_0000 ∷ 0xff80_0000 and 0xfff0_0000_0000_0000
    ∷ []) ≡ true
unfolding both is_held of_bits to_bits fits
edges = refl

nans_widened : all_widen (0x7f80_0001 ∷ 0x7fc0_0000 ∷ 0xffc0_0000 ∷ 0xffff_ffff ∷ 0x7fff_ffff ∷ []) ≡ true
unfolding all_widen of_bits to_bits
nans_widened = refl

nans_narrowed : all_narrow (
    0x7ff0_0000_0000_0001 ∷ 0x7ff8_0000_0000_0000 ∷ 0xfff8_0000_0000_0000
    ∷ 0xffff_ffff_ffff_ffff ∷ 0x7fff_ffff_ffff_ffff ∷ 0xfff0_0000_0000_0001
    ∷ []) ≡ true
unfolding all_narrow is_held of_bits to_bits fits
nans_narrowed = refl

-- 2 ^ -150, 0.1, just below and just above the least number of binary32, 1.5 * 2 ^ -149; above its
-- largest subnormal number, below its least normal one and above it; above its largest number;
-- 2 ^ 128; the largest double, the least ones, the largest subnormal one; above 1; 1 + 2 ^ -24
refused : none_held (
    0x3690_0000_0000_0000 ∷ 0x3fb9_9999_9999_999a ∷ 0x369f_ffff_ffff_ffff ∷ 0x36a0_0000_0000_0001
    ∷ 0x36a8_0000_0000_0000 ∷ 0x380f_ffff_c000_0001 ∷ 0x380f_ffff_ffff_ffff ∷ 0x3810_0000_0000_0001
    ∷ 0x47ef_ffff_e000_0001 ∷ 0xc7ef_ffff_e000_0001 ∷ 0x47f0_0000_0000_0000 ∷ 0x7fef_ffff_ffff_ffff
    ∷ 0x0000_0000_0000_0001 ∷ 0x8000_0000_0000_0001 ∷ 0x000f_ffff_ffff_ffff ∷ 0x3ff0_0000_0000_0001
    ∷ 0x3ff0_0000_1000_0000
    ∷ []) ≡ true
unfolding none_held is_refused of_bits to_bits fits
refused = refl
