-- What `guess` answers: of the patterns of binary32 without sign that are no NaN's, the only one
-- that can have the value of b. It joins the code to `narrow_of`, and states nothing of the papers.
use Rattle.std.specs.Prelude.{◌≡◌, ℕ, ◌+◌, ◌-◌, ◌*◌, ◌^◌, ◌≤◌, ◌<◌}

-- b is the pattern of binary64 for the pattern m of binary32, both without sign and no NaN's: 0;
-- below the normal numbers of binary32, with z digits; normal; the infinity
pub data Wide (m b : ℕ) : Type 0 where
  nought : m ≡ 0 → b ≡ 0 → Wide m b
  few : (z g : ℕ) → 0 < z → z ≤ 23 → g ≡ m * 2 ^ (53 - z) → 2 ^ 52 ≤ g → g < 2 ^ 53
      → b ≡ (872 + z) * 2 ^ 52 + g → Wide m b
  normal : 2 ^ 23 ≤ m → m < 0x7f80_0000 → b ≡ (m + 896 * 2 ^ 23) * 2 ^ 29 → Wide m b
  infinite : m ≡ 0x7f80_0000 → b ≡ 0x7ff0_0000_0000_0000 → Wide m b

-- r is the m, if there is one
abbrev pub Guessed : ℕ → ℕ → Type 0
Guessed b r = (r ≤ 0x7f80_0000) × ((m : ℕ) → Wide m b → r ≡ m)
