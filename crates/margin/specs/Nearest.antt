-- The rounding of the margin over whole numbers (02-change-requests.md, Ask 5), beside the
-- definition that the code promises (specs/Margin).
use Rattle.std.specs.Prelude.{ℕ, ◌+◌, ◌-◌, ◌*◌, ◌%◌, ◌≤◌, Bool, ◌≡◌, ℤ, nat_abs}
use Rattle.std.specs.Float.{fin}
use Rattle.std.specs.Float.Ieee.{up, down}
use Rattle.margin.specs.declared.Margin.TheVariants.{Millis}
use Rattle.margin.specs.Margin.{signed, margin_of}

-- how far two numbers are from each other: one of the differences is 0
abbrev pub apart : ℕ → ℕ → ℕ
apart a b = a - b + (b - a)

-- n is at most a half from num / den, and where it is just a half, n is even
pub record Nearest (num den n : ℕ) : Type 0 where
  pub within : 2 * apart num (n * den) ≤ den
  pub even : 2 * apart num (n * den) ≡ den → n % 2 ≡ 0

-- z is printed of a margin of num / den metres, less than zero where `minus`: it has the sign, its
-- size is the nearest number of millimetres and the only one, and it has six digits at most
pub record PrintedAs (minus : Bool) (num den : ℕ) (z : ℤ) : Type 0 where
  pub sign : z ≡ signed minus (nat_abs z)
  pub nearest : Nearest (num * 1000) den (nat_abs z)
  pub only : (n : ℕ) → Nearest (num * 1000) den n → n ≡ nat_abs z
  pub in_range : nat_abs z ≤ 999999

-- ---- the claim

-- of every finite margin, m * 2 ^ e metres, that prints a number: proved in proofs/Nearest
abbrev pub PrintedNearest : Type 0
PrintedNearest = (s : Bool) (m : ℕ) (e z : ℤ) → margin_of (fin s m e) ≡ Millis z → PrintedAs s (m * up e) (down e) z
