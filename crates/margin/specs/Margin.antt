-- A margin in metres as whole millimetres (01-scope.md, Journal, the program `fuse`; its half as in
-- 02-change-requests.md, Ask 5).
use Prim.Native.Nat.{ℕ, ◌*◌, ◌/◌, ◌%◌, compare}
use Rattle.std.specs.Prelude.{Bool, cond, ltb, ℤ, pos, neg_ℤ, Float}
use Rattle.std.specs.Float.{nan, inf, fin}
use Rattle.std.specs.Float.Ieee.{up, down, nearest}
use Rattle.margin.specs.declared.Margin.{Margin}
use Rattle.margin.specs.declared.Margin.TheVariants.{NoMargin, PlusFar, MinusFar, Millis}

-- the whole number nearest to num / den, of an exact half the even one: the rule of IEEE 754, by
-- how twice the rest compares with den
unfoldable pub nearest_whole : ℕ → ℕ → ℕ
nearest_whole num den = nearest (num / den) (compare (num % den * 2) den)

abbrev pub far_of : Bool → Margin
far_of minus = cond minus MinusFar PlusFar

-- there is no minus zero among whole numbers
abbrev pub signed : Bool → ℕ → ℤ
signed minus n = cond minus (neg_ℤ (pos n)) (pos n)

-- n millimetres, or far beyond 999999
abbrev pub millis_of : Bool → ℕ → Margin
millis_of minus n = cond (ltb 999999 n) (far_of minus) (Millis (signed minus n))

-- a finite double is m * 2 ^ e, as a fraction m * up e / down e; the sign is apart
unfoldable pub margin_of : Float → Margin
margin_of nan = NoMargin
margin_of (inf s) = far_of s
margin_of (fin s m e) = millis_of s (nearest_whole (m * up e * 1000) (down e))
