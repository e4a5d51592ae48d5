-- Columns of text: a field of fixed width, filled with blanks on one side, and a row of them with
-- one blank between each two (02-change-requests.md, Ask 1).
use Rattle.std.specs.Prelude.{ℕ, zero, suc, ◌+◌, ◌-◌, ◌≤◌, Bool, true, cond, ◌&&◌, List, [], ◌∷◌, ◌++◌, eqb, ltb, T, length, take, drop, replicate}

-- the code of a blank
abbrev pub blank : ℕ
blank = 32

abbrev pub blanks : ℕ → List ℕ
blanks n = replicate n blank

-- the text at the right, or at the left, of a field of w characters; a longer text stays as it is
unfoldable pub right : ℕ → List ℕ → List ℕ
right w s = blanks (w - length s) ++ s

unfoldable pub left : ℕ → List ℕ → List ℕ
left w s = s ++ blanks (w - length s)

-- ---- reading back

abbrev pub is_blank : ℕ → Bool
is_blank c = eqb c blank

-- the text without its blanks
unfoldable pub unblanked : List ℕ → List ℕ
unblanked [] = []
unblanked (c ∷ s) = cond (is_blank c) (unblanked s) (c ∷ unblanked s)

-- every character is above the blank: the text has neither a blank nor a newline
unfoldable pub plain : List ℕ → Bool
plain [] = true
plain (c ∷ s) = ltb blank c && plain s

-- n characters from the place i on
abbrev pub cut : ℕ → ℕ → List ℕ → List ℕ
cut i n s = take n (drop i s)

-- ---- rows

pub data Side : Type 0 where
  at_right at_left : Side

pub record Column : Type 0 where
  pub width : ℕ
  pub side : Side
  pub text : List ℕ

abbrev pub sided : Side → ℕ → List ℕ → List ℕ
sided at_right w s = right w s
sided at_left w s = left w s

abbrev pub field : Column → List ℕ
field c = sided c.side c.width c.text

-- columns with a blank before each
unfoldable pub after_blanks : List Column → List ℕ
after_blanks [] = []
after_blanks (c ∷ cs) = blank ∷ field c ++ after_blanks cs

-- columns with a blank between each two
unfoldable pub row_of : List Column → List ℕ
unfolding after_blanks
row_of [] = []
row_of (c ∷ cs) = field c ++ after_blanks cs

-- the sum of the widths
abbrev pub widths : List Column → ℕ
widths [] = 0
widths (c ∷ cs) = c.width + widths cs

-- the width of a row: the sum of the widths, and a blank between each two
abbrev pub row_width : List Column → ℕ
row_width cs = widths cs + (length cs - 1)

-- where the column i begins
abbrev pub place_of : List Column → ℕ → ℕ
place_of [] i = 0
place_of (c ∷ cs) zero = 0
place_of (c ∷ cs) (suc i) = suc c.width + place_of cs i

-- no text is longer than its column
abbrev pub Within : List Column → Type 0
Within [] = Unit {0}
Within (c ∷ cs) = (length c.text ≤ c.width) × Within cs

-- no text has a blank or a newline
abbrev pub Plain : List Column → Type 0
Plain [] = Unit {0}
Plain (c ∷ cs) = T (plain c.text) × Plain cs
