-- The lines of pages, where the numbers of their verdicts fit: each has 55 characters and no
-- newline, and each row reads back.
use mathlib.Core.Path.{◌≡◌}
use mathlib.Core.Bool.{◌&&◌}
use mathlib.Core.List.{List, [], ◌∷◌, ◌++◌, map}
use Prim.Native.Nat.{ℕ, zero, suc, ◌-◌, ◌*◌, ◌^◌, ◌≤◌, ◌<◌}
use native.Mathlib.Omega.{arith}
use lib.Dec.{T, ltb, ltb→lt, lit≤}
use lib.Ieee.Fits.{and_l, and_r}
use lib.ListN.{length, take, drop}
use Rattle.text.specs.Ascii.{ascii}
use Rattle.text.specs.Number.{decimal_of}
use Rattle.text.specs.Column.{blank, blanks, right, left, plain, Side, at_right, at_left, Column, sided, field, after_blanks, row_of, Plain}
use Rattle.text.proofs.Columns.{decimal_plain}
use Rattle.lictor_core.specs.declared.verdict.SafetyVerdict.{SafetyVerdict}
use Rattle.claims.specs.Runs.{All}
use Rattle.page_text.specs.Rows.{page_width, tick_columns, tick_row, page_row, Fitting, ReadBack}
use Rattle.page_text.proofs.Rows.{plain_texts, tick_width, page_width_lem, reads_back}
use Rattle.printer.specs.Printer.{page_rows}
use Rattle.printer.specs.Fifties.{ticks_on, page_number, page_of, page_count, pages_up_to, pages_of}
use Rattle.printer.proofs.Fifties.{number_within}
use Rattle.page_claims.specs.EveryPage.{PageLine}

-- ---- lists

module _ {A : Type 0} (P : A → Type 0) where
  all_append : (xs ys : List A) → All P xs → All P ys → All P (xs ++ ys)
  all_append [] ys a b = b
  all_append (x ∷ xs) ys a b = (a.0, all_append xs ys a.1 b)

  all_take : (n : ℕ) (xs : List A) → All P xs → All P (take n xs)
  all_take zero xs a = tt
  all_take (suc n) [] a = tt
  all_take (suc n) (x ∷ xs) a = (a.0, all_take n xs a.1)

  all_drop : (n : ℕ) (xs : List A) → All P xs → All P (drop n xs)
  all_drop zero xs a = a
  all_drop (suc n) [] a = tt
  all_drop (suc n) (x ∷ xs) a = all_drop n xs a.1

all_map : {A B : Type 0} (P : A → Type 0) (Q : B → Type 0) (f : A → B) → ((x : A) → P x → Q (f x)) → (xs : List A) → All P xs → All Q (map f xs)
all_map P Q f g [] a = tt
all_map P Q f g (x ∷ xs) a = (g x a.0, all_map P Q f g xs a.1)

-- ---- no newline

abbrev Shown : ℕ → Type 0
Shown c = blank ≤ c

abbrev OneLine : List ℕ → Type 0
OneLine s = All Shown s

plain_shown : (s : List ℕ) → T (plain s) → OneLine s
unfolding plain
plain_shown [] h = tt
plain_shown (c ∷ s) h = (omega (arith, ltb→lt blank c (and_l (ltb blank c) (plain s) h)), plain_shown s (and_r (ltb blank c) (plain s) h))

blanks_shown : (n : ℕ) → OneLine (blanks n)
blanks_shown zero = tt
blanks_shown (suc n) = (lit≤ tt, blanks_shown n)

right_shown : (w : ℕ) (s : List ℕ) → OneLine s → OneLine (right w s)
unfolding right
right_shown w s h = all_append Shown (blanks (w - length s)) s (blanks_shown (w - length s)) h

left_shown : (w : ℕ) (s : List ℕ) → OneLine s → OneLine (left w s)
unfolding left
left_shown w s h = all_append Shown s (blanks (w - length s)) h (blanks_shown (w - length s))

sided_shown : (a : Side) (w : ℕ) (s : List ℕ) → OneLine s → OneLine (sided a w s)
sided_shown at_right w s h = right_shown w s h
sided_shown at_left w s h = left_shown w s h

field_shown : (c : Column) → T (plain c.text) → OneLine (field c)
field_shown c h = sided_shown c.side c.width c.text (plain_shown c.text h)

after_shown : (cs : List Column) → Plain cs → OneLine (after_blanks cs)
unfolding after_blanks
after_shown [] h = tt
after_shown (c ∷ cs) h = (lit≤ tt, all_append Shown (field c) (after_blanks cs) (field_shown c h.0) (after_shown cs h.1))

row_shown : (cs : List Column) → Plain cs → OneLine (row_of cs)
unfolding row_of
row_shown [] h = tt
row_shown (c ∷ cs) h = all_append Shown (field c) (after_blanks cs) (field_shown c h.0) (after_shown cs h.1)

-- ---- both kinds of lines

tick_shown_lem : (v : SafetyVerdict) → OneLine (tick_row v)
unfolding tick_row
tick_shown_lem v = row_shown (tick_columns v) (plain_texts v)

word_shown : OneLine (ascii "page ")
word_shown = (lit≤ tt, (lit≤ tt, (lit≤ tt, (lit≤ tt, (lit≤ tt, tt)))))

page_shown : (n : ℕ) → OneLine (page_row n)
unfolding page_row
page_shown n =
    let number = right 10 (decimal_of n) in
    left_shown page_width (ascii "page " ++ number) (all_append Shown (ascii "page ") number word_shown (right_shown 10 (decimal_of n) (plain_shown (decimal_of n) (decimal_plain n))))

tick_line : (v : SafetyVerdict) → Fitting v → PageLine (tick_row v)
tick_line v f = record { width = tick_width v f; one = tick_shown_lem v }

page_line : (i : ℕ) → PageLine (page_row (page_number i))
page_line i = record { width = page_width_lem (page_number i) (omega (arith, (number_within i).1)); one = page_shown (page_number i) }

-- ---- all lines

page_lines : (i : ℕ) (vs : List SafetyVerdict) → All Fitting vs → All PageLine (page_of i vs)
page_lines i vs f =
    let on = all_take Fitting page_rows (drop (i * page_rows) vs) (all_drop Fitting (i * page_rows) vs f) in
    all_append PageLine (map tick_row (ticks_on i vs)) (page_row (page_number i) ∷ []) (all_map Fitting PageLine tick_row tick_line (ticks_on i vs) on) (page_line i, tt)

up_to_lines : (k : ℕ) (vs : List SafetyVerdict) → All Fitting vs → All PageLine (pages_up_to k vs)
unfolding pages_up_to
up_to_lines zero vs f = tt
up_to_lines (suc k) vs f = all_append PageLine (pages_up_to k vs) (page_of k vs) (up_to_lines k vs f) (page_lines k vs f)

pub pages_lines : (vs : List SafetyVerdict) → All Fitting vs → All PageLine (pages_of vs)
pages_lines vs f = up_to_lines (page_count (length vs)) vs f

pub rows_back : (vs : List SafetyVerdict) → All Fitting vs → All ReadBack vs
rows_back [] f = tt
rows_back (v ∷ vs) f = (reads_back v f.0, rows_back vs f.1)
