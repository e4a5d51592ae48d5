-- Demand 1's numbers, program by program (00-demands.md, Demand 1; 02-change-requests.md, Ask 9: its
-- ten grow by each number added): every list of bytes ends, and a refusal has one of the numbers of
-- its program. The claim is at the end of this file; `numbered` in proofs/Numbers proves it.
-- Of other files it names: how a journal ends (journal, specs/Ends), how a conversion does
-- (journal_forms, specs/Claims).
use Rattle.std.specs.Prelude.{true, List, [], ◌∷◌, ◌≡◌, ℕ}
use Rattle.journal_refusals.specs.Table as T
use Rattle.journal.specs.Journal as J
use Rattle.printer.specs.Printer.{fuse_printer, trace_printer, pages_printer, proximity_printer, meaning_for}
use Rattle.journal_forms.specs.declared.Form.TheVariants.{Wide, Narrow}
use Rattle.journal_forms.specs.Conversion as C
use Rattle.journal_forms.specs.Claims.{is_one_of}

pub data Program : Type 0 where
  fuse : Program
  trace : Program
  pages : Program
  proximity : Program
  widen : Program
  narrow : Program

-- those of the paper's table
abbrev pub table_numbers : List ℕ
table_numbers = 1 ∷ 2 ∷ 3 ∷ 4 ∷ 5 ∷ 6 ∷ 7 ∷ 8 ∷ 9 ∷ 10 ∷ []

-- the numbers of each program; `widen` takes the narrow form, `narrow` the wide one
abbrev pub numbers_of : Program → List ℕ
numbers_of fuse = table_numbers
numbers_of trace = table_numbers
numbers_of pages = table_numbers
numbers_of proximity = table_numbers
numbers_of widen = C.numbers_from Narrow
numbers_of narrow = C.numbers_from Wide

-- ---- how a list of bytes ends for a program: at its end, or refused with a number at a place

pub data Finish : Type 0 where
  at_end : Finish
  refused_with : ℕ → ℕ → Finish

abbrev pub played : J.Ending → Finish
played J.ended = at_end
played (J.refused r p) = refused_with (T.number_of r) p

abbrev pub converted : C.Ending → Finish
converted C.ended = at_end
converted (C.refused c p) = refused_with (C.number_of c) p

abbrev pub finish_of : Program → List ℕ → Finish
finish_of fuse s = played (meaning_for fuse_printer s).ending
finish_of trace s = played (meaning_for trace_printer s).ending
finish_of pages s = played (meaning_for pages_printer s).ending
finish_of proximity s = played (meaning_for proximity_printer s).ending
finish_of widen s = converted (C.conversion_of Narrow Wide s).ending
finish_of narrow s = converted (C.conversion_of Wide Narrow s).ending

-- ---- the claim

pub data FinishesWith (numbers : List ℕ) (x : Finish) : Type 0 where
  with_end : x ≡ at_end → FinishesWith numbers x
  with_number : (n p : ℕ) → x ≡ refused_with n p → is_one_of n numbers ≡ true → FinishesWith numbers x

abbrev pub Numbered : Type 0
Numbered = (p : Program) (s : List ℕ) → FinishesWith (numbers_of p) (finish_of p s)
