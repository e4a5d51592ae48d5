-- Every program ends every list of bytes with nothing refused, or with one of its numbers.
use Prim.Native.Nat.{ℕ}
use mathlib.Core.Path.{◌≡◌, refl, ap}
use mathlib.Core.Bool.{true}
use mathlib.Core.List.{List}
use Rattle.journal_refusals.specs.declared.Refusal.{Refusal}
use Rattle.journal_refusals.specs.declared.Refusal.TheVariants.{UnknownKind, CutBody, BeforeSettings, Again, BadCode, BadSize, BadFloat, BoxCrossed, ListFull, NotReady}
use Rattle.journal_refusals.specs.Table as T
use Rattle.journal.specs.Journal as J
use Rattle.printer.specs.Printer.{fuse_printer, trace_printer, pages_printer, proximity_printer, meaning_for}
use Rattle.journal_forms.specs.declared.Form.{Form}
use Rattle.journal_forms.specs.declared.Form.TheVariants.{Wide, Narrow}
use Rattle.journal_forms.specs.Forms.{other}
use Rattle.journal_forms.specs.Conversion as C
use Rattle.journal_forms.specs.Claims as F
use Rattle.journal_forms.specs.Claims.{is_one_of}
use Rattle.journal_forms.proofs.Ends.{conversion_ends}
use Rattle.form_claims.specs.Numbers.{fuse, trace, pages, proximity, widen, narrow, table_numbers, played, converted, FinishesWith, with_end, with_number, Numbered}

-- each number of the table
table_number : (r : Refusal) → is_one_of (T.number_of r) table_numbers ≡ true
unfolding is_one_of
table_number UnknownKind = refl
table_number CutBody = refl
table_number BeforeSettings = refl
table_number Again = refl
table_number BadCode = refl
table_number BadSize = refl
table_number BadFloat = refl
table_number BoxCrossed = refl
table_number ListFull = refl
table_number NotReady = refl

played_ends : (e : J.Ending) → FinishesWith table_numbers (played e)
played_ends J.ended = with_end refl
played_ends (J.refused r p) = with_number (T.number_of r) p refl (table_number r)

converted_ends : (a : Form) (s : List ℕ) → F.Ends a s → FinishesWith (C.numbers_from a) (converted (C.conversion_of a (other a) s).ending)
converted_ends a s (F.with_end e b) = with_end (ap converted e)
converted_ends a s (F.with_refusal c p e b r) = with_number (C.number_of c) p (ap converted e) r.number

pub numbered : Numbered
numbered fuse s = played_ends (meaning_for fuse_printer s).ending
numbered trace s = played_ends (meaning_for trace_printer s).ending
numbered pages s = played_ends (meaning_for pages_printer s).ending
numbered proximity s = played_ends (meaning_for proximity_printer s).ending
numbered widen s = converted_ends Narrow s (conversion_ends Narrow s)
numbered narrow s = converted_ends Wide s (conversion_ends Wide s)
