-- What narrowing and then widening keeps (02-change-requests.md, Ask 9): of every journal of which
-- `narrow` refuses nothing, with NaN or without, all that it means: each event with its verdict, run
-- state and tally, how it ends, and what is left; and so what each program prints for it.
-- The claim is at the end of this file; `verdicts_kept` in proofs/Kept proves it.
-- Of other files it names: the bytes that are written (journal_forms, specs/Conversion); the meaning
-- of a journal (journal, specs/Journal, journal_of); what a program prints (printer, specs/Printer).
-- Where no float is a NaN, the bytes too are as they were (journal_forms, specs/Claims).
use Rattle.std.specs.Prelude.{List, ◌≡◌, ℕ}
use Rattle.journal_records.specs.Kinds.{journal_kinds}
use Rattle.journal_forms.specs.declared.Form.TheVariants.{Wide, Narrow}
use Rattle.journal_forms.specs.Conversion.{ended, conversion_of, converted_bytes}
use Rattle.journal.specs.Journal.{journal_of}
use Rattle.printer.specs.Printer.{Printer, text_of, beside_of}

-- what `narrow` writes of s, and what `widen` writes of that
abbrev pub narrowed_of : List ℕ → List ℕ
narrowed_of s = converted_bytes Wide Narrow s

abbrev pub back_again : List ℕ → List ℕ
back_again s = converted_bytes Narrow Wide (narrowed_of s)

pub record Kept (s : List ℕ) : Type 0 where
  pub widened : (conversion_of Narrow Wide (narrowed_of s)).ending ≡ ended
  pub meaning : journal_of journal_kinds (back_again s) ≡ journal_of journal_kinds s
  pub printed : (p : Printer) → text_of p (back_again s) ≡ text_of p s
  pub beside : (p : Printer) → beside_of p (back_again s) ≡ beside_of p s

abbrev pub VerdictsKept : Type 0
VerdictsKept = (s : List ℕ) → (conversion_of Wide Narrow s).ending ≡ ended → Kept s
