-- The pages of every journal (02-change-requests.md, Ask 1): whatever bytes are played, each line
-- of a tick and of a page has 55 characters, and each field of a tick reads back to what `fuse`
-- prints for it. The claim is at the end of this file; `every_page` in proofs/EveryPage proves it.
-- Of other files it names: what the program prints (printer, specs/Printer, text_of), of which the line
-- of a refusal (refusal_text); its lines (printer, specs/Fifties, pages_of); a row and its fields
-- (page_text, specs/Rows).
use Rattle.std.specs.Prelude.{List, [], ◌∷◌, ◌++◌, ◌≡◌, ℕ, ◌≤◌, length}
use Rattle.text.specs.Column.{blank}
use Rattle.lictor_core.specs.declared.verdict.SafetyVerdict.{SafetyVerdict}
use Rattle.claims.specs.Runs.{All}
use Rattle.journal_records.specs.Kinds.{journal_kinds}
use Rattle.journal.specs.Journal.{Ending, journal_of}
use Rattle.journal_claims.specs.JournalStops.{Bytes}
use Rattle.report.specs.Lines.{tick_text}
use Rattle.page_text.specs.Rows.{page_width, ReadBack}
use Rattle.printer.specs.Printer.{fuse_printer, pages_printer, ending_text, refusal_text, text_of}
use Rattle.printer.specs.Fifties.{verdicts_of, pages_of, lines_text}

-- the verdicts of a journal's ticks, and how it ends
abbrev pub ticks_in : List ℕ → List SafetyVerdict
ticks_in s = verdicts_of (journal_of journal_kinds s).events

abbrev pub ending_in : List ℕ → Ending
ending_in s = (journal_of journal_kinds s).ending

-- a line of a page: 55 characters, none of them a newline or another one below the blank
pub record PageLine (r : List ℕ) : Type 0 where
  pub width : length r ≡ page_width
  pub one : All (λ c. blank ≤ c) r

-- the lines that `fuse` prints for these ticks
abbrev pub fuse_lines : List SafetyVerdict → List ℕ
fuse_lines [] = []
fuse_lines (v ∷ vs) = tick_text v ++ fuse_lines vs

-- What `pages` prints is lines of pages, each with its newline, and then nothing or the refusal's
-- line. Each row reads back to a line of `fuse`, which prints one for each of the same ticks, and
-- then `end` or the same refusal's line.
pub record Paged (s : List ℕ) : Type 0 where
  pub printed : text_of pages_printer s ≡ lines_text (pages_of (ticks_in s)) ++ refusal_text (ending_in s)
  pub lines : All PageLine (pages_of (ticks_in s))
  pub back : All ReadBack (ticks_in s)
  pub fuse : text_of fuse_printer s ≡ fuse_lines (ticks_in s) ++ ending_text fuse_printer (journal_of journal_kinds s).left.run (ending_in s)

abbrev pub EveryPage : Type 0
EveryPage = (s : List ℕ) → Bytes s → Paged s
