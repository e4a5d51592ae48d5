-- The pages of a journal (02-change-requests.md, Ask 1): its ticks cut in fifties, a row for each,
-- and after each page a line with its number. It is what the printer of `pages` prints.
use Rattle.std.specs.Prelude.{List, [], ◌∷◌, ◌++◌, map, ◌≡◌, ℕ, zero, suc, ◌+◌, ◌-◌, ◌*◌, ◌/◌, min, length, take, drop}
use Rattle.lictor_core.specs.declared.verdict.SafetyVerdict.{SafetyVerdict}
use Rattle.journal_records.specs.Kinds.{journal_kinds}
use Rattle.journal_refusals.specs.declared.Refusal.{Refusal}
use Rattle.journal_refusals.specs.Table.{number_of}
use Rattle.journal.specs.Events.{Event, began, restarted, ticked, width_given}
use Rattle.journal.specs.Journal.{ended, refused, journal_of}
use Rattle.report.specs.Lines.{refused_text}
use Rattle.page_text.specs.Rows.{tick_row, page_row, as_line}
use Rattle.printer.specs.Printer.{pages_printer, refusal_text, text_of, page_rows, last_page}

-- the verdicts of the ticks, one after the other
abbrev pub verdicts_of : List Event → List SafetyVerdict
verdicts_of [] = []
verdicts_of (began run ∷ es) = verdicts_of es
verdicts_of (restarted run ∷ es) = verdicts_of es
verdicts_of (ticked t ∷ es) = t.verdict ∷ verdicts_of es
verdicts_of (width_given run w ∷ es) = verdicts_of es

-- ---- a page, by its place i from 0

-- its ticks: the fifty from tick 50 i on, or those that are left
abbrev pub ticks_on : ℕ → List SafetyVerdict → List SafetyVerdict
ticks_on i vs = take page_rows (drop (i * page_rows) vs)

-- its number, from 1; it stops at the last
abbrev pub page_number : ℕ → ℕ
page_number i = min (i + 1) last_page

-- its lines
abbrev pub page_of : ℕ → List SafetyVerdict → List (List ℕ)
page_of i vs = map tick_row (ticks_on i vs) ++ (page_row (page_number i) ∷ [])

-- ---- all pages

-- those of n ticks: the last may be a part
abbrev pub page_count : ℕ → ℕ
page_count n = (n + (page_rows - 1)) / page_rows

-- the lines of the first k pages
unfoldable pub pages_up_to : ℕ → List SafetyVerdict → List (List ℕ)
pages_up_to zero vs = []
pages_up_to (suc k) vs = pages_up_to k vs ++ page_of k vs

abbrev pub pages_of : List SafetyVerdict → List (List ℕ)
pages_of vs = pages_up_to (page_count (length vs)) vs

-- ---- as text

-- lines, each with its newline
unfoldable pub lines_text : List (List ℕ) → List ℕ
lines_text [] = []
lines_text (r ∷ rs) = as_line r ++ lines_text rs

-- all that is printed for the journal s: after the pages nothing, or the line of a refusal
unfoldable pub pages_text : List ℕ → List ℕ
pages_text s = let m = journal_of journal_kinds s in lines_text (pages_of (verdicts_of m.events)) ++ refusal_text m.ending

-- ---- a journal without ticks

-- where it ends well nothing is printed, and where it is refused the line of the refusal alone
pub record RefusalAlone (s : List ℕ) : Type 0 where
  pub ends : (journal_of journal_kinds s).ending ≡ ended → text_of pages_printer s ≡ []
  pub refuses : (r : Refusal) (place : ℕ) → (journal_of journal_kinds s).ending ≡ refused r place → text_of pages_printer s ≡ refused_text (number_of r) place

-- it has no page; `no_ticks` in proofs/Fifties proves it
abbrev pub NoTicks : Type 0
NoTicks = (s : List ℕ) → verdicts_of (journal_of journal_kinds s).events ≡ [] → RefusalAlone s
