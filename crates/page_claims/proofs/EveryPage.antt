-- Every journal is printed as such pages, and `fuse` has a line for each of their rows.
use mathlib.Core.Path.{◌≡◌, refl, ap, ap₂}
use mathlib.Core.List.{List, [], ◌∷◌, ◌++◌}
use Prim.Native.Nat.{ℕ}
use Rattle.journal_records.specs.Kinds.{journal_kinds}
use Rattle.report.specs.Lines.{tick_text}
use Rattle.journal.specs.declared.tick.Run.{Run}
use Rattle.journal.specs.Events.{Event, began, restarted, ticked, width_given}
use Rattle.journal.specs.Journal.{Ending}
use Rattle.printer.specs.Printer.{Printer, fuse_printer, shown_text, remembered, ending_text, printed, printer_after_all, text_from, text_of, kinds_taken, meaning_for}
use Rattle.printer.specs.Fifties.{verdicts_of, pages_text}
use Rattle.printer.proofs.Fifties.{pages_printed}
use Rattle.page_claims.specs.EveryPage.{ticks_in, fuse_lines, EveryPage}
use Rattle.page_claims.proofs.Numbers.{numbers_fit}
use Rattle.page_claims.proofs.Lines.{pages_lines, rows_back}

-- ---- the lines of `fuse`

fuse_printed : (es : List Event) → printed fuse_printer es ≡ fuse_lines (verdicts_of es)
unfolding printed shown_text remembered
fuse_printed [] = refl
fuse_printed (began run ∷ es) = fuse_printed es
fuse_printed (restarted run ∷ es) = fuse_printed es
fuse_printed (ticked t ∷ es) = ap (λ (x : List ℕ). tick_text t.verdict ++ x) (fuse_printed es)
fuse_printed (width_given run w ∷ es) = fuse_printed es

-- it remembers nothing
fuse_stays : (es : List Event) → printer_after_all fuse_printer es ≡ fuse_printer
unfolding printer_after_all remembered
fuse_stays [] = refl
fuse_stays (began run ∷ es) = fuse_stays es
fuse_stays (restarted run ∷ es) = fuse_stays es
fuse_stays (ticked t ∷ es) = fuse_stays es
fuse_stays (width_given run w ∷ es) = fuse_stays es

fuse_from : (es : List Event) (run : Run) (e : Ending) → text_from fuse_printer es run e ≡ fuse_lines (verdicts_of es) ++ ending_text fuse_printer run e
unfolding text_from
fuse_from es run e = ap₂ (λ (x : List ℕ) (p : Printer). x ++ ending_text p run e) (fuse_printed es) (fuse_stays es)

-- ---- the claim

pub every_page : EveryPage
unfolding pages_text text_of kinds_taken
every_page s h =
    let f = numbers_fit journal_kinds s h in
    let m = meaning_for fuse_printer s in
    record {
      printed = pages_printed s;
      lines = pages_lines (ticks_in s) f;
      back = rows_back (ticks_in s) f;
      fuse = fuse_from m.events m.left.run m.ending;
    }
