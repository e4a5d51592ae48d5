-- What is shown, by number, as a program tells it: any number that is not listed means lines
-- (proofs/Numbers). The code has a type for each case, of the trait `Printer`, and a match of the
-- number onto these types.
use Rattle.std.specs.Prelude.{cond, ℕ, eqb}
use Rattle.printer.specs.declared.Notes.{Notes}
use Rattle.printer.specs.Printer.{Shows, lines, trace, pages, proximity, Printer, showing}

abbrev pub trace_code : ℕ
trace_code = 1

abbrev pub pages_code : ℕ
pages_code = 2

abbrev pub proximity_code : ℕ
proximity_code = 3

unfoldable pub shows_by : ℕ → Shows
shows_by code =
    cond (eqb code trace_code) trace
    (cond (eqb code pages_code) pages
    (cond (eqb code proximity_code) proximity
    lines))

abbrev pub printer_by : ℕ → Notes → Printer
printer_by code m = showing (shows_by code) m
