-- What is shown by each number; one that is not listed means lines.
use mathlib.Core.Path.{◌≡◌, refl}
use Prim.Native.Nat.{ℕ}
use borrow.Author.Tests.{ne_eqb}
use Rattle.printer.specs.Printer.{lines, trace, pages, proximity}
use Rattle.printer.specs.Numbers.{trace_code, pages_code, proximity_code, shows_by}

pub shows_trace : (code : ℕ) → code ≡ trace_code → shows_by code ≡ trace
unfolding shows_by
shows_trace code e = rw e refl

pub shows_pages : (code : ℕ) → code ≡ pages_code → shows_by code ≡ pages
unfolding shows_by
shows_pages code e = rw e refl

pub shows_proximity : (code : ℕ) → code ≡ proximity_code → shows_by code ≡ proximity
unfolding shows_by
shows_proximity code e = rw e refl

pub shows_lines : (code : ℕ) → (code ≡ trace_code → ⊥) → (code ≡ pages_code → ⊥) → (code ≡ proximity_code → ⊥) → shows_by code ≡ lines
unfolding shows_by
shows_lines code e f g = rw (ne_eqb code trace_code e, ne_eqb code pages_code f, ne_eqb code proximity_code g) refl
