-- What is printed for events in parts, and for a whole journal.
use Prim.Native.Nat.{ℕ}
use mathlib.Core.Path.{◌≡◌, refl, sym, ap, ◌∙◌}
use mathlib.Core.List.{List, [], ◌∷◌, ◌++◌, append_assoc}
use Rattle.journal.specs.declared.tick.Run.{Run}
use Rattle.journal.specs.Events.{Event}
use Rattle.journal.specs.Journal.{Ending}
use Rattle.printer.specs.declared.Channel.TheVariants.{Output}
use Rattle.printer.specs.Printer.{Printer, fuse_printer, trace_printer, pages_printer, proximity_printer, shown_text, printer_after, printed, printer_after_all, ending_on, text_from, beside_from, meaning_for, text_of, beside_of, OnOutput}

-- events after events: the printer goes on
pub after_append : (p : Printer) (es fs : List Event) → printer_after_all p (es ++ fs) ≡ printer_after_all (printer_after_all p es) fs
unfolding printer_after_all
after_append p [] fs = refl
after_append p (e ∷ es) fs = after_append (printer_after p e) es fs

pub printed_append : (p : Printer) (es fs : List Event) → printed p (es ++ fs) ≡ printed p es ++ printed (printer_after_all p es) fs
unfolding printed printer_after_all
printed_append p [] fs = refl
printed_append p (e ∷ es) fs =
    ap (λ (s : List ℕ). shown_text p e ++ s) (printed_append (printer_after p e) es fs) ∙ sym (append_assoc (shown_text p e) (printed (printer_after p e) es) (printed (printer_after_all p (e ∷ es)) fs))

-- one event
pub after_one : (p : Printer) (e : Event) → printer_after_all p (e ∷ []) ≡ printer_after p e
unfolding printer_after_all
after_one p e = refl

-- what it shows stays
pub shows_stay : (p : Printer) (es : List Event) → (printer_after_all p es).shows ≡ p.shows
unfolding printer_after_all
shows_stay p [] = refl
shows_stay p (e ∷ es) = shows_stay (printer_after p e) es

-- the text of events, and then that of what is left of the journal
pub text_append : (p : Printer) (es fs : List Event) (run : Run) (end : Ending) → text_from p (es ++ fs) run end ≡ printed p es ++ text_from (printer_after_all p es) fs run end
unfolding text_from
text_append p es fs run end = simp (printed_append, after_append, shows_stay, append_assoc)

-- ---- programs that print on standard output alone

all_on_output : (p : Printer) → ((e : Ending) → ending_on p.shows e ≡ Output) → (s : List ℕ) → OnOutput p s
unfolding text_of beside_of text_from beside_from
all_on_output p h s = let m = meaning_for p s in record { text = rw (h m.ending) refl; beside = rw (h m.ending) refl }

pub fuse_on_output : (s : List ℕ) → OnOutput fuse_printer s
fuse_on_output = all_on_output fuse_printer (λ e. refl)

pub trace_on_output : (s : List ℕ) → OnOutput trace_printer s
trace_on_output = all_on_output trace_printer (λ e. refl)

pub pages_on_output : (s : List ℕ) → OnOutput pages_printer s
pages_on_output = all_on_output pages_printer (λ e. refl)

pub proximity_on_output : (s : List ℕ) → OnOutput proximity_printer s
proximity_on_output = all_on_output proximity_printer (λ e. refl)
