-- What the printer of `pages` prints for a journal is its ticks cut in fifties; and the numbers of
-- its pages.
use mathlib.Core.Bool.{Bool, true, false, cond}
use mathlib.Core.Path.{◌≡◌, refl, sym, ap, ap₂, ◌∙◌}
use mathlib.Core.List.{List, [], ◌∷◌, ◌++◌, map, append_assoc, append-nil}
use Prim.Native.Nat.{ℕ, zero, suc, ◌+◌, ◌*◌, ◌≤◌, ◌<◌}
use native.Mathlib.Omega.{arith}
use borrow.Author.Tests.{leb-true, leb-false, eqb-true, eqb-false}
use lib.Dec.{eqb}
use lib.ListN.{length, take, drop, length-append, length-drop, drop_of_length-le}
use lib.Seq.{take_all, take-append-le, drop-append-le}
use Rattle.lictor_core.specs.declared.verdict.SafetyVerdict.{SafetyVerdict}
use Rattle.journal_refusals.specs.Table.{number_of}
use Rattle.journal.specs.declared.tick.Run.{Run}
use Rattle.journal.specs.Events.{Event, began, restarted, ticked, width_given}
use Rattle.journal.specs.Journal.{Ending, ended, refused}
use Rattle.report.specs.Lines.{refused_text}
use Rattle.page_text.specs.Rows.{tick_row, page_row, as_line}
use Rattle.printer.specs.declared.Notes.{Notes}
use Rattle.printer.specs.Printer.{Shows, pages, Printer, at_start, pages_printer, page_rows, last_page, next_page, fills, after_tick, tick_on_page, page_closed, shown_text, remembered, closing_text, end_shown, ending_text, refusal_text, printed, printer_after, printer_after_all, text_from, text_of, kinds_taken, meaning_for}
use Rattle.printer.specs.Fifties.{verdicts_of, page_number, page_of, page_count, pages_up_to, pages_of, lines_text, pages_text, NoTicks}

-- ---- lists

map_append : {A B : Type 0} (f : A → B) (xs ys : List A) → map f (xs ++ ys) ≡ map f xs ++ map f ys
map_append f [] ys = refl
map_append f (x ∷ xs) ys = ap (λ zs. f x ∷ zs) (map_append f xs ys)

lines_append : (rs qs : List (List ℕ)) → lines_text (rs ++ qs) ≡ lines_text rs ++ lines_text qs
unfolding lines_text
lines_append [] qs = refl
lines_append (r ∷ rs) qs = ap (λ (s : List ℕ). as_line r ++ s) (lines_append rs qs) ∙ sym (append_assoc (as_line r) (lines_text rs) (lines_text qs))

-- whole pages stay as they are when ticks are added
pages_stay : (k : ℕ) (vs ws : List SafetyVerdict) → k * page_rows ≤ length vs → pages_up_to k (vs ++ ws) ≡ pages_up_to k vs
unfolding pages_up_to
pages_stay zero vs ws h = refl
pages_stay (suc k) vs ws h =
    let left = drop (k * page_rows) vs in
    let full : take page_rows (drop (k * page_rows) (vs ++ ws)) ≡ take page_rows left
    = ap (take page_rows) (drop-append-le (k * page_rows) vs ws (omega arith)) ∙ take-append-le page_rows left ws (omega (arith, length-drop (k * page_rows) vs)) in
    ap₂ (λ (rs : List (List ℕ)) (us : List SafetyVerdict). rs ++ (map tick_row us ++ (page_row (page_number k) ∷ []))) (pages_stay k vs ws (omega arith)) full

-- ---- the printer, tick by tick

-- After these ticks: so many pages are whole, the rows of the others are on the page, and the text
-- is that of both.
record Printed (vs : List SafetyVerdict) (m : Notes) (text : List ℕ) : Type 0 where
  whole : ℕ
  counted : length vs ≡ whole * page_rows + m.rows
  part : m.rows < page_rows
  number : m.page ≡ page_number whole
  shows : text ≡ lines_text (pages_up_to whole vs ++ map tick_row (drop (whole * page_rows) vs))

printed_none : Printed [] at_start []
unfolding pages_up_to lines_text
printed_none = record { whole = 0; counted = refl; part = omega arith; number = refl; shows = refl }

module _ (vs : List SafetyVerdict) (m : Notes) (text : List ℕ) (p : Printed vs m text) (v : SafetyVerdict) where
  abbrev more : List SafetyVerdict
  more = vs ++ (v ∷ [])

  abbrev w : ℕ
  w = p.whole

  abbrev before : List (List ℕ)
  before = pages_up_to w vs

  abbrev part_rows : List (List ℕ)
  part_rows = map tick_row (drop (w * page_rows) vs)

  -- the open page with the new row
  part_more : map tick_row (drop (w * page_rows) more) ≡ part_rows ++ (tick_row v ∷ [])
  part_more = ap (map tick_row) (drop-append-le (w * page_rows) vs (v ∷ []) (omega (arith, p.counted))) ∙ map_append tick_row (drop (w * page_rows) vs) (v ∷ [])

  row_more : text ++ as_line (tick_row v) ≡ lines_text (before ++ (part_rows ++ (tick_row v ∷ [])))
  unfolding lines_text
  row_more =
      ap (λ (s : List ℕ). s ++ as_line (tick_row v)) p.shows
      ∙ ap (λ (s : List ℕ). lines_text (before ++ part_rows) ++ s) (sym (append-nil (as_line (tick_row v))))
      ∙ sym (lines_append (before ++ part_rows) (tick_row v ∷ []))
      ∙ ap lines_text (append_assoc before part_rows (tick_row v ∷ []))

  stays : pages_up_to w more ≡ before
  stays = pages_stay w vs (v ∷ []) (omega (arith, p.counted))

  longer : length more ≡ length vs + 1
  longer = length-append vs (v ∷ [])

  on_page : fills m ≡ false → Printed more (record { rows = m.rows + 1; page = m.page; measure = m.measure }) (text ++ (as_line (tick_row v) ++ []))
  on_page b = record {
    whole = w;
    counted = (let e : length more ≡ w * page_rows + (m.rows + 1) = omega (arith, longer, p.counted) in e);
    part = omega (arith, leb-false page_rows (m.rows + 1) b);
    number = p.number;
    shows =
        ap (λ (s : List ℕ). text ++ s) (append-nil (as_line (tick_row v)))
        ∙ row_more
        ∙ ap₂ (λ (x y : List (List ℕ)). lines_text (x ++ y)) (sym stays) (sym part_more);
  }

  filled : m.rows ≡ 49 → pages_up_to (suc w) more ++ map tick_row (drop (suc w * page_rows) more) ≡ (before ++ (part_rows ++ (tick_row v ∷ []))) ++ (page_row m.page ∷ [])
  unfolding pages_up_to
  filled e =
      let all : length more ≡ suc w * page_rows = omega (arith, longer, p.counted, e) in
      let left : length (drop (w * page_rows) more) ≤ page_rows = omega (arith, length-drop (w * page_rows) more, all) in
      let last : drop (suc w * page_rows) more ≡ [] = drop_of_length-le more {i = suc w * page_rows} (omega (arith, all)) in
      let page : page_of w more ≡ (part_rows ++ (tick_row v ∷ [])) ++ (page_row m.page ∷ [])
      = ap₂ (λ (us : List SafetyVerdict) (n : ℕ). map tick_row us ++ (page_row n ∷ [])) (take_all page_rows (drop (w * page_rows) more) left) (sym p.number)
      ∙ ap (λ (x : List (List ℕ)). x ++ (page_row m.page ∷ [])) part_more in
      ap (λ (us : List SafetyVerdict). pages_up_to (suc w) more ++ map tick_row us) last
      ∙ append-nil (pages_up_to (suc w) more)
      ∙ ap₂ (λ (x y : List (List ℕ)). x ++ y) stays page
      ∙ sym (append_assoc before (part_rows ++ (tick_row v ∷ [])) (page_row m.page ∷ []))

  fills_page : fills m ≡ true → Printed more (record { rows = 0; page = next_page m.page; measure = m.measure }) (text ++ (as_line (tick_row v) ++ as_line (page_row m.page)))
  unfolding lines_text
  fills_page b =
      let e : m.rows ≡ 49 = omega (arith, p.part, leb-true page_rows (m.rows + 1) b) in
      let row = as_line (tick_row v) in
      let line = as_line (page_row m.page) in
      let sofar = before ++ (part_rows ++ (tick_row v ∷ [])) in
      record {
        whole = suc w;
        counted = (let f : length more ≡ suc w * page_rows + 0 = omega (arith, longer, p.counted, e) in f);
        part = omega arith;
        number = (let f : next_page m.page ≡ page_number (suc w) = omega (arith, p.number) in f);
        shows =
            sym (append_assoc text row line)
            ∙ ap₂ (λ (x y : List ℕ). x ++ y) row_more (sym (append-nil line))
            ∙ sym (lines_append sofar (page_row m.page ∷ []))
            ∙ ap lines_text (sym (filled e));
      }

  one_more : (b : Bool) → fills m ≡ b
      → Printed more (cond b (record { rows = 0; page = next_page m.page; measure = m.measure }) (record { rows = m.rows + 1; page = m.page; measure = m.measure })) (text ++ (as_line (tick_row v) ++ cond b (as_line (page_row m.page)) []))
  one_more true e = fills_page e
  one_more false e = on_page e

-- ---- the printer, event by event

abbrev pages_with : Notes → Printer
pages_with m = record { shows = pages; notes = m }

printed_all : (es : List Event) (vs : List SafetyVerdict) (m : Notes) (text : List ℕ) → Printed vs m text
    → Printed (vs ++ verdicts_of es) (printer_after_all (pages_with m) es).notes (text ++ printed (pages_with m) es)
unfolding printed printer_after_all shown_text remembered
printed_all [] vs m text p = rw (append-nil vs, append-nil text) p
printed_all (began run ∷ es) vs m text p = printed_all es vs m text p
printed_all (restarted run ∷ es) vs m text p = printed_all es vs m text p
printed_all (ticked t ∷ es) vs m text p =
    let v = t.verdict in
    let q = printed_all es (vs ++ (v ∷ [])) (after_tick m) (text ++ tick_on_page m v) (one_more vs m text p v (fills m) refl) in
    rw (append_assoc vs (v ∷ []) (verdicts_of es), append_assoc text (tick_on_page m v) (printed (pages_with (after_tick m)) es)) at q
printed_all (width_given run w ∷ es) vs m text p = printed_all es vs m text p

-- it stays the printer of pages
shows_stay : (p : Printer) (es : List Event) → (printer_after_all p es).shows ≡ p.shows
unfolding printer_after_all
shows_stay p [] = refl
shows_stay p (e ∷ es) = shows_stay (printer_after p e) es

-- ---- the ending closes a part page

module _ (vs : List SafetyVerdict) (m : Notes) (text : List ℕ) (p : Printed vs m text) where
  closed_whole : m.rows ≡ 0 → text ++ [] ≡ lines_text (pages_of vs)
  closed_whole e =
      let n : page_count (length vs) ≡ p.whole = omega (arith, p.counted, e) in
      let none : drop (p.whole * page_rows) vs ≡ [] = drop_of_length-le vs {i = p.whole * page_rows} (omega (arith, p.counted, e)) in
      append-nil text
      ∙ p.shows
      ∙ ap (λ (us : List SafetyVerdict). lines_text (pages_up_to p.whole vs ++ map tick_row us)) none
      ∙ ap lines_text (append-nil (pages_up_to p.whole vs))
      ∙ ap (λ (k : ℕ). lines_text (pages_up_to k vs)) (sym n)

  closed_part : (m.rows ≡ 0 → ⊥) → text ++ as_line (page_row m.page) ≡ lines_text (pages_of vs)
  unfolding pages_up_to lines_text
  closed_part e =
      let w = p.whole in
      let left = drop (w * page_rows) vs in
      let n : page_count (length vs) ≡ suc w = omega (arith, p.counted, e, p.part) in
      let all : take page_rows left ≡ left = take_all page_rows left (omega (arith, length-drop (w * page_rows) vs, p.counted, p.part)) in
      let line = as_line (page_row m.page) in
      let last = page_row m.page ∷ [] in
      ap₂ (λ (x y : List ℕ). x ++ y) p.shows (sym (append-nil line))
      ∙ sym (lines_append (pages_up_to w vs ++ map tick_row left) last)
      ∙ ap lines_text (append_assoc (pages_up_to w vs) (map tick_row left) last)
      ∙ ap₂ (λ (us : List SafetyVerdict) (k : ℕ). lines_text (pages_up_to w vs ++ (map tick_row us ++ (page_row k ∷ [])))) (sym all) p.number
      ∙ ap (λ (k : ℕ). lines_text (pages_up_to k vs)) (sym n)

  closed_by : (b : Bool) → eqb m.rows 0 ≡ b → text ++ cond b [] (as_line (page_row m.page)) ≡ lines_text (pages_of vs)
  closed_by true e = closed_whole (eqb-true m.rows 0 e)
  closed_by false e = closed_part (eqb-false m.rows 0 e)

  closed : text ++ page_closed m ≡ lines_text (pages_of vs)
  closed = closed_by (eqb m.rows 0) refl

-- ---- theorems

ending_is : (p : Printer) (run : Run) (e : Ending) → p.shows ≡ pages → ending_text p run e ≡ page_closed p.notes ++ refusal_text e
unfolding ending_text
ending_is p run ended h = ap (λ (w : Shows). closing_text w p.notes ++ end_shown w run.rt.tally) h
ending_is p run (refused r place) h = ap (λ (w : Shows). closing_text w p.notes ++ refused_text (number_of r) place) h

-- whatever the events and the ending are
pub pages_from : (es : List Event) (run : Run) (e : Ending) → text_from pages_printer es run e ≡ lines_text (pages_of (verdicts_of es)) ++ refusal_text e
unfolding text_from
pages_from es run e =
    let after = printer_after_all pages_printer es in
    let text = printed pages_printer es in
    ap (λ (s : List ℕ). text ++ s) (ending_is after run e (shows_stay pages_printer es))
    ∙ sym (append_assoc text (page_closed after.notes) (refusal_text e))
    ∙ ap (λ (s : List ℕ). s ++ refusal_text e) (closed (verdicts_of es) after.notes text (printed_all es [] at_start [] printed_none))

-- what is printed for a journal
pub pages_printed : (s : List ℕ) → text_of pages_printer s ≡ pages_text s
unfolding text_of pages_text kinds_taken
pages_printed s = let m = meaning_for pages_printer s in pages_from m.events m.left.run m.ending

-- without ticks there is no page
pub pages_none : (es : List Event) (run : Run) (e : Ending) → verdicts_of es ≡ [] → text_from pages_printer es run e ≡ refusal_text e
unfolding pages_up_to lines_text
pages_none es run e h = pages_from es run e ∙ ap (λ (vs : List SafetyVerdict). lines_text (pages_of vs) ++ refusal_text e) h

pub no_ticks : NoTicks
unfolding text_of kinds_taken
no_ticks s h =
    let m = meaning_for pages_printer s in
    let alone : text_from pages_printer m.events m.left.run m.ending ≡ refusal_text m.ending = pages_none m.events m.left.run m.ending h in
    record {
      ends = λ e. alone ∙ ap refusal_text e;
      refuses = λ r place e. alone ∙ ap refusal_text e;
    }

-- ---- numbers

-- a number is from 1 to the last, goes up by one, and stops there
pub number_within : (i : ℕ) → (1 ≤ page_number i) × (page_number i ≤ last_page)
number_within i = (omega arith, omega arith)

pub number_next : (i : ℕ) → page_number (i + 1) ≡ next_page (page_number i)
number_next i = omega arith

pub number_stops : (i : ℕ) → last_page ≤ i + 1 → page_number i ≡ last_page
number_stops i h = omega arith
