-- What uses no width prints what it prints without a width's event, and without its record
-- (specs/Widths).
use mathlib.Core.Bool.{Bool, true, false, cond, true≢false}
use mathlib.Core.List.{List, [], ◌∷◌, ◌++◌}
use mathlib.Core.Path.{◌≡◌, refl, sym, ap, ap₂, ◌∙◌}
use Prim.Native.Nat.{ℕ, suc}
use lib.Ieee.{Float}
use lib.ListN.{length}
use Rattle.journal.specs.declared.tick.Run.{Run}
use Rattle.journal.specs.Events.{Event, began, restarted, ticked, width_given}
use Rattle.journal.specs.Journal.{Ending, ended, Meaning}
use Rattle.journal.specs.Widths.{tells_width, of_fuse, with_width, OneWidth, further, FurtherOn}
use Rattle.journal.proofs.WithoutWidth.{as_without}
use Rattle.printer.specs.declared.Notes.{Notes}
use Rattle.printer.specs.declared.Channel.{Channel}
use Rattle.printer.specs.declared.Channel.TheVariants.{Output, Errors}
use Rattle.printer.specs.Printer.{Shows, lines, trace, pages, proximity, Printer, width_remembered, showing, shown_text, remembered, printer_after, ending_text, ending_on, printed, printer_after_all, sent_to, printed_on, text_from, beside_from, kinds_taken, meaning_for, text_of, beside_of}
use Rattle.printer.specs.Widths.{uses_width, printed_further, UnusedWidth}

-- ---- an event

-- a width prints nothing, and nothing of it is remembered
record Silent (p : Printer) (e : Event) : Type 0 where
  text : shown_text p e ≡ []
  after : printer_after p e ≡ p

width_unkept : (w : Shows) (m : Notes) (x : Float) → uses_width w ≡ false → width_remembered w m x ≡ m
width_unkept lines m x u = refl
width_unkept trace m x u = refl
width_unkept pages m x u = refl
width_unkept proximity m x u = absurd (true≢false u)

width_silent : (p : Printer) (e : Event) → uses_width p.shows ≡ false → tells_width e ≡ true → Silent p e
unfolding shown_text remembered
width_silent p (began run) u e = absurd (true≢false (sym e))
width_silent p (restarted run) u e = absurd (true≢false (sym e))
width_silent p (ticked t) u e = absurd (true≢false (sym e))
width_silent p (width_given run w) u e = record { text = refl; after = ap (showing p.shows) (width_unkept p.shows p.notes w u) }

-- ---- all events

module _ (p : Printer) (u : uses_width p.shows ≡ false) (e : Event) (es : List Event) where
  printed_by : ((q : Printer) → uses_width q.shows ≡ false → printed q es ≡ printed q (of_fuse es)) → (t : Bool) → tells_width e ≡ t
      → printed p (e ∷ es) ≡ printed p (cond t (of_fuse es) (e ∷ of_fuse es))
  unfolding printed
  printed_by ih true h = let s = width_silent p e u h in ap₂ (λ (x : List ℕ) (q : Printer). x ++ printed q es) s.text s.after ∙ ih p u
  printed_by ih false h = ap (λ (x : List ℕ). shown_text p e ++ x) (ih (printer_after p e) u)

  after_by : ((q : Printer) → uses_width q.shows ≡ false → printer_after_all q es ≡ printer_after_all q (of_fuse es)) → (t : Bool) → tells_width e ≡ t
      → printer_after_all p (e ∷ es) ≡ printer_after_all p (cond t (of_fuse es) (e ∷ of_fuse es))
  unfolding printer_after_all
  after_by ih true h = ap (λ (q : Printer). printer_after_all q es) (width_silent p e u h).after ∙ ih p u
  after_by ih false h = ih (printer_after p e) u

printed_without : (p : Printer) → uses_width p.shows ≡ false → (es : List Event) → printed p es ≡ printed p (of_fuse es)
printed_without p u [] = refl
printed_without p u (e ∷ es) = printed_by p u e es (λ q v. printed_without q v es) (tells_width e) refl

after_without : (p : Printer) → uses_width p.shows ≡ false → (es : List Event) → printer_after_all p es ≡ printer_after_all p (of_fuse es)
after_without p u [] = refl
after_without p u (e ∷ es) = after_by p u e es (λ q v. after_without q v es) (tells_width e) refl

-- what a channel has is that without the events of widths
pub on_channel : (c : Channel) (p : Printer) → uses_width p.shows ≡ false → (es : List Event) (run : Run) (end : Ending)
    → printed_on c p es run end ≡ printed_on c p (of_fuse es) run end
on_channel c p u es run end =
    ap₂ (λ (x : List ℕ) (q : Printer). sent_to Output x c ++ sent_to (ending_on p.shows end) (ending_text q run end) c) (printed_without p u es) (after_without p u es)

-- ---- a whole journal

module _ (p : Printer) (u : uses_width p.shows ≡ false) (front body back : List ℕ) (o : OneWidth (kinds_taken p.shows) front body back) where
  abbrev with_it : Meaning
  with_it = meaning_for p (with_width front body back)

  abbrev without_it : Meaning
  without_it = meaning_for p (front ++ back)

  -- two meanings that are alike are printed alike
  alike_printed : (n : ℕ) (m m' : Meaning) → FurtherOn n m m' → (c : Channel)
      → printed_on c p m.events m.left.run m.ending ≡ printed_on c p m'.events m'.left.run (further n m'.ending)
  alike_printed n m m' a c =
      on_channel c p u m.events m.left.run m.ending
      ∙ ap (λ (es : List Event). printed_on c p es m.left.run m.ending) a.events
      ∙ ap₂ (λ (run : Run) (end : Ending). printed_on c p (of_fuse m'.events) run end) a.run a.ending
      ∙ sym (on_channel c p u m'.events m'.left.run (further n m'.ending))

  abbrev both : FurtherOn (suc (length body)) with_it without_it
  both = as_without (kinds_taken p.shows) front body back o

  further_none : (n : ℕ) → without_it.ending ≡ ended → further n without_it.ending ≡ without_it.ending
  further_none n e = ap (further n) e ∙ sym e

  as_text : text_of p (with_width front body back) ≡ printed_further (suc (length body)) Output p (front ++ back)
  unfolding text_of text_from
  as_text = alike_printed (suc (length body)) with_it without_it both Output

  as_beside : beside_of p (with_width front body back) ≡ printed_further (suc (length body)) Errors p (front ++ back)
  unfolding beside_of beside_from
  as_beside = alike_printed (suc (length body)) with_it without_it both Errors

  as_same : without_it.ending ≡ ended → text_of p (with_width front body back) ≡ text_of p (front ++ back)
  unfolding text_of text_from
  as_same e = as_text ∙ ap (printed_on Output p without_it.events without_it.left.run) (further_none (suc (length body)) e)

pub prints_as_without : UnusedWidth
prints_as_without p u front body back o = record {
  text = as_text p u front body back o;
  beside = as_beside p u front body back o;
  same = as_same p u front body back o;
}
