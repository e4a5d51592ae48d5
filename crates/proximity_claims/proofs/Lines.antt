-- What the printer of proximity prints for events: with a width, what is put for their history;
-- without one, nothing.
use mathlib.Core.Bool.{Bool, true, false, cond}
use mathlib.Core.List.{List, [], ◌∷◌, ◌++◌}
use mathlib.Core.Path.{◌≡◌, refl, ap, ◌∙◌}
use Prim.Native.Nat.{ℕ}
use native.Mathlib.Omega.{arith}
use lib.Ieee.{Float}
use Rattle.std.specs.Prelude.{Option, None, Some}
use Rattle.lictor_core.specs.declared.envelope.FuseConfig.{FuseConfig}
use Rattle.lictor_core.specs.declared.verdict.SafetyVerdict.{SafetyVerdict}
use Rattle.claims.specs.Runs.{All}
use Rattle.journal_refusals.specs.Table.{number_of}
use Rattle.journal.specs.declared.tick.Run.{Run}
use Rattle.journal.specs.Events.{Event, began, restarted, ticked, width_given}
use Rattle.journal.specs.Journal.{Ending, ended, refused}
use Rattle.journal.specs.Widths.{tells_width}
use Rattle.report.specs.Lines.{refused_text}
use Rattle.proximity_text.specs.Near.{inside_of, none_inside}
use Rattle.proximity_text.specs.Lines.{lines_of}
use Rattle.proximity_text.specs.History.{clean, fault, put_from}
use Rattle.printer.specs.declared.Measure.{Measure}
use Rattle.printer.specs.declared.Notes.{Notes}
use Rattle.printer.specs.Printer.{Shows, proximity, Printer, showing, is_clean, width_lines, with_inside, measure_cleared, with_measure, shown_text, remembered, closing_text, end_shown, ending_text, refusal_text, printed}
use Rattle.proximity_claims.specs.EveryLine.{history_of, Under}

-- ---- with a width

abbrev given : Float → List Bool → Measure
given w was = record { width = Some w; inside = was }

abbrev noting : Notes → Float → List Bool → Printer
noting m w was = showing proximity (with_measure m (given w was))

module _ (cfg : FuseConfig) (w : Float) (m : Notes) (es : List Event) (t : ℕ) (pos : List Float) (was : List Bool)
    (ih : (is : List Bool) → printed (noting m w is) es ≡ put_from cfg w is (history_of es)) where
  tick_put : (b : Bool) → cond b (lines_of cfg (record { width = w; inside = was }) t pos) [] ++ printed (showing proximity (with_measure m (cond b (given w (inside_of cfg pos)) (given w was)))) es
      ≡ put_from cfg w was (cond b (clean t pos) fault ∷ history_of es)
  unfolding put_from
  tick_put true = ap (λ (s : List ℕ). lines_of cfg (record { width = w; inside = was }) t pos ++ s) (ih (inside_of cfg pos))
  tick_put false = ih was

pub near_printed : (cfg : FuseConfig) (w : Float) (m : Notes) (es : List Event) → All (Under cfg) es → (was : List Bool) → printed (noting m w was) es ≡ put_from cfg w was (history_of es)
unfolding printed shown_text remembered put_from
near_printed cfg w m [] u was = refl
near_printed cfg w m (began run ∷ es) u was = absurd u.0
near_printed cfg w m (width_given run x ∷ es) u was = absurd u.0
near_printed cfg w m (restarted run ∷ es) u was = near_printed cfg w m es u.1 none_inside
near_printed cfg w m (ticked t ∷ es) u was =
    rw u.0 (tick_put cfg w m es t.verdict.t t.pos was (λ is. near_printed cfg w m es u.1 is) (is_clean t.guard))

-- ---- without a width

abbrev pub NoWidth : Event → Type 0
NoWidth e = tells_width e ≡ false

abbrev unmeasured : Notes → Printer
unmeasured m = showing proximity m

module _ (es : List Event) (ih : (m : Notes) → m.measure.width ≡ None → printed (unmeasured m) es ≡ []) (m : Notes) (h : m.measure.width ≡ None) (pos : List Float) (v : SafetyVerdict) (cfg : FuseConfig) where
  tick_none : (b : Bool) → cond b (width_lines m.measure.width m.measure.inside pos v cfg) [] ++ printed (unmeasured (with_measure m (cond b (with_inside m.measure (inside_of cfg pos)) m.measure))) es ≡ []
  tick_none true =
      let next = with_measure m (with_inside m.measure (inside_of cfg pos)) in
      ap (λ (w : Option Float). width_lines w m.measure.inside pos v cfg ++ printed (unmeasured next) es) h ∙ ih next h
  tick_none false = ih m h

pub none_printed : (es : List Event) → All NoWidth es → (m : Notes) → m.measure.width ≡ None → printed (unmeasured m) es ≡ []
unfolding printed shown_text remembered
none_printed [] u m h = refl
none_printed (began run ∷ es) u m h = none_printed es u.1 m h
none_printed (width_given run x ∷ es) u m h = let z : true ≡ false = u.0 in absurd (impossible z)
  where
    impossible : true ≡ false → ⊥
    impossible e = let z : ◌≡◌ {A = ℕ} 0 1 = cc in omega (arith, z)
none_printed (restarted run ∷ es) u m h = none_printed es u.1 (with_measure m (measure_cleared m.measure)) h
none_printed (ticked t ∷ es) u m h =
    tick_none es (λ q g. none_printed es u.1 q g) m h t.pos t.verdict t.run.config (is_clean t.guard)

-- ---- the ending

pub ending_is : (p : Printer) (run : Run) (e : Ending) → p.shows ≡ proximity → ending_text p run e ≡ refusal_text e
unfolding ending_text
ending_is p run ended h = ap (λ (w : Shows). closing_text w p.notes ++ end_shown w run.rt.tally) h
ending_is p run (refused r place) h = ap (λ (w : Shows). closing_text w p.notes ++ refused_text (number_of r) place) h
