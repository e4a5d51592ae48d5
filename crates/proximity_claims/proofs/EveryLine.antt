-- Every journal is printed so.
use mathlib.Core.Bool.{Bool, true, false, ◌||◌}
use mathlib.Core.List.{List, [], ◌∷◌, ◌++◌}
use mathlib.Core.Path.{◌≡◌, refl, ap, ◌∙◌}
use Prim.Native.Nat.{ℕ, ◌≤◌}
use native.Mathlib.Omega.{arith}
use borrow.Author.Tests.{ltb-false}
use lib.Dec.{ltb}
use lib.Ieee.{Float}
use Rattle.lictor_core.specs.declared.envelope.FuseConfig.{FuseConfig}
use Rattle.lictor_core.specs.declared.envelope.Settings.{Settings}
use Rattle.lictor_core.specs.Sizes.{max_pos}
use Rattle.lictor_settings.specs.Settings.{bad_size, config_of}
use Rattle.claims.specs.Runs.{All}
use Rattle.journal_reader.specs.Reading.{Instruction, begin, restart, tick, width}
use Rattle.journal.specs.declared.tick.Run.{Run}
use Rattle.stream.proofs.Stream.{impossible}
use Rattle.journal.specs.Events.{begun_of, restarted_of, ticked_of, decided_of, run_after, report_of, Event, began, width_given, events_from}
use Rattle.journal.specs.Journal.{start_run, journal_of}
use Rattle.journal_claims.specs.Instructions.{told_in}
use Rattle.journal_claims.specs.JournalStops.{GoesOn}
use Rattle.journal_claims.proofs.Order.{Goes, plain, measured, Ordered, nothing, under, ordered}
use Rattle.proximity_text.specs.Near.{none_inside}
use Rattle.proximity_text.specs.History.{put_from, PutListed}
use Rattle.proximity_text.proofs.History.{lines_listed}
use Rattle.printer.specs.Printer.{proximity, at_start, proximity_printer, shown_text, remembered, printed, printer_after_all, refusal_text, meaning_for, kinds_taken, text_of}
use Rattle.printer.proofs.Parts.{shows_stay, proximity_on_output}
use Rattle.proximity_claims.specs.EveryLine.{events_in, ending_in, history_of, HasWidth, Unmeasured, Under, Measured, Told, without, with_width_lem, EveryLine}
use Rattle.proximity_claims.proofs.Lines.{NoWidth, near_printed, none_printed, ending_is}
use Rattle.proximity_claims.proofs.Taken.{Tells, taken_told, told_taken}

-- ---- the events

-- of all that a journal tells
events_are : (s : List ℕ) → events_in s ≡ events_from start_run (told_in (kinds_taken proximity) s)
unfolding journal_of told_in
events_are s = refl

-- resets and ticks keep the configuration, and give no width
all_under : (cfg : FuseConfig) (r : Run) (is : List Instruction) → r.config ≡ cfg → All GoesOn is → All (Under cfg) (events_from r is)
unfolding restarted_of ticked_of report_of
all_under cfg r [] e g = tt
all_under cfg r (begin s ∷ is) e g = absurd g.0
all_under cfg r (restart ∷ is) e g = (tt, all_under cfg (restarted_of r) is e g.1)
all_under cfg r (tick c ∷ is) e g = (e, all_under cfg (ticked_of r (decided_of r c)) is e g.1)
all_under cfg r (width x ∷ is) e g = absurd g.0

no_widths : (r : Run) (is : List Instruction) → All GoesOn is → All NoWidth (events_from r is)
no_widths r [] g = tt
no_widths r (begin s ∷ is) g = absurd g.0
no_widths r (restart ∷ is) g = (refl, no_widths (restarted_of r) is g.1)
no_widths r (tick c ∷ is) g = (refl, no_widths (ticked_of r (decided_of r c)) is g.1)
no_widths r (width x ∷ is) g = absurd g.0

-- a width that the journal has is among them
width_tells : (r : Run) (is : List Instruction) (x : Float) (js : List Instruction) → All NoWidth (events_from r (is ++ (width x ∷ js))) → ⊥
width_tells r [] x js n = impossible_width n.0
  where
    impossible_width : true ≡ false → ⊥
    impossible_width e = impossible cc
width_tells r (i ∷ is) x js n = width_tells (run_after r i) is x js n.1

no_width : (s : List ℕ) → All NoWidth (events_in s) → (x : Float) → HasWidth s x → ⊥
no_width s n x h =
    let t : Tells s x = taken_told s x h in
    width_tells start_run t.before x t.later (rw (events_are s ∙ ap (events_from start_run) t.is) at n)

-- ---- the text

text_is : (s : List ℕ) → text_of proximity_printer s ≡ printed proximity_printer (events_in s) ++ refusal_text (ending_in s)
text_is s =
    let after = printer_after_all proximity_printer (events_in s) in
    (proximity_on_output s).text
    ∙ ap (λ (x : List ℕ). printed proximity_printer (events_in s) ++ x) (ending_is after (meaning_for proximity_printer s).left.run (ending_in s) (shows_stay proximity_printer (events_in s)))

no_lines : (s : List ℕ) → All NoWidth (events_in s) → Unmeasured s
no_lines s n = record {
  none = no_width s n;
  text = text_is s ∙ ap (λ (x : List ℕ). x ++ refusal_text (ending_in s)) (none_printed (events_in s) n at_start refl);
}

-- the settings and the width print nothing, and the width is kept
with_lines : (s : List ℕ) (w : Settings) (x : Float) (rest : List Event) → HasWidth s x → events_in s ≡ began (begun_of w) ∷ (width_given (begun_of w) x ∷ rest) → w.pos_dim ≤ max_pos
    → All (Under (config_of w)) rest → Measured s
unfolding printed shown_text remembered config_of
with_lines s w x rest h e small u =
    let l : PutListed (config_of w) x (history_of rest) = lines_listed (config_of w) small x (history_of rest) in
    let put : printed proximity_printer (events_in s) ≡ put_from (config_of w) x none_inside (history_of rest) = ap (printed proximity_printer) e ∙ near_printed (config_of w) x at_start rest u none_inside in
    record {
      settings = w;
      width = x;
      has_width = h;
      rest = rest;
      events = e;
      under = u;
      entries = l.entries;
      text = text_is s ∙ ap (λ (t : List ℕ). t ++ refusal_text (ending_in s)) (put ∙ l.text);
      listed = rw (ap history_of e) l.listed;
    }

-- ---- by what the journal tells

or_false : (a b : Bool) → (a || b) ≡ false → (a ≡ false) × (b ≡ false)
or_false true b e = impossible cc
or_false false b e = (refl, e)

-- sizes that are not refused
few : (s : Settings) → bad_size s ≡ false → s.pos_dim ≤ max_pos
unfolding bad_size
few s e =
    let first = (or_false (ltb s.dim 1 || ltb 8 s.dim) _ e).1 in
    let sides = (or_false (ltb s.pos_dim 1 || ltb 8 s.pos_dim) _ first).0 in
    omega (arith, ltb-false 8 s.pos_dim (or_false (ltb s.pos_dim 1) (ltb 8 s.pos_dim) sides).1)

goes_told : (s : List ℕ) (w : Settings) (rest : List Instruction) → told_in (kinds_taken proximity) s ≡ begin w ∷ rest → w.pos_dim ≤ max_pos → Goes rest → Told s
unfolding begun_of
goes_told s w rest e small (plain g) =
    let is : events_in s ≡ began (begun_of w) ∷ events_from (begun_of w) rest = events_are s ∙ ap (events_from start_run) e in
    without (no_lines s (rw is (refl, no_widths (begun_of w) rest g)))
goes_told s w rest e small (measured x later q g) =
    let told : told_in (kinds_taken proximity) s ≡ begin w ∷ (width x ∷ later) = e ∙ ap (λ (l : List Instruction). begin w ∷ l) q in
    let is : events_in s ≡ began (begun_of w) ∷ (width_given (begun_of w) x ∷ events_from (begun_of w) later) = events_are s ∙ ap (events_from start_run) told in
    let has = told_taken s (begin w ∷ []) x later told in
    with_width_lem (with_lines s w x (events_from (begun_of w) later) has is small (all_under (config_of w) (begun_of w) later refl g))

told_by : (s : List ℕ) → Ordered s (told_in (kinds_taken proximity) s) → Told s
told_by s (nothing e) = let is : events_in s ≡ [] = events_are s ∙ ap (events_from start_run) e in without (no_lines s (rw is tt))
told_by s (under w rest e c g) = goes_told s w rest e (few w c.sizes) g

pub every_line : EveryLine
every_line s = record { told = told_by s (ordered (kinds_taken proximity) s); beside = (proximity_on_output s).beside }
