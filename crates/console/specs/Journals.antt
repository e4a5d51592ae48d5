-- A journal that is played is a machine: what it makes of bytes in parts it makes of them at once.
use Prim.Native.Nat.{ℕ, ◌<◌}
use mathlib.Core.Path.{◌≡◌, refl, sym, ap, ap₂, ◌∙◌}
use mathlib.Core.List.{List, [], ◌++◌}
use native.Mathlib.Omega.{arith}
use lib.ListN.{length}
use Rattle.std.specs.Prelude.{Option, None, Some}
use Rattle.std.specs.Option.{option_map}
use Rattle.journal_refusals.specs.declared.Refusal.{Refusal}
use Rattle.journal_refusals.specs.Table.{number_of}
use Rattle.stream.specs.Stream.{telling, settled}
use Rattle.stream.proofs.Stream.{impossible, joined, settled_still, telling_telling}
use Rattle.journal_frames.specs.Frames.{ShortRecords}
use Rattle.journal_reader.specs.State.{State}
use Rattle.journal_reader.specs.Reading.{Instruction, on_bytes}
use Rattle.journal_reader.proofs.Reading.{machine, waits_short, journal_short}
use Rattle.journal.specs.declared.tick.Run.{Run}
use Rattle.journal.specs.Events.{run_after_all, events_from}
use Rattle.journal.proofs.Events.{run_joined, events_joined}
use Rattle.printer.specs.Printer.{Shows, Printer, kinds_taken, printed, printer_after_all}
use Rattle.printer.proofs.Parts.{after_append}
use Rattle.player.specs.Play.{text_by, Rests}
use Rattle.player.proofs.Feeding.{text_append}
use Rattle.console.specs.declared.Journal.{Journal}
use Rattle.console.specs.Rounds.{buffer_room, MachineLaws}
use Rattle.console.specs.Console.{state_of, printer_of, JournalGoes, JournalRests}

-- no refusal has no number
pub none_is : (why : Option Refusal) → None ≡ option_map number_of why → why ≡ None
none_is None e = refl
none_is (Some f) e = impossible cc

-- where a reader only waits, it waits for the rest of a record
rests_short : (kinds : List ℕ) → ShortRecords kinds → (st : State) (s : List ℕ) → Rests kinds st s None → length s < buffer_room
rests_short kinds short st s q = omega (arith, waits_short kinds short st s (rw q at (settled_still (on_bytes kinds) (machine kinds) st s)))

-- what is told of some bytes is told first with more after them
pub more_bytes : (kinds : List ℕ) (st : State) (s : List ℕ) (told : List Instruction) (st' : State) (s' t : List ℕ) → settled (on_bytes kinds) st s ≡ telling told (settled (on_bytes kinds) st' s')
    → settled (on_bytes kinds) st (s ++ t) ≡ telling told (settled (on_bytes kinds) st' (s' ++ t))
more_bytes kinds st s told st' s' t e =
    let a = settled (on_bytes kinds) st' s' in
    joined (on_bytes kinds) (machine kinds) st s t
    ∙ rw e (sym (telling_telling told a.told (settled (on_bytes kinds) a.state (a.rest ++ t))))
    ∙ ap (telling told) (sym (joined (on_bytes kinds) (machine kinds) st' s' t))

-- the kinds that a program takes have no record that memory has no room for
pub taken_short : (w : Shows) → ShortRecords (kinds_taken w)
unfolding kinds_taken
taken_short w = journal_short

module _ {P : Type 0} (kinds : List ℕ) (w : Shows) where
  goes_still : (j : Journal P) (s : List ℕ) → JournalGoes kinds w j s [] j s
  unfolding text_by printed printer_after_all
  goes_still j s = record { told = []; goes = refl; run_is = refl; printer_is = refl; text = refl }

  goes_further : (j : Journal P) (s t : List ℕ) (j' : Journal P) (s' c t' : List ℕ) (j'' : Journal P) (s'' : List ℕ)
      → JournalGoes kinds w j s t j' s' → JournalGoes kinds w j' (s' ++ c) t' j'' s'' → JournalGoes kinds w j (s ++ c) (t ++ t') j'' s''
  goes_further j s t j' s' c t' j'' s'' x y =
      let p = printer_of w j in
      record {
        told = x.told ++ y.told;
        goes =
            more_bytes kinds (state_of j) s x.told (state_of j') s' c x.goes
            ∙ ap (telling x.told) y.goes
            ∙ telling_telling x.told y.told (settled (on_bytes kinds) (state_of j'') s'');
        run_is = y.run_is ∙ ap (λ (u : Run). run_after_all u y.told) x.run_is ∙ sym (run_joined j.run x.told y.told);
        printer_is =
            y.printer_is
            ∙ ap₂ (λ (u : Printer) (v : Run). printer_after_all u (events_from v y.told)) x.printer_is x.run_is
            ∙ sym (after_append p (events_from j.run x.told) (events_from (run_after_all j.run x.told) y.told))
            ∙ ap (printer_after_all p) (sym (events_joined j.run x.told y.told));
        text =
            ap₂ ◌++◌ x.text (y.text ∙ ap₂ (λ (u : Printer) (v : Run). text_by u v y.told) x.printer_is x.run_is)
            ∙ sym (text_append p j.run x.told y.told);
      }

  module _ (short : ShortRecords kinds) where
    rests_wait : (j : Journal P) (s : List ℕ) → JournalRests kinds j s None → length s < buffer_room
    rests_wait j s q = rests_short kinds short (state_of j) s (rw (none_is q.why q.number_is) at q.rests)

    pub journal_laws : MachineLaws (JournalGoes {P = P} kinds w) (JournalRests {P = P} kinds)
    journal_laws = record { still = goes_still; further = goes_further; short = rests_wait }
