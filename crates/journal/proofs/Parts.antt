-- The meaning of a journal whose bytes come in parts: where s leaves off, s ++ t goes on.
use Prim.Native.Nat.{ℕ, ◌-◌}
use mathlib.Core.Path.{◌≡◌, refl, sym, ap, ◌∙◌}
use mathlib.Core.List.{List, [], ◌++◌}
use lib.ListN.{length}
use Rattle.journal_refusals.specs.declared.Refusal.{Refusal}
use Rattle.stream.specs.Stream.{Settled, telling, settled, fed, whole}
use Rattle.stream.proofs.Stream.{joined, parts_are_whole}
use Rattle.journal_reader.specs.State.{State}
use Rattle.journal_reader.specs.Reading.{Instruction, on_bytes}
use Rattle.journal_reader.proofs.Reading.{machine}
use Rattle.journal.specs.declared.tick.Run.{Run}
use Rattle.journal.specs.Events.{run_after_all, events_from}
use Rattle.journal.specs.Journal.{start_state, start_run, Meaning, ending_of, journal_of}
use Rattle.journal.proofs.Events.{run_joined, events_joined}

-- the meaning of so many bytes, by where the reader settles
abbrev pub meaning_by : ℕ → Settled State Instruction Refusal → Meaning
meaning_by n a = record {
  events = events_from start_run a.told;
  ending = ending_of (n - length a.rest) a.rest a.end;
  left = record { state = a.state; run = run_after_all start_run a.told };
}

pub meaning_is : (kinds s : List ℕ) (a : Settled State Instruction Refusal) → settled (on_bytes kinds) start_state s ≡ a → journal_of kinds s ≡ meaning_by (length s) a
unfolding journal_of
meaning_is kinds s a e = rw e refl

-- a reader that is fed the parts one after the other comes to what the whole means
pub parts_mean : (kinds : List ℕ) (parts : List (List ℕ)) → journal_of kinds (whole parts) ≡ meaning_by (length (whole parts)) (fed (on_bytes kinds) start_state [] parts)
parts_mean kinds parts = meaning_is kinds (whole parts) (fed (on_bytes kinds) start_state [] parts) (sym (parts_are_whole (on_bytes kinds) (machine kinds) start_state [] parts))

-- the reader goes on with t after what s left over
abbrev pub after_part : List ℕ → List ℕ → List ℕ → Settled State Instruction Refusal
after_part kinds s t = settled (on_bytes kinds) (journal_of kinds s).left.state ((settled (on_bytes kinds) start_state s).rest ++ t)

pub record GoesOnWith (kinds s t : List ℕ) : Type 0 where
  pub events : (journal_of kinds (s ++ t)).events ≡ (journal_of kinds s).events ++ events_from (journal_of kinds s).left.run (after_part kinds s t).told
  pub ending : (journal_of kinds (s ++ t)).ending ≡ ending_of (length (s ++ t) - length (after_part kinds s t).rest) (after_part kinds s t).rest (after_part kinds s t).end
  pub left : (journal_of kinds (s ++ t)).left ≡ record { state = (after_part kinds s t).state; run = run_after_all (journal_of kinds s).left.run (after_part kinds s t).told }

pub journal_joined : (kinds s t : List ℕ) → GoesOnWith kinds s t
unfolding journal_of
journal_joined kinds s t =
    let a = settled (on_bytes kinds) start_state s in
    let b = after_part kinds s t in
    let e = meaning_is kinds (s ++ t) (telling a.told b) (joined (on_bytes kinds) (machine kinds) start_state s t) in
    record {
      events = ap (λ (m : Meaning). m.events) e ∙ events_joined start_run a.told b.told;
      ending = ap (λ (m : Meaning). m.ending) e;
      left = ap (λ (m : Meaning). m.left) e ∙ ap (λ (r : Run). record { state = b.state; run = r }) (run_joined start_run a.told b.told);
    }
