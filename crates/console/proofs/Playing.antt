-- A journal's step: what is played of some bytes.
use Prim.Native.Nat.{ℕ, ◌≤◌}
use mathlib.Core.Path.{◌≡◌, refl, ap, subst}
use mathlib.Core.List.{List}
use native.Mathlib.Omega.{arith}
use lib.ListN.{length}
use lib.Ieee.{Float}
use Rattle.std.specs.Prelude.{Option, None, Some}
use Rattle.std.specs.Option.{option_map, MatchOption, IsSomeAnd}
use Rattle.journal_refusals.specs.declared.Refusal.{Refusal}
use Rattle.journal_refusals.specs.Table.{number_of}
use Rattle.printer.specs.Printer.{Shows, kinds_taken}
use Rattle.player.specs.declared.Played as P
use Rattle.player.specs.Play.{playing_from, Fed}
use Rattle.player.proofs.Following.{Followed, followed}
use Rattle.console.specs.declared.Journal.{Journal}
use Rattle.console.specs.Rounds.{buffer_room, Steps}
use Rattle.console.specs.Console.{printer_of, JournalGoes, JournalRests}

-- the number of a refusal, where there is one
pub numbered : (E : Type 0) (number : E → ℕ) (o : Option E) (r : Option ℕ) (Q : E → ℕ → Type 0) → ((x : E) (y : ℕ) → Q x y → y ≡ number x) → MatchOption o (r ≡ None) (λ x. IsSomeAnd r (Q x)) → r ≡ option_map number o
numbered E number None r Q h m = m
numbered E number (Some x) None Q h m = absurd m
numbered E number (Some x) (Some y) Q h m = ap Some (h x y m)

module _ {X : Type 0} (sh : Shows) (kinds : List ℕ) (k : kinds ≡ kinds_taken sh) (j : Journal X) (s out : List ℕ) (room : buffer_room ≤ length out) (p : P.Played) (l' : List Float) (out' : List ℕ)
    (d : Fed kinds (playing_from (printer_of sh j) j.reader j.run j.lists) s out p l' out') where
  o : Followed (kinds_taken sh) (playing_from (printer_of sh j) j.reader j.run j.lists) s out p l' out'
  o = subst (λ (u : List ℕ). Followed u (playing_from (printer_of sh j) j.reader j.run j.lists) s out p l' out') k (followed kinds (playing_from (printer_of sh j) j.reader j.run j.lists) s out p l' out' refl d)

  pub step_is : (n : Option ℕ) → n ≡ option_map number_of p.refused
      → Steps (JournalGoes (kinds_taken sh) sh) (JournalRests (kinds_taken sh)) j s (record { at = p.at; n = p.n; more = p.more; refused = n })
      (record { reader = p.reader; run = p.run; notes = p.notes; lists = l'; printer = j.printer }) out'
  step_is n e = record {
    within = o.within;
    fits = o.fits;
    makes = record { told = o.told; goes = o.goes; run_is = o.run_is; printer_is = o.printer_is; text = o.text };
    further = o.further (omega (arith, room));
    stops = λ y. record { why = p.refused; number_is = e; rests = o.stops y };
  }
