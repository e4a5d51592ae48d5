-- Every tick after an opening is in an episode: the last opening before it begins one.
use mathlib.Core.Path.{◌≡◌, refl, sym, ap, subst}
use mathlib.Core.List.{List, [], ◌∷◌, ◌++◌, map, append_assoc}
use Prim.Native.Nat.{ℕ}
use Rattle.lictor_core.specs.declared.envelope.Settings.{Settings}
use Rattle.journal_reader.specs.Reading.{Brought, Instruction, begin, restart, tick, width}
use Rattle.stream.proofs.Stream.{impossible}
use Rattle.claims.specs.Runs.{All}
use Rattle.journal_claims.specs.JournalStops.{GoesOn, Opens, EndsWith}

-- one tick more
one_tick : (cs : List Brought) (d : Brought) (is : List Instruction) → map tick cs ++ (tick d ∷ is) ≡ map tick (cs ++ (d ∷ [])) ++ is
one_tick [] d is = refl
one_tick (c ∷ cs) d is = ap (λ (l : List Instruction). tick c ∷ l) (one_tick cs d is)

module _ (c : Brought) (later : List Instruction) where
  -- with the opening i and the ticks cs after `pre`, and then more, up to c
  abbrev Found : List Instruction → Instruction → List Brought → List Instruction → Type 0
  Found pre i cs more = EndsWith (pre ++ (i ∷ (map tick cs ++ (more ++ (tick c ∷ later))))) c later

  -- the next opening takes its place
  anew : (pre : List Instruction) (i : Instruction) (cs : List Brought) (j : Instruction) (more : List Instruction) → Found (pre ++ (i ∷ map tick cs)) j [] more → Found pre i cs (j ∷ more)
  anew pre i cs j more f = subst (λ (l : List Instruction). EndsWith l c later) (append_assoc pre (i ∷ map tick cs) (j ∷ (more ++ (tick c ∷ later)))) f

  find : (more pre : List Instruction) (i : Instruction) (cs : List Brought) → Opens i → All GoesOn (more ++ (tick c ∷ later)) → Found pre i cs more
  find [] pre i cs o n =
      record {
        before = pre;
        opening = i;
        ticks = cs;
        episode = record { opens = o; cut = ap (λ (l : List Instruction). pre ++ (i ∷ l)) (one_tick cs c later) };
      }
  find (begin s ∷ more) pre i cs o n = absurd n.0
  find (restart ∷ more) pre i cs o n = anew pre i cs restart more (find more (pre ++ (i ∷ map tick cs)) restart [] tt n.1)
  find (tick d ∷ more) pre i cs o n =
      subst (λ (l : List Instruction). EndsWith (pre ++ (i ∷ l)) c later) (sym (one_tick cs d (more ++ (tick c ∷ later)))) (find more pre i (cs ++ (d ∷ [])) o n.1)
  find (width w ∷ more) pre i cs o n = absurd n.0

  -- where the settings come first
  pub behind_settings : (before : List Instruction) (w : Settings) (rest : List Instruction) → before ++ (tick c ∷ later) ≡ begin w ∷ rest
      → All GoesOn rest → EndsWith (before ++ (tick c ∷ later)) c later
  behind_settings [] w rest e n = impossible cc
  behind_settings (i ∷ before) w rest e n =
      let q : i ≡ begin w = cc in
      let p : before ++ (tick c ∷ later) ≡ rest = cc in
      find before [] i [] (rw q tt) (subst (All GoesOn) (sym p) n)
