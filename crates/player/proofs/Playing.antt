-- A journal that is played into memory: what it does next, and how far it goes without an
-- instruction.
use Prim.Native.Nat.{ℕ, zero, suc, ◌+◌, ◌≤◌, ◌<◌}
use mathlib.Core.Path.{◌≡◌, refl, sym, ap, ◌∙◌}
use mathlib.Core.List.{List}
use mathlib.Core.Bool.{Bool, true, false}
use native.Mathlib.Omega.{arith}
use lib.ListN.{length, drop, length-drop}
use lib.Seq.{drop-drop}
use borrow.Author.Tests.{leb-true, leb-false, le-leb, lt-leb}
use Rattle.journal_refusals.specs.declared.Refusal.{Refusal}
use Rattle.stream.specs.Stream.{Next, wait, halt, go, tell, settled, advanced, takes, size}
use Rattle.stream.proofs.Stream.{impossible, goes, settled_go, advanced_go, advanced_wait, advanced_halt, advanced_tell}
use Rattle.journal_reader.specs.State.{State}
use Rattle.journal_reader.specs.Reading.{Instruction, on_bytes}
use Rattle.journal_reader.proofs.Reading.{machine}
use Rattle.text.specs.Memory.{has_room}
use Rattle.printer.specs.Printer.{event_room}
use Rattle.player.specs.Play.{Playing, full, with_reading, with_text, play_of}

played_takes : (p : Playing) (x : Next State Instruction Refusal) → takes (with_text p x) ≡ takes x
unfolding with_text
played_takes p wait = refl
played_takes p (halt r) = refl
played_takes p (go st k) = refl
played_takes p (tell st k i) = refl

played_size : (p : Playing) (x : Next State Instruction Refusal) → size (with_text p x) ≡ size x
unfolding with_text
played_size p wait = refl
played_size p (halt r) = refl
played_size p (go st k) = refl
played_size p (tell st k i) = refl

module _ (kinds : List ℕ) (room : ℕ) where
  -- with no room, and with room
  pub play_full : (p : Playing) (s : List ℕ) → room < p.n + event_room → play_of kinds room p s ≡ halt full
  unfolding play_of
  play_full p s h = rw (lt-leb (p.n + event_room) room h) refl

  pub play_room : (p : Playing) (s : List ℕ) → p.n + event_room ≤ room → (x : Next State Instruction Refusal) → on_bytes kinds p.state s ≡ x → play_of kinds room p s ≡ with_text p x
  unfolding play_of
  play_room p s h x e = rw (le-leb (p.n + event_room) room h) (ap (with_text p) e)

  there_by : (p : Playing) (s : List ℕ) (b : Bool) → has_room event_room p.n room ≡ b → takes (play_of kinds room p s) ≡ true
      → (0 < size (play_of kinds room p s)) × (size (play_of kinds room p s) ≤ length s)
  there_by p s true h y =
      let x = on_bytes kinds p.state s in
      let e : play_of kinds room p s ≡ with_text p x = play_room p s (leb-true (p.n + event_room) room h) x refl in
      let b = (machine kinds).there p.state s (sym (played_takes p x) ∙ ap takes (sym e) ∙ y) in
      let k : size (play_of kinds room p s) ≡ size x = ap size e ∙ played_size p x in
      (omega (arith, b.0, k), omega (arith, b.1, k))
  there_by p s false h y =
      let z : false ≡ true = ap takes (sym (play_full p s (leb-false (p.n + event_room) room h))) ∙ y in
      impossible cc

  -- a record that is taken is there
  pub play_there : (p : Playing) (s : List ℕ) → takes (play_of kinds room p s) ≡ true → (0 < size (play_of kinds room p s)) × (size (play_of kinds room p s) ≤ length s)
  play_there p s y = there_by p s (has_room event_room p.n room) refl y

  module _ (p : Playing) (h : p.n + event_room ≤ room) where
    abbrev Onward : State → List ℕ → Type 0
    Onward st s =
        settled (play_of kinds room) (with_reading p st) s
        ≡ settled (play_of kinds room) (with_reading p (advanced (on_bytes kinds) st s).state) (drop (advanced (on_bytes kinds) st s).used s)

    onward_by : (f : ℕ) → ((st : State) (s : List ℕ) → length s < f → Onward st s)
        → (st : State) (s : List ℕ) → length s ≤ f → (x : Next State Instruction Refusal) → on_bytes kinds st s ≡ x → Onward st s
    unfolding with_text
    onward_by f ih st s l wait e = rw (advanced_wait (on_bytes kinds) (machine kinds) st s e) refl
    onward_by f ih st s l (halt r) e = rw (advanced_halt (on_bytes kinds) (machine kinds) st s r e) refl
    onward_by f ih st s l (go st' k) e =
        let b = goes (on_bytes kinds) (machine kinds).there st s st' k e in
        let a = advanced (on_bytes kinds) st' (drop k s) in
        rw (advanced_go (on_bytes kinds) (machine kinds) st s st' k e)
        (settled_go (play_of kinds room) play_there (with_reading p st) s (with_reading p st') k (play_room (with_reading p st) s h (go st' k) e)
        ∙ ih st' (drop k s) (omega (arith, length-drop k s))
        ∙ ap (settled (play_of kinds room) (with_reading p a.state)) (drop-drop a.used k s))
    onward_by f ih st s l (tell st' k i) e = rw (advanced_tell (on_bytes kinds) (machine kinds) st s st' k i e) refl

    onward_at : (f : ℕ) (st : State) (s : List ℕ) → length s < f → Onward st s
    onward_at zero st s l = absurd (omega arith)
    onward_at (suc f) st s l = onward_by f (λ st' u q. onward_at f st' u q) st s (omega arith) (on_bytes kinds st s) refl

    -- the records up to the next instruction, with room for its event's text
    pub onward : (st : State) (s : List ℕ) → Onward st s
    onward st s = onward_at (suc (length s)) st s (omega arith)
