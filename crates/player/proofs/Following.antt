-- What bytes are played to, in terms of the reader: the same instructions, and what the reader
-- makes of the bytes that are left.
use Prim.Native.Nat.{ℕ, zero, suc, ◌+◌, ◌-◌, ◌≤◌, ◌<◌}
use mathlib.Core.Path.{◌≡◌, refl, sym, ap, ◌∙◌}
use mathlib.Core.List.{List, [], ◌∷◌}
use mathlib.Core.Bool.{Bool, true, false}
use native.Mathlib.Omega.{arith}
use lib.ListN.{length, take, drop, length-append, length-drop}
use lib.Seq.{drop-drop, take_at}
use lib.Ieee.{Float}
use borrow.Author.Tests.{leb-true, leb-false}
use Rattle.journal_refusals.specs.declared.Refusal.{Refusal}
use Rattle.stream.specs.Stream.{Next, wait, halt, go, tell, End, awaits, halted, Settled, telling, settled}
use Rattle.stream.proofs.Stream.{impossible, goes, tells_on, settled_wait, settled_halt, settled_go, settled_tell, telling_telling}
use Rattle.journal_reader.specs.State.{State}
use Rattle.journal_reader.specs.Reading.{Instruction, on_bytes}
use Rattle.journal_reader.proofs.Reading.{machine}
use Rattle.journal.specs.Events.{run_after, run_after_all, event_of, events_from}
use Rattle.text.specs.Memory.{has_room}
use Rattle.printer.specs.Printer.{Shows, shown_text, printer_after, printed, printer_after_all, event_room}
use Rattle.player.specs.declared.Played.{Played}
use Rattle.player.specs.Play.{Playing, Stop, refuses, full, with_reading, obeyed, with_text, play_of, fed_of, is_full, refused_by, played_of, text_by, Rests, Fed}
use Rattle.player.proofs.Playing.{play_full, play_room, play_there}

module _ (kinds : List ℕ) (room : ℕ) where
  -- some bytes are taken, unless there was no room from the start
  record Follows (p : Playing) (s : List ℕ) (a : Settled Playing Instruction Stop) : Type 0 where
    place : ℕ
    within : place ≤ length s
    rest_is : a.rest ≡ drop place s
    same : settled (on_bytes kinds) p.state s ≡ telling a.told (settled (on_bytes kinds) a.state.state a.rest)
    shows_is : a.state.printer.shows ≡ p.printer.shows
    run_is : a.state.run ≡ run_after_all p.run a.told
    printer_is : a.state.printer ≡ printer_after_all p.printer (events_from p.run a.told)
    count : a.state.n ≡ p.n + length (text_by p.printer p.run a.told)
    rests : is_full a.end ≡ false → Rests kinds a.state.state a.rest (refused_by a.end)
    further : p.n + event_room ≤ room → is_full a.end ≡ true → 0 < place

  abbrev play : Playing → List ℕ → Next Playing Instruction Stop
  play = play_of kinds room

  -- a record in front that tells nothing
  follows_go : (p : Playing) (st : State) (s : List ℕ) (k : ℕ) (a : Settled Playing Instruction Stop) → 0 < k → k ≤ length s
      → settled (on_bytes kinds) p.state s ≡ settled (on_bytes kinds) st (drop k s) → Follows (with_reading p st) (drop k s) a → Follows p s a
  follows_go p st s k a b c g f = record {
    place = k + f.place;
    within = omega (arith, f.within, length-drop k s);
    rest_is = f.rest_is ∙ drop-drop f.place k s;
    same = g ∙ f.same;
    shows_is = f.shows_is;
    run_is = f.run_is;
    printer_is = f.printer_is;
    count = f.count;
    rests = f.rests;
    further = λ h y. omega arith;
  }

  -- an instruction in front
  follows_tell : (p : Playing) (st : State) (s : List ℕ) (k : ℕ) (i : Instruction) (a : Settled Playing Instruction Stop) → 0 < k → k ≤ length s
      → settled (on_bytes kinds) p.state s ≡ telling (i ∷ []) (settled (on_bytes kinds) st (drop k s))
      → Follows (obeyed p st i) (drop k s) a → Follows p s (telling (i ∷ []) a)
  unfolding text_by printed printer_after_all obeyed
  follows_tell p st s k i a b c g f =
      let e = event_of p.run i in
      record {
        place = k + f.place;
        within = omega (arith, f.within, length-drop k s);
        rest_is = f.rest_is ∙ drop-drop f.place k s;
        same = g ∙ ap (telling (i ∷ [])) f.same ∙ telling_telling (i ∷ []) a.told (settled (on_bytes kinds) a.state.state a.rest);
        shows_is = f.shows_is;
        run_is = f.run_is;
        printer_is = f.printer_is;
        count = omega (arith, f.count, length-append (shown_text p.printer e) (printed (printer_after p.printer e) (events_from (run_after p.run i) a.told)));
        rests = f.rests;
        further = λ h y. omega arith;
      }

  -- no record
  follows_none : (p : Playing) (s : List ℕ) (x : End Stop) → (is_full x ≡ false → Rests kinds p.state s (refused_by x)) → (p.n + event_room ≤ room → is_full x ≡ true → ⊥)
      → Follows p s (record { state = p; rest = s; told = []; end = x })
  unfolding text_by printed printer_after_all
  follows_none p s x q h = record {
    place = 0;
    within = omega arith;
    rest_is = refl;
    same = refl;
    shows_is = refl;
    run_is = refl;
    printer_is = refl;
    count = (let z : p.n ≡ p.n + 0 = omega arith in z);
    rests = q;
    further = λ k y. absurd (h k y);
  }

  follows_by : (f : ℕ) → ((p : Playing) (s : List ℕ) → length s < f → Follows p s (settled play p s))
      → (p : Playing) (s : List ℕ) → length s ≤ f → (b : Bool) → has_room event_room p.n room ≡ b → (x : Next State Instruction Refusal) → on_bytes kinds p.state s ≡ x → Follows p s (settled play p s)
  unfolding with_text
  follows_by f ih p s l false h x e =
      let o = leb-false (p.n + event_room) room h in
      rw (settled_halt play (play_there kinds room) p s full (play_full kinds room p s o)) (follows_none p s (halted full) (λ y. impossible cc) (λ k y. omega arith))
  follows_by f ih p s l true h wait e =
      rw (settled_wait play (play_there kinds room) p s (play_room kinds room p s (leb-true (p.n + event_room) room h) wait e))
      (follows_none p s awaits (λ y. settled_wait (on_bytes kinds) (machine kinds).there p.state s e) (λ k y. impossible cc))
  follows_by f ih p s l true h (halt r) e =
      rw (settled_halt play (play_there kinds room) p s (refuses r) (play_room kinds room p s (leb-true (p.n + event_room) room h) (halt r) e))
      (follows_none p s (halted (refuses r)) (λ y. settled_halt (on_bytes kinds) (machine kinds).there p.state s r e) (λ k y. impossible cc))
  follows_by f ih p s l true h (go st k) e =
      let b = goes (on_bytes kinds) (machine kinds).there p.state s st k e in
      rw (settled_go play (play_there kinds room) p s (with_reading p st) k (play_room kinds room p s (leb-true (p.n + event_room) room h) (go st k) e))
      (follows_go p st s k (settled play (with_reading p st) (drop k s)) b.0 b.1 (settled_go (on_bytes kinds) (machine kinds).there p.state s st k e) (ih (with_reading p st) (drop k s) (omega (arith, length-drop k s))))
  follows_by f ih p s l true h (tell st k i) e =
      let b = tells_on (on_bytes kinds) (machine kinds).there p.state s st k i e in
      rw (settled_tell play (play_there kinds room) p s (obeyed p st i) k i (play_room kinds room p s (leb-true (p.n + event_room) room h) (tell st k i) e))
      (follows_tell p st s k i (settled play (obeyed p st i) (drop k s)) b.0 b.1 (settled_tell (on_bytes kinds) (machine kinds).there p.state s st k i e) (ih (obeyed p st i) (drop k s) (omega (arith, length-drop k s))))

  follows_at : (f : ℕ) (p : Playing) (s : List ℕ) → length s < f → Follows p s (settled play p s)
  follows_at zero p s l = absurd (omega arith)
  follows_at (suc f) p s l = follows_by f (λ p' u q. follows_at f p' u q) p s (omega arith) (has_room event_room p.n room) refl (on_bytes kinds p.state s) refl

-- ---- what was fed

-- the instructions `told` are those of the first bytes of s, and their text is in memory; the other
-- bytes give what is left of the journal
pub record Followed (kinds : List ℕ) (p : Playing) (s : List ℕ) (out : List ℕ) (r : Played) (l' : List Float) (out' : List ℕ) : Type 0 where
  pub told : List Instruction
  pub within : r.at ≤ length s
  pub goes : settled (on_bytes kinds) p.state s ≡ telling told (settled (on_bytes kinds) (record { reader = r.reader; lists = l' }) (drop r.at s))
  pub run_is : r.run ≡ run_after_all p.run told
  pub printer_is : record { shows = p.printer.shows; notes = r.notes } ≡ printer_after_all p.printer (events_from p.run told)
  pub text : take r.n out' ≡ text_by p.printer p.run told
  pub fits : r.n ≤ length out'
  pub further : event_room ≤ length out → r.more ≡ true → 0 < r.at
  pub stops : r.more ≡ false → Rests kinds (record { reader = r.reader; lists = l' }) (drop r.at s) r.refused

pub followed : (kinds : List ℕ) (p : Playing) (s : List ℕ) (out : List ℕ) (r : Played) (l' : List Float) (out' : List ℕ) → p.n ≡ 0 → Fed kinds p s out r l' out' → Followed kinds p s out r l' out'
unfolding fed_of played_of
followed kinds p s out r l' out' z q =
    let a = fed_of kinds p s (length out) in
    let f : Follows kinds (length out) p s a = follows_at kinds (length out) (suc (length s)) p s (omega arith) in
    let t = text_by p.printer p.run a.told in
    let k : length s - length a.rest ≡ f.place = omega (arith, ap length f.rest_is, length-drop f.place s, f.within) in
    let d : drop (length s - length a.rest) s ≡ a.rest = ap (λ (j : ℕ). drop j s) k ∙ sym f.rest_is in
    rw (q.answer, q.lists, q.memory)
    (record {
      told = a.told;
      within = omega arith;
      goes = rw d f.same;
      run_is = f.run_is;
      printer_is = ap (λ (w : Shows). record { shows = w; notes = a.state.printer.notes }) (sym f.shows_is) ∙ f.printer_is;
      text = take_at t (drop (length t) out) a.state.n (omega (arith, f.count, z));
      fits = omega (arith, f.count, z, length-append t (drop (length t) out));
      further = λ h y. omega (arith, k, f.further (omega (arith, h, z)) y);
      stops = λ y. rw d (f.rests y);
    })
