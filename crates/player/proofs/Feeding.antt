-- From instruction to instruction: what `read` answers, in terms of where the journal settles.
use Prim.Native.Nat.{ℕ, suc, ◌+◌, ◌-◌, ◌≤◌, ◌<◌}
use mathlib.Core.Path.{◌≡◌, refl, sym, ap, ap₂, subst, ◌∙◌}
use mathlib.Core.List.{List, [], ◌∷◌, ◌++◌, append-nil}
use mathlib.Core.Bool.{Bool, true, false, cond}
use native.Mathlib.Omega.{arith}
use lib.ListN.{length, take, drop, length-drop}
use lib.Seq.{drop-drop, take-length, take_all}
use lib.Ieee.{Float}
use borrow.Author.Tests.{leb-true, leb-false}
use Rattle.lictor_core.specs.declared.fuse.TickInput.{TickInput}
use Rattle.journal_refusals.specs.declared.Refusal.{Refusal}
use Rattle.std.specs.Prelude.{Option, None, Some}
use Rattle.journal_records.specs.Long.{settings_of}
use Rattle.journal_frames.specs.Frames.{body_of}
use Rattle.stream.specs.Stream.{Next, wait, halt, go, tell, awaits, halted, Settled, telling, settled, Advanced, advanced, goes_on, size}
use Rattle.stream.proofs.Stream.{impossible, Ahead, ahead, settled_wait, settled_halt, settled_tell, goes, tells_on, telling_telling}
use Rattle.journal_reader.specs.declared.waiting.Reader.{Reader}
use Rattle.journal_reader.specs.declared.Progress.{Progress}
use Rattle.journal_reader.specs.declared.What.TheVariants as W
use Rattle.journal_reader.specs.State.{State, settings_came, width_came, emptied}
use Rattle.journal_reader.specs.Reading.{Instruction, begin, restart, tick, width, Brought, brought_of, with_reader, on_bytes, what_of, read_of, lists_read}
use Rattle.journal_reader.proofs.Reading.{machine, begins_is, resets_is, ticks_is, width_is}
use Rattle.journal.specs.declared.tick.Run.{Run}
use Rattle.journal.specs.declared.tick.Reported.{Reported}
use Rattle.journal.specs.Events.{run_after, run_after_all, Event, ticked, event_of, events_from, reported_of}
use Rattle.journal.proofs.Events.{reported_event, reported_run, run_joined, events_joined}
use Rattle.text.specs.Memory.{Put, has_room}
use Rattle.text.proofs.Puts.{put_none, put_on}
use Rattle.printer.specs.declared.Shown.{Shown}
use Rattle.printer.specs.Printer.{Shows, Printer, shown_text, printed, printer_after_all, event_room, ShownIn, showing}
use Rattle.printer.proofs.Rooms.{shown_there}
use Rattle.printer.proofs.Parts.{printed_append, after_append}
use Rattle.player.specs.declared.Played.{Played}
use Rattle.player.specs.Play.{Playing, Stop, refuses, full, with_reading, obeyed, with_text, play_of, fed_of, played_of, text_by, Fed, goes_on_of, obeyed_by, Obeys, playing_of, Stopped, PlayedUpTo, PlayedOn}
use Rattle.player.proofs.Playing.{play_full, play_room, play_there, onward}

-- the part from a place on
part_from : (s : List ℕ) (at : ℕ) → take (length s - at) (drop at s) ≡ drop at s
part_from s at = take_all (length s - at) (drop at s) (omega (arith, length-drop at s))

-- the text of instructions, and of more after them
pub text_append : (p : Printer) (run : Run) (a b : List Instruction) → text_by p run (a ++ b) ≡ text_by p run a ++ text_by (printer_after_all p (events_from run a)) (run_after_all run a) b
unfolding text_by
text_append p run a b = ap (printed p) (events_joined run a b) ∙ printed_append p (events_from run a) (events_from (run_after_all run a) b)

-- an instruction whose event was shown
pub obeys : (sh : Shows) (p : Played) (rd : Reader) (x : Instruction) (e : Event) → e ≡ event_of p.run x → (run : Run) → run ≡ run_after p.run x
    → (out : List ℕ) → p.n + event_room ≤ length out → (w : Shown) (out' : List ℕ) → ShownIn (showing sh p.notes) e out p.n w out'
    → Obeys sh p rd x out (record { reader = rd; run = run; notes = w.notes; at = p.at; n = w.n; more = p.more; refused = p.refused }) out'
unfolding obeyed_by
obeys sh p rd x e y run z out room w out' q =
    let t = rw y at (shown_there out p.n (showing sh p.notes) e room w out' q) in
    record { answer = rw (z, t.0, t.1.ends) refl; text = t.1 }

-- a tick that was reported and shown
pub obeys_tick : (sh : Shows) (p : Played) (rd : Reader) (c : Brought) (t : Reported) → t ≡ reported_of p.run c → (pos : List Float) → pos ≡ c.pos
    → (out : List ℕ) → p.n + event_room ≤ length out → (w : Shown) (out' : List ℕ)
    → ShownIn (showing sh p.notes) (ticked (record { input = c.input; pos = pos; guard = t.guard; verdict = t.verdict; run = t.run })) out p.n w out'
    → Obeys sh p rd (tick c) out (record { reader = rd; run = t.run; notes = w.notes; at = p.at; n = w.n; more = p.more; refused = p.refused }) out'
obeys_tick sh p rd c t e pos y out room w out' q = obeys sh p rd (tick c) _ (rw (e, y) (sym (reported_event p.run c))) t.run (rw e (reported_run p.run c)) out room w out' q

-- ---- what comes next, by what `read` says of it

what_waits : (x : Next State Instruction Refusal) → goes_on x ≡ false → what_of x ≡ W.Waits → x ≡ wait
what_waits wait g e = refl
what_waits (halt r) g e = impossible cc
what_waits (go st n) g e = impossible cc
what_waits (tell st n (begin s)) g e = impossible cc
what_waits (tell st n restart) g e = impossible cc
what_waits (tell st n (tick c)) g e = impossible cc
what_waits (tell st n (width w)) g e = impossible cc

what_refuses : (x : Next State Instruction Refusal) (r : Refusal) → what_of x ≡ W.Refuses r → x ≡ halt r
what_refuses wait r e = impossible cc
what_refuses (halt r') r e = let q : r' ≡ r = cc in ap halt q
what_refuses (go st n) r e = impossible cc
what_refuses (tell st n (begin s)) r e = impossible cc
what_refuses (tell st n restart) r e = impossible cc
what_refuses (tell st n (tick c)) r e = impossible cc
what_refuses (tell st n (width w)) r e = impossible cc

-- ---- up to the next instruction

module _ (kinds : List ℕ) (sh : Shows) (p : Played) (l : List Float) (s : List ℕ) (h : p.at ≤ length s) (a : Progress) (l' : List Float)
    (e₀ : a ≡ read_of kinds (record { reader = p.reader; lists = l }) (take (length s - p.at) (drop p.at s)))
    (f₀ : l' ≡ lists_read kinds (record { reader = p.reader; lists = l }) (take (length s - p.at) (drop p.at s))) where
  abbrev at : ℕ
  at = p.at

  abbrev st : State
  st = record { reader = p.reader; lists = l }

  e : a ≡ read_of kinds st (drop at s)
  e = e₀ ∙ ap (read_of kinds st) (part_from s at)

  f : l' ≡ lists_read kinds st (drop at s)
  f = f₀ ∙ ap (lists_read kinds st) (part_from s at)

  abbrev far : Advanced State Instruction Refusal
  far = advanced (on_bytes kinds) st (drop at s)

  abbrev there : Ahead (on_bytes kinds) (machine kinds) st (drop at s) far
  there = ahead (on_bytes kinds) (machine kinds) st (drop at s)

  -- the reader there, and the place
  abbrev v : State
  v = record { reader = a.reader; lists = l' }

  abbrev i : ℕ
  i = at + a.used

  v_is : v ≡ far.state
  unfolding read_of lists_read
  v_is = rw (e, f) refl

  used_is : a.used ≡ far.used
  unfolding read_of
  used_is = rw e refl

  end_is : a.end ≡ a.used + size far.next
  unfolding read_of
  end_is = rw e refl

  rest_is : drop far.used (drop at s) ≡ drop i s
  rest_is = ap (λ (k : ℕ). drop k (drop at s)) (sym used_is) ∙ drop-drop a.used at s

  next_is : on_bytes kinds v (drop i s) ≡ far.next
  next_is = ap₂ (on_bytes kinds) v_is (sym rest_is) ∙ there.then

  what_is : a.what ≡ what_of (on_bytes kinds v (drop i s))
  unfolding read_of
  what_is = ap (λ (x : Progress). x.what) e ∙ ap what_of (sym next_is)

  size_is : a.end ≡ a.used + size (on_bytes kinds v (drop i s))
  size_is = end_is ∙ ap (λ (x : Next State Instruction Refusal). a.used + size x) (sym next_is)

  used_within : i ≤ length s
  used_within = omega (arith, there.within, length-drop at s, used_is)

  -- before the instruction, with its end for the place
  abbrev here : Played
  here = record { reader = a.reader; run = p.run; notes = p.notes; at = at + a.end; n = p.n; more = true; refused = None }

  module _ (out : List ℕ) (room : p.n + event_room ≤ length out) where
    abbrev play : Playing → List ℕ → Next Playing Instruction Stop
    play = play_of kinds (length out)

    goes_there : settled play (playing_of sh p l) (drop at s) ≡ settled play (playing_of sh here l') (drop i s)
    goes_there = onward kinds (length out) (playing_of sh p l) room st (drop at s) ∙ ap₂ (λ (x : State) (u : List ℕ). settled play (with_reading (playing_of sh p l) x) u) (sym v_is) rest_is

    -- ---- no instruction

    module _ (why : Option Refusal) where
      abbrev over : Played
      over = record { reader = a.reader; run = p.run; notes = p.notes; at = at + a.end; n = p.n; more = false; refused = why }

      over_by : a.end ≡ a.used → Stopped kinds (length out) (playing_of sh over l') (drop i s) false why → PlayedOn kinds sh p l s out over l' out
      unfolding text_by printed printer_after_all
      over_by z q =
          let k : at + a.end ≡ i = omega (arith, z) in
          record {
            told = [];
            plays = record {
              from = omega arith;
              within = omega (arith, used_within, k);
              goes = rw k goes_there;
              run_is = refl;
              printer_is = refl;
              text = put_none out p.n;
            };
            further = λ y. impossible cc;
            none = λ y. impossible cc;
            stops = λ y. rw k q;
          }

    pub on_waits : a.what ≡ W.Waits → PlayedOn kinds sh p l s out (over None) l' out
    unfolding with_text
    on_waits y =
        let w = what_waits (on_bytes kinds v (drop i s)) (ap goes_on next_is ∙ there.stops) (sym what_is ∙ y) in
        over_by None (omega (arith, size_is, ap size w)) (record {
          end = awaits;
          stays = settled_wait play (play_there kinds (length out)) (playing_of sh here l') (drop i s) (play_room kinds (length out) (playing_of sh here l') (drop i s) room wait w);
          more_is = refl;
          refused_is = refl;
        })

    pub on_refuses : (r : Refusal) → a.what ≡ W.Refuses r → PlayedOn kinds sh p l s out (over (Some r)) l' out
    unfolding with_text
    on_refuses r y =
        let w = what_refuses (on_bytes kinds v (drop i s)) r (sym what_is ∙ y) in
        over_by (Some r) (omega (arith, size_is, ap size w)) (record {
          end = halted (refuses r);
          stays = settled_halt play (play_there kinds (length out)) (playing_of sh here l') (drop i s) (refuses r) (play_room kinds (length out) (playing_of sh here l') (drop i s) room (halt r) w);
          more_is = refl;
          refused_is = refl;
        })

    -- ---- an instruction, which leaves the reader so

    module _ (rd : Reader) (x : Instruction) (k : ℕ) (w : on_bytes kinds v (drop i s) ≡ tell (with_reader v rd) k x) where
      end_place_lem : at + a.end ≡ i + k
      end_place_lem = omega (arith, size_is, ap size w)

      fits : (0 < k) × (i + k ≤ length s)
      fits =
          let b = tells_on (on_bytes kinds) (machine kinds).there v (drop i s) (with_reader v rd) k x w in
          (b.0, omega (arith, b.1, length-drop i s, used_within))

      goes_on_lem : settled play (playing_of sh p l) (drop at s)
          ≡ telling (x ∷ []) (settled play (playing_of sh (obeyed_by sh here rd x) l') (drop (at + a.end) s))
      unfolding with_text obeyed obeyed_by
      goes_on_lem =
          goes_there
          ∙ settled_tell play (play_there kinds (length out)) (playing_of sh here l') (drop i s) (obeyed (playing_of sh here l') (with_reader v rd) x) k x
          (play_room kinds (length out) (playing_of sh here l') (drop i s) room (tell (with_reader v rd) k x) w)
          ∙ ap (λ (u : List ℕ). telling (x ∷ []) (settled play (playing_of sh (obeyed_by sh here rd x) l') u)) (drop-drop k i s ∙ ap (λ (j : ℕ). drop j s) (sym end_place_lem))

      on_tells : (r : Played) (out' : List ℕ) → Obeys sh here rd x out r out' → PlayedOn kinds sh p l s out r l' out'
      unfolding text_by printed printer_after_all obeyed_by
      on_tells r out' o =
          rw o.answer
          (record {
            told = x ∷ [];
            plays = record {
              from = omega arith;
              within = omega (arith, fits.1, end_place_lem);
              goes = goes_on_lem;
              run_is = refl;
              printer_is = refl;
              text = rw (append-nil (shown_text (showing sh p.notes) (event_of p.run x))) (rw o.answer at o.text);
            };
            further = λ z. omega (arith, end_place_lem, fits.0);
            none = λ z. refl;
            stops = λ z. impossible cc;
          })

    -- ---- settings, a reset, a tick, a width

    pub on_resets : a.what ≡ W.Resets → (r : Played) (out' : List ℕ) → Obeys sh here (emptied a.reader) restart out r out' → PlayedOn kinds sh p l s out r l' out'
    on_resets y = on_tells (emptied a.reader) restart _ (resets_is kinds v (drop i s) (sym what_is ∙ y))

    pub on_ticks : (x : TickInput) → a.what ≡ W.Ticks x → (r : Played) (out' : List ℕ) → Obeys sh here (emptied a.reader) (tick (brought_of v x)) out r out' → PlayedOn kinds sh p l s out r l' out'
    on_ticks x y = on_tells (emptied a.reader) (tick (brought_of v x)) _ (ticks_is kinds v (drop i s) x (sym what_is ∙ y))

    pub on_width : (x : Float) → a.what ≡ W.GivesWidth x → (r : Played) (out' : List ℕ) → Obeys sh here (width_came a.reader) (width x) out r out' → PlayedOn kinds sh p l s out r l' out'
    on_width x y = on_tells (width_came a.reader) (width x) _ (width_is kinds v (drop i s) x (sym what_is ∙ y))

    -- settings of n bytes, of which the body b was read
    begins_by : (n : ℕ) → on_bytes kinds v (drop i s) ≡ tell (with_reader v (settings_came a.reader)) (suc n) (begin (settings_of (body_of n (drop i s))))
        → (b : List ℕ) → b ≡ take (at + a.end - (i + 1)) (drop (i + 1) s)
        → (r : Played) (out' : List ℕ) → Obeys sh here (settings_came a.reader) (begin (settings_of b)) out r out' → PlayedOn kinds sh p l s out r l' out'
    begins_by n w b z r out' o =
        let k : at + a.end - (i + 1) ≡ n = omega (arith, size_is, ap size w) in
        let q : b ≡ body_of n (drop i s) = z ∙ ap₂ take k (sym (drop-drop 1 i s)) in
        on_tells (settings_came a.reader) (begin (settings_of (body_of n (drop i s)))) (suc n) w r out'
        (subst (λ (u : List ℕ). Obeys sh here (settings_came a.reader) (begin (settings_of u)) out r out') q o)

    pub on_begins : a.what ≡ W.Begins → (b : List ℕ) → b ≡ take (at + a.end - (i + 1)) (drop (i + 1) s)
        → (r : Played) (out' : List ℕ) → Obeys sh here (settings_came a.reader) (begin (settings_of b)) out r out' → PlayedOn kinds sh p l s out r l' out'
    on_begins y = begins_by _ (begins_is kinds v (drop i s) (sym what_is ∙ y))

  -- ---- where the record ends

  size_fits : (x : Next State Instruction Refusal) → on_bytes kinds v (drop i s) ≡ x → size x ≤ length (drop i s)
  size_fits wait w = omega arith
  size_fits (halt r) w = omega arith
  size_fits (go st' k) w = (goes (on_bytes kinds) (machine kinds).there v (drop i s) st' k w).1
  size_fits (tell st' k x) w = (tells_on (on_bytes kinds) (machine kinds).there v (drop i s) st' k x w).1

  pub end_within : (i ≤ at + a.end) × (at + a.end ≤ length s)
  end_within = (omega (arith, size_is), omega (arith, size_is, size_fits (on_bytes kinds v (drop i s)) refl, length-drop i s, used_within))

  begins_size : (n : ℕ) (st' : State) (x : Instruction) → on_bytes kinds v (drop i s) ≡ tell st' (suc n) x → i + 1 ≤ at + a.end
  begins_size n st' x w = omega (arith, size_is, ap size w)

  pub body_within : a.what ≡ W.Begins → i + 1 ≤ at + a.end
  body_within y = begins_size _ _ _ (begins_is kinds v (drop i s) (sym what_is ∙ y))

-- ---- from instruction to instruction

-- there are fewer bytes left, or no more to do
less_by : (long at at' : ℕ) → at ≤ at' → at' ≤ long → (m : Bool) → (m ≡ true → at < at') → long - at' + cond m 1 0 < long - at + 1
less_by long at at' h k true y = omega (arith, y refl)
less_by long at at' h k false y = omega arith

pub on_less : (long at at' : ℕ) → at ≤ at' → at' ≤ long → (more m : Bool) → more ≡ true → (m ≡ true → at < at') → long - at' + cond m 1 0 < long - at + cond more 1 0
on_less long at at' h k more m e y = rw e (less_by long at at' h k m y)

-- more to do: the last was an instruction, and there is room
more_by : (t : Bool) (n room : ℕ) (b : Bool) → has_room event_room n room ≡ b → cond b t false ≡ true → (t ≡ true) × (n + event_room ≤ room)
more_by t n room true e y = (y, leb-true (n + event_room) room e)
more_by t n room false e y = impossible cc

pub goes_on_is : (t : Bool) (n room : ℕ) (m : Bool) → m ≡ goes_on_of t n room → m ≡ true → (t ≡ true) × (n + event_room ≤ room)
unfolding goes_on_of
goes_on_is t n room m e y = more_by t n room (has_room event_room n room) refl (sym e ∙ y)

-- nothing more to do: no more is to be had, or there is no room
module _ (kinds : List ℕ) (room : ℕ) (p : Playing) (s : List ℕ) (why : Option Refusal) where
  over_room : (t : Bool) → (t ≡ true → why ≡ None) → (t ≡ false → Stopped kinds room p s t why)
      → (b : Bool) → has_room event_room p.n room ≡ b → cond b t false ≡ false → Stopped kinds room p s t why
  over_room false none stops b e y = stops refl
  over_room true none stops true e y = impossible cc
  over_room true none stops false e y = record {
    end = halted full;
    stays = settled_halt (play_of kinds room) (play_there kinds room) p s full (play_full kinds room p s (leb-false (p.n + event_room) room e));
    more_is = refl;
    refused_is = none refl;
  }

  over_is : (t : Bool) (m : Bool) → m ≡ goes_on_of t p.n room → (t ≡ true → why ≡ None) → (t ≡ false → Stopped kinds room p s t why) → m ≡ false → Stopped kinds room p s t why
  unfolding goes_on_of
  over_is t m e none stops y = over_room t none stops (has_room event_room p.n room) refl (sym e ∙ y)

-- ---- from the first byte

-- before the first record
abbrev first : Playing → Played
first p = record { reader = p.state.reader; run = p.run; notes = p.printer.notes; at = 0; n = 0; more = true; refused = None }

-- what was played so far, from p to r, and where no more is to be had, why
pub record Since (kinds : List ℕ) (sh : Shows) (p : Played) (l₀ : List Float) (s out₀ : List ℕ) (r : Played) (l : List Float) (out : List ℕ) : Type 0 where
  pub told : List Instruction
  pub plays : PlayedUpTo kinds sh (length out₀) p l₀ s out₀ told r l out
  pub long : length out ≡ length out₀
  pub none : r.more ≡ true → r.refused ≡ None
  pub stops : r.more ≡ false → Stopped kinds (length out₀) (playing_of sh r l) (drop r.at s) r.more r.refused

pub since_first : (kinds : List ℕ) (p : Playing) (s out : List ℕ) → Since kinds p.printer.shows (first p) p.state.lists s out (first p) p.state.lists out
unfolding text_by printed printer_after_all
since_first kinds p s out = record {
  told = [];
  plays = record { from = omega arith; within = omega arith; goes = refl; run_is = refl; printer_is = refl; text = put_none out 0 };
  long = refl;
  none = λ y. refl;
  stops = λ y. impossible cc;
}

-- one way after the other
plays_on : (kinds : List ℕ) (sh : Shows) (room : ℕ) (p : Played) (l : List Float) (s out : List ℕ) (told : List Instruction) (q : Played) (l' : List Float) (out' : List ℕ) (more : List Instruction) (r : Played)
    (l'' : List Float) (out'' : List ℕ) → p.n ≤ length out → PlayedUpTo kinds sh room p l s out told q l' out' → PlayedUpTo kinds sh room q l' s out' more r l'' out'' → PlayedUpTo kinds sh room p l s out (told ++ more) r l'' out''
plays_on kinds sh room p l s out told q l' out' more r l'' out'' h x y =
    let play = play_of kinds room in
    let Goes-after = y.goes in
    record {
      from = omega (arith, x.from, y.from);
      within = y.within;
      goes = x.goes ∙ ap (telling told) Goes-after ∙ telling_telling told more (settled play (playing_of sh r l'') (drop r.at s));
      run_is = y.run_is ∙ ap (λ (u : Run). run_after_all u more) x.run_is ∙ sym (run_joined p.run told more);
      printer_is =
          y.printer_is
          ∙ ap₂ (λ (u : Printer) (w : Run). printer_after_all u (events_from w more)) x.printer_is x.run_is
          ∙ sym (after_append (showing sh p.notes) (events_from p.run told) (events_from (run_after_all p.run told) more))
          ∙ ap (printer_after_all (showing sh p.notes)) (sym (events_joined p.run told more));
      text =
          rw (text_append (showing sh p.notes) p.run told more)
          (put_on out p.n (text_by (showing sh p.notes) p.run told) q.n out' (text_by (printer_after_all (showing sh p.notes) (events_from p.run told)) (run_after_all p.run told) more) r.n out'' h x.text
          (rw (x.printer_is, x.run_is) at y.text));
    }

pub since_more : (kinds : List ℕ) (sh : Shows) (p : Played) (l₀ : List Float) (s out₀ : List ℕ) (q : Played) (l : List Float) (out : List ℕ) (r : Played) (l' : List Float) (out' : List ℕ)
    → p.n ≤ length out₀ → length out' ≡ length out → Since kinds sh p l₀ s out₀ q l out → PlayedOn kinds sh q l s out r l' out' → Since kinds sh p l₀ s out₀ r l' out'
since_more kinds sh p l₀ s out₀ q l out r l' out' h k i o =
    let on : PlayedUpTo kinds sh (length out₀) q l s out o.told r l' out' = rw i.long at o.plays in
    record {
      told = i.told ++ o.told;
      plays = plays_on kinds sh (length out₀) p l₀ s out₀ i.told q l out o.told r l' out' h i.plays on;
      long = k ∙ i.long;
      none = o.none;
      stops = rw i.long at o.stops;
    }

-- text at the front of memory
put_front : (out s : List ℕ) (r : ℕ) (out' : List ℕ) → Put out 0 s r out' → out' ≡ s ++ drop (length s) out
put_front out s r out' p = let z : 0 + length s ≡ length s = omega arith in p.memory ∙ ap₂ (λ (x : List ℕ) (k : ℕ). x ++ drop k out) (take-length s) z

-- where it is over, that is what the bytes are played to
pub fed_is : (kinds : List ℕ) (p : Playing) (s out : List ℕ) (r : Played) (l : List Float) (out' : List ℕ) (more : Bool) → p.n ≡ 0 → more ≡ goes_on_of r.more r.n (length out') → more ≡ false
    → Since kinds p.printer.shows (first p) p.state.lists s out r l out' → Fed kinds p s out r l out'
unfolding fed_of played_of
fed_is kinds p s out r l out' more none g y i =
    let o = over_is kinds (length out) (playing_of p.printer.shows r l) (drop r.at s) r.refused r.more more (g ∙ ap (goes_on_of r.more r.n) i.long) i.none i.stops y in
    let q : p ≡ playing_of p.printer.shows (first p) p.state.lists = ap (λ (k : ℕ). record { state = p.state; run = p.run; printer = p.printer; n = k }) none in
    let a : Settled Playing Instruction Stop = record { state = playing_of p.printer.shows r l; rest = drop r.at s; told = i.told; end = o.end } in
    let e : fed_of kinds p s (length out) ≡ a
    = ap (λ (x : Playing). settled (play_of kinds (length out)) x s) q ∙ i.plays.goes ∙ ap (telling i.told) o.stays
    ∙ ap (λ (x : List Instruction). record { state = playing_of p.printer.shows r l; rest = drop r.at s; told = x; end = o.end }) (append-nil i.told) in
    let k : length s - length (drop r.at s) ≡ r.at = omega (arith, length-drop r.at s, i.plays.within) in
    record {
      answer = rw (e, k, sym o.more_is, sym o.refused_is) refl;
      lists = rw e refl;
      memory = rw e (put_front out (text_by p.printer p.run i.told) r.n out' i.plays.text);
    }
