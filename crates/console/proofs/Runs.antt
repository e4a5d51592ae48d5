-- A run of a journal: what was read and written, and how it ends.
use Prim.Native.Nat.{ℕ, suc, ◌+◌, ◌-◌, ◌≤◌, ◌%◌, ◌^◌}
use mathlib.Core.Path.{◌≡◌, refl, sym, ap, ap₂, subst, ◌∙◌}
use mathlib.Core.List.{List, [], ◌∷◌, ◌++◌, append-nil}
use mathlib.Core.Bool.{Bool, true, false, cond}
use native.Mathlib.Omega.{arith}
use lib.ListN.{length, length-append}
use lib.Seq.{length-take-le}
use borrow.Author.Tests.{ne_eqb}
use Rattle.std.specs.Prelude.{Option, None, Some}
use Rattle.std.specs.Option.{option_map}
use Rattle.journal_refusals.specs.declared.Refusal.{Refusal}
use Rattle.journal_refusals.specs.Table.{number_of}
use Rattle.stream.specs.Stream.{awaits, Settled, telling, settled}
use Rattle.stream.proofs.Stream.{impossible}
use Rattle.journal_reader.specs.State.{State}
use Rattle.journal_reader.specs.Reading.{Instruction, on_bytes}
use Rattle.journal.specs.declared.tick.Run.{Run}
use Rattle.journal.specs.Events.{run_after_all, Event, events_from}
use Rattle.journal.specs.Journal.{start_state, start_run, Ending, ended, refused, Meaning, ending_of, journal_of}
use Rattle.journal.proofs.Events.{events_joined}
use Rattle.journal.proofs.Parts.{meaning_is}
use Rattle.channels.specs.declared.intake.Supply.TheVariants.{Over}
use Rattle.channels.specs.declared.outlet.Written.{Written}
use Rattle.printer.specs.declared.Channel.{Channel}
use Rattle.printer.specs.declared.Channel.TheVariants.{Output, Errors}
use Rattle.printer.specs.Printer.{Shows, Printer, at_start, kinds_taken, meaning_for, printed, printer_after_all, ending_text, ending_on, sent_to, printed_on, text_from, beside_from, text_of, beside_of, ending_by, channel_by, showing}
use Rattle.printer.proofs.Parts.{text_append}
use Rattle.printer.proofs.Rooms.{ended_by, refused_by_lem, ended_on, refused_on}
use Rattle.player.specs.Play.{text_by, end_at, Rests}
use Rattle.console.specs.declared.phases.Phase.{Phase}
use Rattle.console.specs.declared.phases.Phase.TheVariants.{Plays, Waits, Refused, InputOver, ReadFailed, ReadsOver, WriteFailed}
use Rattle.console.specs.declared.rounds.Round.{Round}
use Rattle.console.specs.declared.rounds.Ended.{Ended}
use Rattle.console.specs.declared.Journal.{Journal}
use Rattle.console.specs.declared.Played.{Played}
use Rattle.console.specs.Phases.{is_going, is_unwritten, has_ending, phase_ended, number_left, number_ended}
use Rattle.console.specs.Rounds.{HandedOn, at_hand, KnownIn, Through, number_kept, ending_in, ended_with, ended_keeping, ClosedKeeping, RanBy, RanKeeping, StartsWith}
use Rattle.console.specs.Console.{state_of, printer_of, JournalGoes, JournalRests, end_number, end_place, Answers, Pauses, EndsBy, Ran}
use Rattle.console.specs.Journals.{none_is}
use Rattle.console.proofs.ByPhase.{wrote_ended}
use Rattle.console.proofs.Numbers.{keeping}
use Rattle.console.proofs.Stepping.{counts_on}

-- the counts of both channels, where a text is handed over on one of them
sent_counts : (c : Channel) (w w' : Written) (t u : List ℕ) → w.bytes ≡ length t % 2 ^ 64 → w.beside ≡ 0 → HandedOn c w (length u) w'
    → (w'.bytes ≡ length (t ++ sent_to c u Output) % 2 ^ 64) × (w'.beside ≡ length (sent_to c u Errors) % 2 ^ 64)
sent_counts Output w w' t u e z h = (counts_on w.bytes w'.bytes t u e h.0, omega (arith, h.1, z))
sent_counts Errors w w' t u e z h = (omega (arith, e, h.0, length-append t []), omega (arith, h.1, z))

-- nothing is nothing on every channel
sent_none : (c d : Channel) → sent_to c [] d ≡ []
sent_none Output Output = refl
sent_none Output Errors = refl
sent_none Errors Output = refl
sent_none Errors Errors = refl

-- ---- the end

-- the text of an ending, by its number
ending_is : (p : Printer) (run : Run) (s : List ℕ) (e : Ending) → ending_by p run (end_number e) (end_place s e) ≡ ending_text p run e
unfolding end_number end_place
ending_is p run s ended = ended_by p run (length s)
ending_is p run s (refused r place) = refused_by_lem p run place r

-- and its channel
channel_is : (w : Shows) (e : Ending) → channel_by w (end_number e) ≡ ending_on w e
unfolding end_number
channel_is w ended = ended_on w
channel_is w (refused r place) = refused_on w r place

-- the refusal, by its number
record Numbered (number : ℕ) (why : Option Refusal) : Type 0 where
  f : Refusal
  is : why ≡ Some f
  numbers : number ≡ number_of f

some_is : (number : ℕ) (why : Option Refusal) → Some number ≡ option_map number_of why → Numbered number why
some_is number None e = impossible cc
some_is number (Some f) e = let q : number ≡ number_of f = cc in record { f = f; is = refl; numbers = q }

-- a journal whose bytes s came, of which the instructions `told` were obeyed
module _ {P : Type 0} (sh : Shows) (j : Journal P) (r : Round) (b s : List ℕ) (told : List Instruction)
    (goes : settled (on_bytes (kinds_taken sh)) start_state s ≡ telling told (settled (on_bytes (kinds_taken sh)) (state_of j) (at_hand r b)))
    (run_to : j.run ≡ run_after_all start_run told)
    (prints : printer_of sh j ≡ printer_after_all (showing sh at_start) (events_from start_run told))
    (count : r.place + r.have ≡ length s) (within : r.have ≤ length b) where
  abbrev kinds : List ℕ
  kinds = kinds_taken sh

  abbrev p : Printer
  p = showing sh at_start

  abbrev events : List Event
  events = events_from start_run told

  abbrev rest : List ℕ
  rest = at_hand r b

  abbrev text : List ℕ
  text = text_by p start_run told

  have_is : length rest ≡ r.have
  have_is = length-take-le r.have b within

  abbrev meant : Ending → Meaning
  meant e = record { events = events; ending = e; left = record { state = state_of j; run = j.run } }

  -- where the reader rests, it comes to this
  comes : (why : Option Refusal) → Rests kinds (state_of j) rest why → settled (on_bytes kinds) start_state s ≡ record { state = state_of j; rest = rest; told = told; end = end_at why }
  comes why e =
      goes ∙ ap (telling told) e ∙ ap (λ (u : List Instruction). record { state = state_of j; rest = rest; told = u; end = end_at why }) (append-nil told)

  -- and this is what the bytes mean
  settles : (why : Option Refusal) → Rests kinds (state_of j) rest why → meaning_for p s ≡ meant (ending_of r.place rest (end_at why))
  settles why e =
      let k : length s - length rest ≡ r.place = omega (arith, count, have_is) in
      let a : Settled State Instruction Refusal = record { state = state_of j; rest = rest; told = told; end = end_at why } in
      meaning_is kinds s a (comes why e)
      ∙ ap₂ (λ (n : ℕ) (u : Run). record { events = events; ending = ending_of n rest (end_at why); left = record { state = state_of j; run = u } }) k (sym run_to)

  module _ (e : Ended) (w : Written) (z : e ≡ ended_keeping r w) where
    abbrev answer : Played
    answer = record { run = j.run; ended = e }

    -- an answer that fits the ending of the journal
    answers : (x : Ending) → meaning_for p s ≡ meant x → number_kept r ≡ end_number x → r.place ≡ end_place s x → Answers p answer s
    unfolding ended_with
    answers x h n k = rw z (record { refused_is = rw h n; place_is = rw h k; run_is = rw h refl })

    abbrev channel : Channel
    channel = channel_by sh (number_kept r)

    abbrev last : List ℕ
    last = ending_by (printer_of sh j) j.run (number_kept r) r.place

    -- all that is printed, on each channel
    all_on : (c : Channel) (x : Ending) → meaning_for p s ≡ meant x → number_kept r ≡ end_number x → r.place ≡ end_place s x
        → (let m = meaning_for p s in sent_to Output text c ++ sent_to channel last c ≡ printed_on c p m.events m.left.run m.ending)
    unfolding text_by
    all_on c x h n k =
        let ending : last ≡ ending_text (printer_after_all p events) j.run x
        = ap₂ (ending_by (printer_of sh j) j.run) n k ∙ ending_is (printer_of sh j) j.run s x ∙ ap (λ (q : Printer). ending_text q j.run x) prints in
        let on : channel ≡ ending_on sh x = ap (channel_by sh) n ∙ channel_is sh x in
        ap₂ (λ (d : Channel) (u : List ℕ). sent_to Output text c ++ sent_to d u c) on ending ∙ sym (ap (λ (m : Meaning). printed_on c p m.events m.left.run m.ending) h)

    all_text : (x : Ending) → meaning_for p s ≡ meant x → number_kept r ≡ end_number x → r.place ≡ end_place s x
        → (text ++ sent_to channel last Output ≡ text_of p s) × (sent_to channel last Errors ≡ beside_of p s)
    unfolding text_of text_from beside_of beside_from
    all_text x h n k = (all_on Output x h n k, all_on Errors x h n k)

    events_text : (x : Ending) → meaning_for p s ≡ meant x → text ++ [] ≡ printed p (meaning_for p s).events
    unfolding text_by
    events_text x h = append-nil text ∙ rw h refl

    -- what was handed over so far is how the text begins
    begins : StartsWith (text ++ []) (text_of p s)
    unfolding text_of journal_of text_by
    begins =
        let a = settled (on_bytes kinds) (state_of j) rest in
        let m = meaning_for p s in
        let later = events_from (run_after_all start_run told) a.told in
        record {
          later = text_from (printer_after_all p events) later m.left.run m.ending;
          is =
              ap (λ (u : List Event). text_from p u m.left.run m.ending)
              (ap (λ (u : Settled State Instruction Refusal). events_from start_run u.told) goes ∙ events_joined start_run told a.told)
              ∙ text_append p events later m.left.run m.ending
              ∙ ap (λ (u : List ℕ). u ++ text_from (printer_after_all p events) later m.left.run m.ending) (sym (append-nil (printed p events)));
        }

    abbrev ending : Phase → List ℕ
    ending x = cond (has_ending x) last []

    number_by : (x : Phase) → r.phase ≡ x → number_kept r ≡ number_ended x r.refused r.have
    number_by x y = ap (λ (u : Phase). number_ended u r.refused r.have) y

    -- what is over, where the text of x was handed over
    abbrev EndsIn : Phase → Phase → Type 0
    EndsIn x y = EndsBy p answer s (text ++ sent_to channel (ending x) Output) (sent_to channel (ending x) Errors) y

    -- a refusal: its number, and its place
    refused_ends : (number : ℕ) → r.phase ≡ Refused number → JournalRests kinds j rest (Some number) → EndsIn (Refused number) (Refused number)
    unfolding end_number end_place
    refused_ends number y h =
        let q = some_is number h.why h.number_is in
        let t : Rests kinds (state_of j) rest (Some q.f) = rw q.is at h.rests in
        let k = settles (Some q.f) t in
        let n : number_kept r ≡ Some (number_of q.f) = number_by (Refused number) y ∙ ap Some q.numbers in
        let a = all_text _ k n refl in
        (a.0, a.1, answers _ k n refl, record { why = q.f; end = ap (λ (u : Settled State Instruction Refusal). u.end) (comes (Some q.f) t) })

    -- the end of the input: what is left over is a record that is cut
    over_ends : (u : List ℕ) → rest ≡ u → (number_left r.have ≡ end_number (ending_of r.place u awaits)) × (r.place ≡ end_place s (ending_of r.place u awaits))
    unfolding end_number end_place
    over_ends [] y = let k : r.have ≡ 0 = sym have_is ∙ ap length y in (rw k refl, omega (arith, count, k))
    over_ends (c ∷ u) y =
        let k : r.have ≡ suc (length u) = sym have_is ∙ ap length y in
        (rw (k, ne_eqb (suc (length u)) 0 (λ o. omega (arith, o))) refl, refl)

    input_ends : r.phase ≡ InputOver → JournalRests kinds j rest None × (e.reads.last ≡ Over) → EndsIn InputOver InputOver
    input_ends y h =
        let t : Rests kinds (state_of j) rest None = rw (none_is h.0.why h.0.number_is) at h.0.rests in
        let k = settles None t in
        let o = over_ends rest refl in
        let n = number_by InputOver y ∙ o.0 in
        let a = all_text _ k n o.1 in
        (a.0, a.1, answers _ k n o.1, h.1)

    -- no byte more came, or was read: nothing was refused
    pauses : number_kept r ≡ None → JournalRests kinds j rest None → (text ++ [] ≡ printed p (meaning_for p s).events) × Pauses p answer s
    unfolding ended_with
    pauses n h =
        let t : Rests kinds (state_of j) rest None = rw (none_is h.why h.number_is) at h.rests in
        let c = comes None t in
        let k : r.place ≡ length s - length rest = omega (arith, count, have_is) in (
          events_text _ (settles None t),
          record {
            end = ap (λ (u : Settled State Instruction Refusal). u.end) c;
            place_is = ap (λ (u : Ended). u.place) z ∙ k ∙ ap (λ (u : Settled State Instruction Refusal). length s - length u.rest) (sym c);
            refused_is = ap (λ (u : Ended). u.refused) z ∙ n;
            run_is = rw (settles None t) refl;
          },
        )

    -- nothing is left of a whole text
    whole : (u v : List ℕ) → u ≡ v → StartsWith u v
    whole u v h = record { later = []; is = sym (append-nil u ∙ h) }

    -- why it is over, by the phase before the ending, and whether a write failed
    ends_by : (x : Phase) → r.phase ≡ x → is_going x ≡ false → KnownIn (JournalRests kinds) x j rest r.refused r.reads → (has_ending x ≡ false → is_unwritten x ≡ false → w.failed ≡ false)
        → (f : Bool) → w.failed ≡ f → EndsIn x (phase_ended x f)
    unfolding ended_with
    ends_by Plays y g h v f k = impossible cc
    ends_by Waits y g h v f k = impossible cc
    ends_by (Refused number) y g h v true k = let q = refused_ends number y (rw h.1 at h.0) in (whole _ _ q.0, whole _ _ q.1)
    ends_by (Refused number) y g h v false k = refused_ends number y (rw h.1 at h.0)
    ends_by InputOver y g h v true k = let q = input_ends y (rw h.1 at h.0, rw z h.2) in (whole _ _ q.0, whole _ _ q.1)
    ends_by InputOver y g h v false k = input_ends y (rw h.1 at h.0, rw z h.2)
    ends_by ReadFailed y g h v true k = let o : true ≡ false = sym k ∙ v refl refl in impossible cc
    ends_by ReadFailed y g h v false k = let q = pauses (number_by ReadFailed y ∙ h.1) (rw h.1 at h.0) in rw (sent_none channel Output, sent_none channel Errors) (q.0, refl, q.1, rw z h.2)
    ends_by ReadsOver y g h v true k = let o : true ≡ false = sym k ∙ v refl refl in impossible cc
    ends_by ReadsOver y g h v false k = let q = pauses (number_by ReadsOver y ∙ h.1) (rw h.1 at h.0) in rw (sent_none channel Output, sent_none channel Errors) (q.0, refl, q.1, rw z h.2)
    ends_by WriteFailed y g h v f k = by f
      where
        by : (f : Bool) → EndsIn WriteFailed (phase_ended WriteFailed f)
        by true = rw (sent_none channel Output, sent_none channel Errors) (begins, record { later = beside_of p s; is = refl })
        by false = rw (sent_none channel Output, sent_none channel Errors) (begins, record { later = beside_of p s; is = refl })

-- ---- the whole run

module _ {P : Type 0} (sh : Shows) (j₀ j : Journal P) (e : Ended) where
  abbrev text_in : Journal P → Option ℕ → ℕ → List ℕ
  text_in i number place = ending_by (printer_of sh i) i.run number place

  abbrev channel_in : Journal P → Option ℕ → Channel
  channel_in i number = channel_by sh number

  abbrev Taking : List ℕ → Round → List ℕ → Type 0
  Taking kinds r b = Through (JournalGoes kinds sh) (JournalRests kinds) j₀ j r b

  taken : state_of j₀ ≡ start_state → j₀.run ≡ start_run → printer_of sh j₀ ≡ showing sh at_start → (r : Round) (b : List ℕ) → Taking (kinds_taken sh) r b → (out' : List ℕ) → ClosedKeeping text_in channel_in j r e out'
      → Ran (showing sh at_start) (record { run = j.run; ended = e })
  unfolding ended_with
  taken h-state h-run h-printer r b t out' c =
      let w = e.written in
      let x = t.past in
      let made : JournalGoes (kinds_taken sh) sh j₀ x.past x.text j (at_hand r b) = x.makes in
      let goes = rw h-state at made.goes in
      let run_to = rw h-run at made.run_is in
      let prints = rw (h-printer, h-run) at made.printer_is in
      let text = text_by (showing sh at_start) start_run made.told in
      let text-is : x.text ≡ text = rw (h-printer, h-run) at made.text in
      let ending = sent_to (channel_by sh (number_kept r)) (ending_in text_in j r (number_kept r)) in
      let reads-are : e.reads ≡ r.reads = ap (λ (u : Ended). u.reads) c.is in
      let phase-is : e.phase ≡ phase_ended r.phase w.failed = ap (λ (u : Ended). u.phase) c.is in
      let counts = sent_counts (channel_by sh (number_kept r)) r.written w text (ending_in text_in j r (number_kept r)) (rw text-is at x.handed) x.beside c.put.handed in
      record {
        journal = x.past;
        text = text ++ ending Output;
        beside = ending Errors;
        brought = rw reads-are x.brought;
        handed = counts.0;
        handed_beside = counts.1;
        wrote = wrote_ended r.phase w.failed (λ h. ap (λ (u : Written). u.failed) (c.put.none h) ∙ t.sound.wrote) ∙ sym (ap is_unwritten phase-is);
        ends =
            subst (λ (u : Phase). EndsBy (showing sh at_start) (record { run = j.run; ended = e }) x.past (text ++ ending Output) (ending Errors) u) (sym phase-is)
            (ends_by sh j r b x.past made.told goes run_to prints x.count t.sound.fits.within e w c.is r.phase refl t.over t.sound.stops
            (λ h u. ap (λ (v : Written). v.failed) (c.put.none h) ∙ t.sound.wrote ∙ u) w.failed refl);
      }

  -- for any table that is the program's own
  pub ran_taking : (kinds : List ℕ) → kinds ≡ kinds_taken sh → state_of j₀ ≡ start_state → j₀.run ≡ start_run → printer_of sh j₀ ≡ showing sh at_start → (r : Round) (b : List ℕ) → Taking kinds r b
      → (out' : List ℕ) → ClosedKeeping text_in channel_in j r e out' → Ran (showing sh at_start) (record { run = j.run; ended = e })
  ran_taking kinds k h-state h-run h-printer r b t = taken h-state h-run h-printer r b (rw k at t)

  pub ran_keeping : state_of j₀ ≡ start_state → j₀.run ≡ start_run → printer_of sh j₀ ≡ showing sh at_start → RanKeeping (JournalGoes (kinds_taken sh) sh) (JournalRests (kinds_taken sh)) text_in channel_in j₀ j e
      → Ran (showing sh at_start) (record { run = j.run; ended = e })
  ran_keeping h-state h-run h-printer t = ran_taking (kinds_taken sh) refl h-state h-run h-printer t.round t.buf t.through t.out t.closed

  pub ran : state_of j₀ ≡ start_state → j₀.run ≡ start_run → printer_of sh j₀ ≡ showing sh at_start → RanBy (JournalGoes (kinds_taken sh) sh) (JournalRests (kinds_taken sh)) text_in channel_in j₀ j e
      → Ran (showing sh at_start) (record { run = j.run; ended = e })
  ran h-state h-run h-printer t = ran_keeping h-state h-run h-printer (keeping (JournalGoes (kinds_taken sh) sh) (JournalRests (kinds_taken sh)) text_in channel_in j₀ j e t)
