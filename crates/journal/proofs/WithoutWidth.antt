-- A journal with a width comes to what it comes to without that record (specs/Widths).
-- A reader that has seen a width does with every other record what one does that has not.
use Rattle.std.proofs.Common.{Ok, Err}
use Prim.Native.Nat.{ℕ, zero, suc, ◌+◌, ◌-◌, ◌≤◌}
use mathlib.Core.Bool.{Bool, true, false}
use mathlib.Core.List.{List, [], ◌∷◌, ◌++◌}
use mathlib.Core.Path.{◌≡◌, refl, sym, ap, ap₂, ◌∙◌}
use native.Mathlib.Omega.{arith}
use borrow.Author.Tests.{eqb-true}
use lib.Dec.{eqb}
use lib.ListN.{length, take, drop, length-append, length-drop}
use lib.Seq.{take_at, drop_at}
use Rattle.lictor_core.specs.FirstThat.{first_that}
use Rattle.journal_frames.specs.declared.Frame.{Frame}
use Rattle.journal_frames.specs.declared.Frame.TheVariants as F
use Rattle.journal_frames.specs.Frames.{body_len, body_of, frame_of}
use Rattle.journal_frames.proofs.Frames.{frame_kind}
use Rattle.journal_records.specs.declared.Record.{Record}
use Rattle.journal_records.specs.declared.Record.TheVariants.{Settings, Reset, Ack, Head, Value, Outcome, Tick, Width}
use Rattle.journal_records.specs.Little.{byte_at, float_at}
use Rattle.journal_records.specs.Kinds.{width_kind}
use Rattle.journal_records.specs.Body.{decode_of}
use Rattle.journal_refusals.specs.declared.Seen.{Seen}
use Rattle.journal_refusals.specs.declared.Refusal.{Refusal}
use Rattle.journal_refusals.specs.declared.Refusal.TheVariants.{BeforeSettings, Again}
use Rattle.journal_refusals.specs.Causes.{before_settings, again, code_not_listed, size_outside, float_outside, box_crossed, list_full, not_ready}
use Rattle.journal_refusals.specs.Table.{Refused, Judged, order_rows, content_rows, whole_rows, judged_of, whole_of}
use Rattle.stream.specs.Stream.{wait, halt, go, tell, End, awaits, halted, Settled, telling, after, settle, settled}
use Rattle.stream.proofs.Stream.{impossible, joined, settled_tell, Front, front as front_of}
use Rattle.journal_reader.specs.State.{State, seen_in, seen_width, ack_waits, head_waits, value_waits, stored, outcome_waits, settings_came, width_came, emptied, values_of, input_of}
use Rattle.journal_reader.specs.Reading.{Instruction, width, brought_of, on_record, on_judged, on_whole, on_bytes}
use Rattle.journal_reader.proofs.Reading.{Move, machine, next_frame, next_accepted}
use Rattle.journal.specs.Events.{run_after_all, events_from}
use Rattle.journal.specs.Journal.{start_state, start_run, ended, refused, Meaning, ending_of, journal_of}
use Rattle.journal.specs.Widths.{is_width, for_fuse, of_fuse, with_width, WidthTaken, OneWidth, further, measured, FurtherOn, AsWithout}
use Rattle.journal.proofs.Parts.{meaning_by, meaning_is}
use Rattle.journal.proofs.Widths.{widths_idle, except_append}

-- ---- what a width changes in a reader

abbrev moved : Move → Move
moved wait = wait
moved (halt r) = halt r
moved (go st n) = go (measured st) n
moved (tell st n i) = tell (measured st) n i

-- to unfold this is to unfold every row about a whole record
unfoldable opened : Seen → ℕ → List ℕ → Judged
unfolding whole_of whole_rows order_rows content_rows first_that before_settings again code_not_listed size_outside float_outside box_crossed list_full not_ready
opened seen k b = whole_of seen k b

-- the table looks at it for a width alone
other_judged : (seen : Seen) (k : ℕ) (b : List ℕ) → eqb k width_kind ≡ false → whole_of (seen_width seen) k b ≡ whole_of seen k b
unfolding opened
other_judged seen k b e = rw e refl

-- which it refuses
record RefusedSo (j : Judged) : Type 0 where
  reason : Refusal
  is : j ≡ Refused reason

again_refused : (seen : Seen) (b : List ℕ) (t : Bool) → seen.settings ≡ t → RefusedSo (whole_of (seen_width seen) width_kind b)
unfolding opened
again_refused seen b true e = record { reason = Again; is = rw e refl }
again_refused seen b false e = record { reason = BeforeSettings; is = rw e refl }

-- a record that is accepted does the same
record_same : (st : State) (b : List ℕ) (n : ℕ) (x : Record) → on_record (measured st) b n x ≡ moved (on_record st b n x)
unfolding on_record settings_came width_came emptied ack_waits head_waits value_waits stored outcome_waits brought_of values_of input_of
record_same st b n Settings = refl
record_same st b n Reset = refl
record_same st b n (Ack a) = refl
record_same st b n (Head h) = refl
record_same st b n (Value c x) = refl
record_same st b n Outcome = refl
record_same st b n (Tick t) = refl
record_same st b n (Width w) = refl

judged_same : (st : State) (b : List ℕ) (n : ℕ) (x : Record) (j : Judged) → on_judged (measured st) b n x j ≡ moved (on_judged st b n x j)
judged_same st b n x (Err r) = refl
judged_same st b n x (Ok _) = record_same st b n x

-- ---- one record

module _ (kinds : List ℕ) where
  -- the reader does the same, or the record is a width, which is refused
  data Step (st : State) (s : List ℕ) : Type 0 where
    same : on_bytes kinds (measured st) s ≡ moved (on_bytes kinds st s) → Step st s
    refuses : (r : Refusal) → on_bytes kinds (measured st) s ≡ halt r → byte_at s 0 ≡ width_kind → Step st s

  whole_steps : (st : State) (s : List ℕ) (k n : ℕ) → frame_of kinds s ≡ F.Whole k n → (t : Bool) → eqb k width_kind ≡ t → Step st s
  unfolding on_whole width_came
  whole_steps st s k n f true e =
      let q = eqb-true k width_kind e in
      let b = body_of n s in
      let w = again_refused (seen_in st) b (seen_in st).settings refl in
      let j : whole_of (seen_in (measured st)) k b ≡ Refused w.reason = rw q w.is in
      refuses w.reason
      (next_frame kinds (measured st) s (F.Whole k n) f ∙ ap (on_judged (measured st) b (suc n) (decode_of k b)) j)
      (sym (frame_kind kinds s k n f).0 ∙ q)
  whole_steps st s k n f false e =
      let b = body_of n s in
      let j : whole_of (seen_in (measured st)) k b ≡ whole_of (seen_in st) k b = other_judged (seen_in st) k b e in
      same
      (next_frame kinds (measured st) s (F.Whole k n) f
      ∙ ap (on_judged (measured st) b (suc n) (decode_of k b)) j
      ∙ judged_same st b (suc n) (decode_of k b) (whole_of (seen_in st) k b)
      ∙ ap moved (sym (next_frame kinds st s (F.Whole k n) f)))

  steps_by : (st : State) (s : List ℕ) (x : Frame) → frame_of kinds s ≡ x → Step st s
  steps_by st s F.Waits f = same (next_frame kinds (measured st) s F.Waits f ∙ ap moved (sym (next_frame kinds st s F.Waits f)))
  steps_by st s F.Unknown f = same (next_frame kinds (measured st) s F.Unknown f ∙ ap moved (sym (next_frame kinds st s F.Unknown f)))
  steps_by st s (F.Whole k n) f = whole_steps st s k n f (eqb k width_kind) refl

  -- ---- all records

  abbrev Come : Type 0
  Come = Settled State Instruction Refusal

  -- it is not a width that is refused at the end
  abbrev NoWidth : Come → Type 0
  NoWidth a = (r : Refusal) → a.end ≡ halted r → byte_at a.rest 0 ≡ width_kind → ⊥

  abbrev comes : Come → Come
  comes a = record { state = measured a.state; rest = a.rest; told = a.told; end = a.end }

  abbrev Same : ℕ → State → List ℕ → Type 0
  Same f st s = NoWidth (settle (on_bytes kinds) f (measured st) s) → settle (on_bytes kinds) f (measured st) s ≡ comes (settle (on_bytes kinds) f st s)

  module _ (f : ℕ) (ih : (st : State) (s : List ℕ) → Same f st s) where
    same_after : (st : State) (s : List ℕ) (x : Move)
        → NoWidth (after (measured st) s (moved x) (λ (q : State) (n : ℕ). settle (on_bytes kinds) f q (drop n s)))
        → after (measured st) s (moved x) (λ (q : State) (n : ℕ). settle (on_bytes kinds) f q (drop n s)) ≡ comes (after st s x (λ (q : State) (n : ℕ). settle (on_bytes kinds) f q (drop n s)))
    same_after st s wait h = refl
    same_after st s (halt r) h = refl
    same_after st s (go st' n) h = ih st' (drop n s) h
    same_after st s (tell st' n i) h = ap (telling (i ∷ [])) (ih st' (drop n s) h)

    same_step : (st : State) (s : List ℕ) → Step st s → Same (suc f) st s
    unfolding settle
    same_step st s (same e) h = rw e (same_after st s (on_bytes kinds st s) (rw e at h))
    same_step st s (refuses r e q) h = absurd (h r (rw e refl) (rw e q))

  same_at : (f : ℕ) (st : State) (s : List ℕ) → Same f st s
  unfolding settle
  same_at zero st s h = refl
  same_at (suc f) st s h = same_step f (λ st' u. same_at f st' u) st s (steps_by st s (frame_of kinds s) refl) h

  all_same : (st : State) (s : List ℕ) → NoWidth (settled (on_bytes kinds) (measured st) s) → settled (on_bytes kinds) (measured st) s ≡ comes (settled (on_bytes kinds) st s)
  unfolding settled
  all_same st s h = same_at (suc (length s)) st s h

-- ---- endings

further_by : (n p : ℕ) (rest : List ℕ) (x : End Refusal) → ending_of (p + n) rest x ≡ further n (ending_of p rest x)
further_by n p [] awaits = refl
further_by n p (k ∷ u) awaits = refl
further_by n p [] (halted r) = refl
further_by n p (k ∷ u) (halted r) = refl

ended_empty : (p : ℕ) (rest : List ℕ) (x : End Refusal) → ending_of p rest x ≡ ended → rest ≡ []
ended_empty p [] x e = refl
ended_empty p (k ∷ u) awaits e = impossible cc
ended_empty p (k ∷ u) (halted r) e = impossible cc

-- the byte at the place where a journal settles is the first that is left
place_byte : (s : List ℕ) (p : ℕ) → byte_at s p ≡ byte_at (drop p s) 0
place_byte s zero = refl
place_byte [] (suc p) = refl
place_byte (k ∷ s) (suc p) = place_byte s p

refused_ending : (p : ℕ) (rest : List ℕ) (r : Refusal) → ending_of p rest (halted r) ≡ refused r p
refused_ending p [] r = refl
refused_ending p (k ∷ u) r = refl

-- ---- where a width is taken

module _ (kinds front body back : List ℕ) (t : WidthTaken kinds front body) where
  abbrev pub first : Settled State Instruction Refusal
  first = settled (on_bytes kinds) start_state front

  abbrev pub st : State
  st = first.state

  first_empty : first.rest ≡ []
  unfolding journal_of
  first_empty = ended_empty (length front - length first.rest) first.rest first.end t.before

  -- after `front` the reader goes on
  goes_on_lem : (s : List ℕ) → settled (on_bytes kinds) start_state (front ++ s) ≡ telling first.told (settled (on_bytes kinds) st s)
  goes_on_lem s =
      joined (on_bytes kinds) (machine kinds) start_state front s
      ∙ ap (λ (u : List ℕ). telling first.told (settled (on_bytes kinds) st (u ++ s))) first_empty

  -- and takes the width
  abbrev w : Instruction
  w = width (float_at body 0)

  body_is : take (body_len kinds width_kind) (body ++ back) ≡ body
  body_is = take_at body back (body_len kinds width_kind) t.whole

  back_is : drop (suc (body_len kinds width_kind)) (width_kind ∷ (body ++ back)) ≡ back
  back_is = drop_at body back (body_len kinds width_kind) t.whole

  takes_width : on_bytes kinds st (width_kind ∷ (body ++ back)) ≡ tell (measured st) (suc (body_len kinds width_kind)) w
  unfolding journal_of on_record decode_of
  takes_width =
      next_accepted kinds st width_kind (body ++ back) (ap (judged_of kinds (seen_in st) width_kind) body_is ∙ t.accepted)
      ∙ ap (λ (b : List ℕ). on_record st b (suc (body_len kinds width_kind)) (decode_of width_kind b)) body_is

  abbrev then : Settled State Instruction Refusal
  then = settled (on_bytes kinds) st back

  abbrev pub then_measured : Settled State Instruction Refusal
  then_measured = settled (on_bytes kinds) (measured st) back

  with_is : settled (on_bytes kinds) start_state (with_width front body back) ≡ telling first.told (telling (w ∷ []) then_measured)
  with_is =
      goes_on_lem (width_kind ∷ (body ++ back))
      ∙ ap (telling first.told)
      (settled_tell (on_bytes kinds) (machine kinds).there st (width_kind ∷ (body ++ back)) (measured st) (suc (body_len kinds width_kind)) w takes_width
      ∙ ap (λ (u : List ℕ). telling (w ∷ []) (settled (on_bytes kinds) (measured st) u)) back_is)

  -- a width that is taken is told
  pub width_told : (settled (on_bytes kinds) start_state (with_width front body back)).told
      ≡ (settled (on_bytes kinds) start_state front).told ++ (width (float_at body 0) ∷ then_measured.told)
  width_told = ap (λ (a : Settled State Instruction Refusal). a.told) with_is

  -- the place where it settles
  abbrev bytes : List ℕ
  bytes = with_width front body back

  abbrev settles : Front (on_bytes kinds) (machine kinds) start_state bytes (settled (on_bytes kinds) start_state bytes)
  settles = front_of (on_bytes kinds) (machine kinds) start_state bytes

  rest_is : then_measured.rest ≡ drop settles.place bytes
  rest_is = sym (ap (λ (a : Settled State Instruction Refusal). a.rest) with_is) ∙ settles.rest_is

  place_is : length bytes - length then_measured.rest ≡ settles.place
  place_is = omega (arith, ap length rest_is, length-drop settles.place bytes, settles.within)

  -- the instructions with the record, and without it
  abbrev told_with : List Instruction
  told_with = first.told ++ (w ∷ then.told)

  abbrev told_without : List Instruction
  told_without = first.told ++ then.told

  same_told : for_fuse told_with ≡ for_fuse told_without
  same_told = except_append is_width first.told (w ∷ then.told) ∙ sym (except_append is_width first.told then.told)

  means_without : journal_of kinds (front ++ back)
      ≡ meaning_by (length (front ++ back)) (record { state = then.state; rest = then.rest; told = told_without; end = then.end })
  means_without = meaning_is kinds (front ++ back) _ (goes_on_lem back)

  rest_fits : length then.rest ≤ length back
  rest_fits = let f = front_of (on_bytes kinds) (machine kinds) st back in omega (arith, ap length f.rest_is, length-drop f.place back)

  places : length bytes - length then.rest ≡ length (front ++ back) - length then.rest + suc (length body)
  places = omega (arith, rest_fits, length-append front (width_kind ∷ (body ++ back)), length-append body back, length-append front back)

  -- ---- the claim

  module _ (o : OneWidth kinds front body back) where
    -- no second width is come to
    no_width : NoWidth kinds then_measured
    no_width r e q =
        o.no_second r settles.place
        (ap (λ (m : Meaning). m.ending) (meaning_is kinds bytes _ with_is)
        ∙ ap₂ (λ (p : ℕ) (x : End Refusal). ending_of p then_measured.rest x) place_is e
        ∙ refused_ending settles.place then_measured.rest r)
        (place_byte bytes settles.place ∙ ap (λ (u : List ℕ). byte_at u 0) (sym rest_is) ∙ q)

    means_with : journal_of kinds bytes
        ≡ meaning_by (length bytes) (record { state = measured then.state; rest = then.rest; told = told_with; end = then.end })
    means_with = meaning_is kinds bytes _ (with_is ∙ ap (λ (a : Settled State Instruction Refusal). telling first.told (telling (w ∷ []) a)) (all_same kinds st back no_width))

    alike : FurtherOn (suc (length body)) (journal_of kinds bytes) (journal_of kinds (front ++ back))
    alike = record {
      events =
          ap (λ (m : Meaning). of_fuse m.events) means_with
          ∙ (widths_idle start_run told_with).events
          ∙ ap (events_from start_run) same_told
          ∙ sym (widths_idle start_run told_without).events
          ∙ sym (ap (λ (m : Meaning). of_fuse m.events) means_without);
      run =
          ap (λ (m : Meaning). m.left.run) means_with
          ∙ (widths_idle start_run told_with).run
          ∙ ap (run_after_all start_run) same_told
          ∙ sym (widths_idle start_run told_without).run
          ∙ sym (ap (λ (m : Meaning). m.left.run) means_without);
      state = ap (λ (m : Meaning). m.left.state) means_with ∙ sym (ap (λ (m : Meaning). measured m.left.state) means_without);
      ending =
          ap (λ (m : Meaning). m.ending) means_with
          ∙ ap (λ (p : ℕ). ending_of p then.rest then.end) places
          ∙ further_by (suc (length body)) (length (front ++ back) - length then.rest) then.rest then.end
          ∙ sym (ap (λ (m : Meaning). further (suc (length body)) m.ending) means_without);
    }

pub as_without : AsWithout
as_without kinds front body back o = alike kinds front body back o.taken o
