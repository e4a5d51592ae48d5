-- What a record at a place is, and what the reader's functions leave each other.
use Rattle.std.proofs.Common.{Some, Ok, Err}
use Prim.Native.Nat.{ℕ, zero, suc, ◌+◌, ◌-◌, ◌≤◌, ◌<◌}
use mathlib.Core.Path.{◌≡◌, refl, sym, ap, ap₂, subst, ◌∙◌}
use mathlib.Core.List.{List}
use mathlib.Core.Bool.{false}
use native.Mathlib.Omega.{arith}
use lib.ListN.{length, take, drop, length-take, length-drop, get_or}
use lib.Seq.{drop-drop}
use lib.Ieee.{Float}
use Rattle.lictor_core.specs.declared.outcome.Outcome as O
use Rattle.journal_records.specs.declared.Record.{Record}
use Rattle.journal_records.specs.declared.Record.TheVariants.{Settings, Reset, Ack, Head, Value, Outcome, Tick, Width}
use Rattle.journal_frames.specs.declared.Frame.{Frame}
use Rattle.journal_frames.specs.declared.Frame.TheVariants as F
use Rattle.journal_frames.specs.Frames.{body_of, frame_of, on_frame}
use Rattle.journal_frames.proofs.Frames.{frame_fits}
use Rattle.journal_records.specs.Kinds.{value_kind}
use Rattle.journal_records.proofs.Decoded.{decoded_value}
use Rattle.journal_records.specs.Body.{decode_of}
use Rattle.journal_records.specs.Long.{outcome_of}
use Rattle.journal_refusals.specs.declared.Refusal.{Refusal}
use Rattle.journal_refusals.specs.declared.Seen.{Seen}
use Rattle.journal_refusals.specs.Causes.{capacities}
use Rattle.journal_refusals.specs.declared.Refusal.TheVariants.{UnknownKind}
use Rattle.journal_refusals.specs.Table.{Accepted, Judged, whole_of}
use Rattle.journal_refusals.proofs.Framing.{accepted_list, accepted_room}
use Rattle.journal_reader.specs.declared.Look.{Look}
use Rattle.journal_reader.specs.declared.Look.TheVariants as L
use Rattle.journal_reader.specs.declared.waiting.Waiting.{Waiting}
use Rattle.journal_reader.specs.declared.What.{What}
use Rattle.journal_reader.specs.declared.What.TheVariants as W
use Rattle.journal_reader.specs.declared.Progress.{Progress}
use Rattle.journal_reader.specs.State.{State, seen_in, bases, places, outcome_waits}
use Rattle.stream.specs.Stream.{goes_on, size, Reached, Advanced}
use Rattle.journal_reader.specs.Reading.{Instruction, brought_of, on_record, on_judged, on_whole, on_bytes, what_of, read_of, lists_read}
use Rattle.journal_reader.specs.Steps.{state_with, look_as, look_in, look_of, on_look, Room, is_small, Added, instructs_as}
use Rattle.stream.proofs.Stream.{impossible, reached_one, reached_end}
use Rattle.journal_reader.proofs.Reading.{machine, next_frame}

-- ---- records at a place

-- each list lies in the lent memory
pub list_fits : (c : ℕ) → c < length capacities → get_or bases c 0 + get_or capacities c 0 ≤ places
list_fits zero p = omega arith
list_fits (suc zero) p = omega arith
list_fits (suc (suc zero)) p = omega arith
list_fits (suc (suc (suc zero))) p = omega arith
list_fits (suc (suc (suc (suc zero)))) p = omega arith
list_fits (suc (suc (suc (suc (suc c))))) p = absurd (omega arith)

-- so does the place of a value that has room
pub room_fits : (c n : ℕ) → c < length capacities → n < get_or capacities c 0 → get_or bases c 0 + n < places
room_fits c n p q = omega (arith, list_fits c p)

-- ---- the record at a place

-- the part that the code takes is the record's body
pub body_part : (s : List ℕ) (at n : ℕ) → take (at + 1 + n - (at + 1)) (drop (at + 1) s) ≡ body_of n (drop at s)
body_part s at n =
    let e : at + 1 + n - (at + 1) ≡ n = omega arith in
    ap₂ take e (sym (drop-drop 1 at s))

-- the look at some bytes, by their frame
pub look_is : (kinds : List ℕ) (seen : Seen) (s : List ℕ) (x : Frame) → x ≡ frame_of kinds s → look_in seen s x ≡ look_of kinds seen s
unfolding look_of
look_is kinds seen s x e = ap (look_in seen s) e

-- a whole record is there
pub look_fits : (kinds s : List ℕ) (at k n : ℕ) → frame_of kinds (drop at s) ≡ F.Whole k n → at + 1 + n ≤ length s
look_fits kinds s at k n e = omega (arith, frame_fits kinds (drop at s) k n e, length-drop at s)

-- with its body as it is handed on
pub look_whole : (kinds : List ℕ) (seen : Seen) (s : List ℕ) (k n : ℕ) (b : List ℕ) (x : Look) → frame_of kinds s ≡ F.Whole k n → b ≡ body_of n s
    → x ≡ look_as k b (length b) (whole_of seen k b) → x ≡ look_of kinds seen s
look_whole kinds seen s k n b x e f g =
    let l : length (body_of n s) ≡ n = omega (arith, length-take n (drop 1 s), length-drop 1 s, frame_fits kinds s k n e) in
    g ∙ rw (f, l) (look_is kinds seen s (F.Whole k n) (sym e))

-- ---- one record

-- a record that is found is there whole, and if it is a value, its list has room
pub record FoundIs (seen : Seen) (s : List ℕ) (x : Record) (n : ℕ) : Type 0 where
  pub fits : suc n ≤ length s
  pub room : Room seen x

room_of : (seen : Seen) (k : ℕ) (b : List ℕ) → whole_of seen k b ≡ Accepted → Room seen (decode_of k b)
room_of seen k b e c x d =
    let v = decoded_value k b c x d in
    let f : whole_of seen value_kind b ≡ Accepted = rw v.0 at e in
    rw v.1 (accepted_list seen b f, accepted_room seen b f)

found_as : (seen : Seen) (k : ℕ) (b : List ℕ) (m : ℕ) (x : Record) (n : ℕ) (j : Judged) → whole_of seen k b ≡ j → look_as k b m j ≡ L.Found x n → (m ≡ n) × Room seen x
found_as seen k b m x n (Err r) e f = impossible cc
found_as seen k b m x n (Ok _) e f =
    let p : decode_of k b ≡ x = cc in
    let q : m ≡ n = cc in
    (q, subst (Room seen) p (room_of seen k b e))

found_by : (kinds : List ℕ) (seen : Seen) (s : List ℕ) (x : Record) (n : ℕ) (y : Frame) → frame_of kinds s ≡ y → look_in seen s y ≡ L.Found x n → FoundIs seen s x n
found_by kinds seen s x n F.Waits e f = impossible cc
found_by kinds seen s x n F.Unknown e f = impossible cc
found_by kinds seen s x n (F.Whole k m) e f =
    let d = found_as seen k (body_of m s) m x n (whole_of seen k (body_of m s)) refl f in
    record { fits = omega (arith, d.0, frame_fits kinds s k m e); room = d.1 }

pub found_is : (kinds : List ℕ) (seen : Seen) (s : List ℕ) (x : Record) (n : ℕ) → look_of kinds seen s ≡ L.Found x n → FoundIs seen s x n
unfolding look_of
found_is kinds seen s x n e = found_by kinds seen s x n (frame_of kinds s) refl e

-- what the reader does, by the look
on_judged_lem : (st : State) (s : List ℕ) (k n : ℕ) (j : Judged) → on_judged st (body_of n s) (suc n) (decode_of k (body_of n s)) j ≡ on_look st s (look_as k (body_of n s) n j)
on_judged_lem st s k n (Err r) = refl
on_judged_lem st s k n (Ok _) = refl

on_frame_lem : (st : State) (s : List ℕ) (y : Frame) → on_frame UnknownKind on_whole st s y ≡ on_look st s (look_in (seen_in st) s y)
unfolding on_whole
on_frame_lem st s F.Waits = refl
on_frame_lem st s F.Unknown = refl
on_frame_lem st s (F.Whole k n) = on_judged_lem st s k n (whole_of (seen_in st) k (body_of n s))

on_look_lem : (kinds : List ℕ) (st : State) (s : List ℕ) → on_bytes kinds st s ≡ on_look st s (look_of kinds (seen_in st) s)
unfolding look_of
on_look_lem kinds st s = next_frame kinds st s (frame_of kinds s) refl ∙ on_frame_lem st s (frame_of kinds s)

module _ (kinds : List ℕ) (w : Waiting) (l : List Float) (s : List ℕ) (at : ℕ) where
  -- what the reader does next, by the look there
  pub next_look : (o : O.Outcome) (x : Look) → look_of kinds w.seen (drop at s) ≡ x → on_bytes kinds (state_with w o l) (drop at s) ≡ on_look (state_with w o l) (drop at s) x
  next_look o x e = on_look_lem kinds (state_with w o l) (drop at s) ∙ ap (on_look (state_with w o l) (drop at s)) e

  -- a record that is found is there whole
  pub found_there : (x : Record) (n : ℕ) → at ≤ length s → look_of kinds w.seen (drop at s) ≡ L.Found x n → at + n < length s
  found_there x n h e = omega (arith, (found_is kinds w.seen (drop at s) x n e).fits, length-drop at s)

  -- a small one is added
  pub reached_small : (x : Record) (n : ℕ) (w' : Waiting) (l' : List Float) → at ≤ length s → look_of kinds w.seen (drop at s) ≡ L.Found x n → Added w l x (Some w') l' → (o : O.Outcome)
      → Reached (on_bytes kinds) (state_with w o l) s at (state_with w' o l') (at + (n + 1))
  reached_small x n w' l' h e d o =
      let q : at + (n + 1) - at ≡ suc n = omega arith in
      reached_one (on_bytes kinds) (machine kinds) (state_with w o l) s at (state_with w' o l') (at + (n + 1)) h (omega arith)
      (rw q (next_look o (L.Found x n) e ∙ d o (body_of n (drop at s)) (suc n)))

  -- and an outcome waits
  pub reached_outcome : (n : ℕ) (o o' : O.Outcome) → at ≤ length s → look_of kinds w.seen (drop at s) ≡ L.Found Outcome n → o' ≡ outcome_of (body_of n (drop at s))
      → Reached (on_bytes kinds) (state_with w o l) s at (record { reader = outcome_waits (record { waiting = w; outcome = o }) o'; lists = l }) (at + 1 + n)
  unfolding on_record
  reached_outcome n o o' h e f =
      let q : at + 1 + n - at ≡ suc n = omega arith in
      reached_one (on_bytes kinds) (machine kinds) (state_with w o l) s at _ (at + 1 + n) h (omega arith)
      (rw (q, f) (next_look o (L.Found Outcome n) e))

-- ---- what comes after the small records

module _ (kinds : List ℕ) (w : Waiting) (o : O.Outcome) (l : List Float) (s : List ℕ) (at : ℕ) where
  abbrev pub came : State
  came = state_with w o l

  -- nothing more is taken there, and what is said of it is what the reader does
  pub record Stops (v : What) (end : ℕ) : Type 0 where
    pub stops : goes_on (on_bytes kinds came (drop at s)) ≡ false
    pub what : v ≡ what_of (on_bytes kinds came (drop at s))
    pub end_is : end ≡ at + size (on_bytes kinds came (drop at s))

  pub stops_waits : look_of kinds w.seen (drop at s) ≡ L.Waits → Stops W.Waits at
  stops_waits e = let q = next_look kinds w l s at o L.Waits e in record { stops = rw q refl; what = rw q refl; end_is = rw q (omega arith) }

  pub stops_refuses : (r : Refusal) → look_of kinds w.seen (drop at s) ≡ L.Refuses r → Stops (W.Refuses r) at
  stops_refuses r e = let q = next_look kinds w l s at o (L.Refuses r) e in record { stops = rw q refl; what = rw q refl; end_is = rw q (omega arith) }

  pub stops_found : (x : Record) (n : ℕ) → look_of kinds w.seen (drop at s) ≡ L.Found x n → is_small x ≡ false → (x ≡ Outcome → ⊥) → Stops (instructs_as w x) (at + 1 + n)
  unfolding on_record brought_of
  stops_found Settings n e f g = let q = next_look kinds w l s at o (L.Found Settings n) e in record { stops = rw q refl; what = rw q refl; end_is = rw q (omega arith) }
  stops_found Reset n e f g = let q = next_look kinds w l s at o (L.Found Reset n) e in record { stops = rw q refl; what = rw q refl; end_is = rw q (omega arith) }
  stops_found (Ack a) n e f g = impossible cc
  stops_found (Head h) n e f g = impossible cc
  stops_found (Value c x) n e f g = impossible cc
  stops_found Outcome n e f g = absurd (g refl)
  stops_found (Tick t) n e f g = let q = next_look kinds w l s at o (L.Found (Tick t) n) e in record { stops = rw q refl; what = rw q refl; end_is = rw q (omega arith) }
  stops_found (Width x) n e f g = let q = next_look kinds w l s at o (L.Found (Width x) n) e in record { stops = rw q refl; what = rw q refl; end_is = rw q (omega arith) }

-- ---- the reader

-- where nothing more is taken, that is what is read
pub read_there : (kinds : List ℕ) (st : State) (s : List ℕ) (w : Waiting) (o : O.Outcome) (l : List Float) (at : ℕ) (v : What) (end : ℕ)
    → Reached (on_bytes kinds) st s 0 (state_with w o l) at → Stops kinds w o l s at v end
    → (◌≡◌ {A = Progress} (record { reader = record { waiting = w; outcome = o }; used = at; end = end; what = v }) (read_of kinds st s)) × (l ≡ lists_read kinds st s)
unfolding read_of lists_read
read_there kinds st s w o l at v end h t =
    let e = reached_end (on_bytes kinds) (machine kinds) st s (state_with w o l) at h t.stops in (
      rw (e, t.what, t.end_is),
      ap (λ (a : Advanced State Instruction Refusal). a.state.lists) (sym e),
    )
