-- The reader is a machine over bytes that come in parts, whatever the kinds are.
-- What it leaves over is shorter than a record, and it refuses what the table refuses.
use Rattle.std.proofs.Common.{Ok, Err}
use Prim.Native.Nat.{ℕ, suc, ◌+◌, ◌-◌, ◌≤◌, ◌<◌}
use mathlib.Core.Path.{◌≡◌, refl, sym, ap, ap₂, subst, ◌∙◌}
use mathlib.Core.List.{List, ◌∷◌}
use mathlib.Core.Bool.{Bool, true, false}
use native.Mathlib.Omega.{arith}
use lib.ListN.{length, take, drop, length-take, length-drop}
use lib.Ieee.{Float}
use Rattle.journal_frames.specs.declared.Frame.{Frame}
use Rattle.journal_frames.specs.declared.Frame.TheVariants as F
use Rattle.journal_frames.specs.Frames.{body_len, record_room, ShortRecords, body_of, frame_of, TakesWhole, on_frame}
use Rattle.journal_frames.proofs.Frames.{FrameAt, unknown, cut, whole, frame_at, frame_is, frame_kind, by_frame, frames_machine, waits_under, rest_under, all_short, short_table}
use Rattle.journal_records.specs.Little.{byte_at}
use Rattle.lictor_core.specs.declared.fuse.TickInput.{TickInput}
use Rattle.journal_records.specs.declared.Record.{Record}
use Rattle.journal_records.specs.declared.Record.TheVariants.{Settings, Reset, Ack, Head, Value, Outcome, Tick, Width}
use Rattle.journal_records.specs.Kinds.{journal_kinds}
use Rattle.journal_records.specs.Body.{decode_of}
use Rattle.journal_records.specs.Long.{settings_of}
use Rattle.journal_refusals.specs.declared.Refusal.{Refusal}
use Rattle.journal_refusals.specs.declared.Refusal.TheVariants.{UnknownKind, CutBody}
use Rattle.journal_refusals.specs.declared.Seen.{Seen}
use Rattle.journal_refusals.specs.Table.{Accepted, Refused, Judged, judged_of, whole_of, framed_as}
use Rattle.journal_refusals.proofs.Framing.{judged_framed}
use Rattle.stream.specs.Stream.{Next, wait, halt, go, tell, goes_on, takes, size, Machine, awaits, settled, Advanced, advanced}
use Rattle.journal_reader.specs.declared.What.{What}
use Rattle.journal_reader.specs.declared.What.TheVariants as W
use Rattle.journal_reader.specs.State.{State, seen_in, settings_came, width_came, emptied}
use Rattle.journal_reader.specs.Reading.{Instruction, begin, restart, tick, width, brought_of, with_reader, on_record, on_judged, on_whole, on_bytes, what_of, read_of}
use Rattle.stream.proofs.Stream.{impossible, tells_on, ahead}

abbrev pub Move : Type 0
Move = Next State Instruction Refusal

-- ---- one record

-- a record that is not refused is taken, all of it
data Takes (n : ℕ) : Move → Type 0 where
  goes : (st : State) → Takes n (go st n)
  tells : (st : State) (i : Instruction) → Takes n (tell st n i)

record_takes : (st : State) (b : List ℕ) (n : ℕ) (x : Record) → Takes n (on_record st b n x)
unfolding on_record
record_takes st b n Settings = tells _ _
record_takes st b n Reset = tells _ _
record_takes st b n (Ack a) = goes _
record_takes st b n (Head h) = goes _
record_takes st b n (Value c x) = goes _
record_takes st b n Outcome = goes _
record_takes st b n (Tick t) = tells _ _
record_takes st b n (Width w) = tells _ _

takes_size : {n : ℕ} {x : Move} → Takes n x → size x ≡ n
takes_size (goes st) = refl
takes_size (tells st i) = refl

takes_moves : {n : ℕ} {x : Move} → Takes n x → x ≡ wait → ⊥
takes_moves (goes st) e = impossible cc
takes_moves (tells st i) e = impossible cc

takes_on : {n : ℕ} {x : Move} → Takes n x → (r : Refusal) → x ≡ halt r → ⊥
takes_on (goes st) r e = impossible cc
takes_on (tells st i) r e = impossible cc

judged_size : (st : State) (b : List ℕ) (n : ℕ) (x : Record) (j : Judged) → takes (on_judged st b n x j) ≡ true → size (on_judged st b n x j) ≡ n
judged_size st b n x (Err r) p = impossible cc
judged_size st b n x (Ok _) p = takes_size (record_takes st b n x)

judged_moves : (st : State) (b : List ℕ) (n : ℕ) (x : Record) (j : Judged) → on_judged st b n x j ≡ wait → ⊥
judged_moves st b n x (Err r) e = impossible cc
judged_moves st b n x (Ok _) e = takes_moves (record_takes st b n x) e

takes_whole : TakesWhole on_whole
unfolding on_whole
takes_whole = record {
  sized = λ st k b n p. judged_size st b n (decode_of k b) (whole_of (seen_in st) k b) p;
  moves = λ st k b n e. judged_moves st b n (decode_of k b) (whole_of (seen_in st) k b) e;
}

-- ---- the machine

pub machine : (kinds : List ℕ) → Machine (on_bytes kinds)
unfolding on_bytes
machine kinds = frames_machine kinds UnknownKind on_whole takes_whole

-- the move, by the frame
pub next_frame : (kinds : List ℕ) (st : State) (s : List ℕ) (x : Frame) → frame_of kinds s ≡ x → on_bytes kinds st s ≡ on_frame UnknownKind on_whole st s x
unfolding on_bytes
next_frame kinds st s x e = by_frame kinds UnknownKind on_whole st s x e

-- what waits for more bytes is shorter than a record
pub waits_short : (kinds : List ℕ) → ShortRecords kinds → (st : State) (s : List ℕ) → on_bytes kinds st s ≡ wait → length s < record_room
unfolding on_bytes
waits_short kinds h st s e = waits_under kinds h UnknownKind on_whole takes_whole st s e

-- so that is all that a reader carries over from one part to the next
pub rest_short : (kinds : List ℕ) → ShortRecords kinds → (st : State) (s : List ℕ) → (settled (on_bytes kinds) st s).end ≡ awaits
    → length (settled (on_bytes kinds) st s).rest < record_room
unfolding on_bytes
rest_short kinds h st s e = rest_under kinds h UnknownKind on_whole takes_whole st s e

-- the kinds of the paper make short records
pub journal_short : ShortRecords journal_kinds
unfolding all_short
journal_short = short_table journal_kinds refl

-- ---- the table: what the reader does with a record, by what the table says of it

module _ (kinds : List ℕ) (st : State) (k : ℕ) (u : List ℕ) where
  -- the body, as far as it came
  abbrev body : List ℕ
  body = take (body_len kinds k) u

  abbrev judged : Judged
  judged = judged_of kinds (seen_in st) k body

  pub data Does : Judged → Type 0 where
    takes_it : on_bytes kinds st (k ∷ u) ≡ on_record st body (suc (body_len kinds k)) (decode_of k body) → Does Accepted
    halts : (r : Refusal) → on_bytes kinds st (k ∷ u) ≡ halt r → Does (Refused r)
    waits : on_bytes kinds st (k ∷ u) ≡ wait → Does (Refused CutBody)

  whole_does : frame_of kinds (k ∷ u) ≡ F.Whole k (body_len kinds k) → (j : Judged) → whole_of (seen_in st) k body ≡ j → Does j
  unfolding on_whole
  whole_does f (Err r) e = halts r (next_frame kinds st (k ∷ u) _ f ∙ rw e refl)
  whole_does f (Ok _) e = takes_it (next_frame kinds st (k ∷ u) _ f ∙ rw e refl)

  frame_does : {x : Frame} → FrameAt kinds k u x → frame_of kinds (k ∷ u) ≡ x → Does (framed_as (seen_in st) u x)
  frame_does (unknown e) f = halts UnknownKind (next_frame kinds st (k ∷ u) _ f)
  frame_does (cut e h) f = waits (next_frame kinds st (k ∷ u) _ f)
  frame_does (whole e h) f = whole_does f (whole_of (seen_in st) k body) refl

  pub judged_does : Does judged
  judged_does = subst Does (sym (judged_framed kinds (seen_in st) k u)) (frame_does (frame_at kinds k u) refl)

  accepted_by_lem : {j : Judged} → Does j → j ≡ Accepted → on_bytes kinds st (k ∷ u) ≡ on_record st body (suc (body_len kinds k)) (decode_of k body)
  accepted_by_lem (takes_it e) q = e
  accepted_by_lem (halts r e) q = impossible cc
  accepted_by_lem (waits e) q = impossible cc

  -- a record that the table accepts is taken
  pub next_accepted : judged ≡ Accepted → on_bytes kinds st (k ∷ u) ≡ on_record st body (suc (body_len kinds k)) (decode_of k body)
  next_accepted e = accepted_by_lem judged_does e

  -- one that it refuses halts the reader, or is waited for where it is cut
  pub data RefusedBy (r : Refusal) : Type 0 where
    halted_for : on_bytes kinds st (k ∷ u) ≡ halt r → RefusedBy r
    waited_for : r ≡ CutBody → on_bytes kinds st (k ∷ u) ≡ wait → RefusedBy r

  refused_by_lem : {j : Judged} → Does j → (r : Refusal) → j ≡ Refused r → RefusedBy r
  refused_by_lem (takes_it e) r q = impossible cc
  refused_by_lem (halts r' e) r q = let p : r' ≡ r = cc in halted_for (e ∙ ap halt p)
  refused_by_lem (waits e) r q = let p : CutBody ≡ r = cc in waited_for (sym p) e

  pub next_refused : (r : Refusal) → judged ≡ Refused r → RefusedBy r
  next_refused r e = refused_by_lem judged_does r e

  halted_by : {j : Judged} → Does j → (r : Refusal) → on_bytes kinds st (k ∷ u) ≡ halt r → j ≡ Refused r
  halted_by (takes_it e) r h = absurd (takes_on (record_takes st body _ _) r (sym e ∙ h))
  halted_by (halts r' e) r h = let p : ◌≡◌ {A = Move} (halt r') (halt r) = sym e ∙ h in let q : r' ≡ r = cc in ap Refused q
  halted_by (waits e) r h = let p : ◌≡◌ {A = Move} wait (halt r) = sym e ∙ h in impossible cc

  -- a reader that halts does so by the table
  pub halted_judged : (r : Refusal) → on_bytes kinds st (k ∷ u) ≡ halt r → judged ≡ Refused r
  halted_judged r h = halted_by judged_does r h

  waiting_by : {j : Judged} → Does j → on_bytes kinds st (k ∷ u) ≡ wait → j ≡ Refused CutBody
  waiting_by (takes_it e) h = absurd (takes_moves (record_takes st body _ _) (sym e ∙ h))
  waiting_by (halts r e) h = let p : ◌≡◌ {A = Move} (halt r) wait = sym e ∙ h in impossible cc
  waiting_by (waits e) h = refl

  -- and one that waits has a record that is cut
  pub waiting_judged : on_bytes kinds st (k ∷ u) ≡ wait → judged ≡ Refused CutBody
  waiting_judged h = waiting_by judged_does h

-- ---- a refusal goes by what was seen and by the record's bytes alone

-- where one reader waits or is refused, so is the other
pub record Alike (x y : Move) : Type 0 where
  pub waits : x ≡ wait → y ≡ wait
  pub refused : (r : Refusal) → x ≡ halt r → y ≡ halt r

module _ (kinds : List ℕ) (st st' : State) (k : ℕ) (u v : List ℕ) (same_seen : seen_in st ≡ seen_in st') (same_body : body kinds st k u ≡ body kinds st' k v) where
  same_frame : {x : Frame} → FrameAt kinds k u x → FrameAt kinds k v x
  same_frame (unknown e) = unknown e
  same_frame (cut e h) = cut e (omega (arith, length-take (body_len kinds k) u, length-take (body_len kinds k) v, ap length same_body))
  same_frame (whole e h) = whole e (omega (arith, length-take (body_len kinds k) u, length-take (body_len kinds k) v, ap length same_body))

  alike_by : (b c : List ℕ) (n : ℕ) (x y : Record) (j : Judged) → Alike (on_judged st b n x j) (on_judged st' c n y j)
  alike_by b c n x y (Err r) = record { waits = λ e. e; refused = λ r' e. e }
  alike_by b c n x y (Ok _) = record {
    waits = λ e. absurd (takes_moves (record_takes st b n x) e);
    refused = λ r e. absurd (takes_on (record_takes st b n x) r e);
  }

  alike_at : {x : Frame} → FrameAt kinds k u x → Alike (on_frame UnknownKind on_whole st (k ∷ u) x) (on_frame UnknownKind on_whole st' (k ∷ v) x)
  unfolding on_whole
  alike_at (unknown e) = record { waits = λ e. e; refused = λ r e. e }
  alike_at (cut e h) = record { waits = λ e. e; refused = λ r e. e }
  alike_at (whole e h) =
      let b = body kinds st k u in
      let c = body kinds st' k v in
      let n = suc (body_len kinds k) in
      subst (λ (j : Judged). Alike (on_whole st k b n) (on_judged st' c n (decode_of k c) j)) (ap₂ (λ (seen : Seen) (l : List ℕ). whole_of seen k l) same_seen same_body)
      (alike_by b c n (decode_of k b) (decode_of k c) (whole_of (seen_in st) k b))

  -- Whatever waits and is collected, and whatever comes after the record.
  pub judged_alike : Alike (on_bytes kinds st (k ∷ u)) (on_bytes kinds st' (k ∷ v))
  judged_alike =
      let d = frame_at kinds k u in
      rw (next_frame kinds st (k ∷ u) _ refl, next_frame kinds st' (k ∷ v) _ (frame_is kinds k v (same_frame d))) (alike_at d)

-- ---- what an instruction is, by what the reader says of it

-- what a move is, by what is said of it
abbrev Says : State → List ℕ → ℕ → Move → What → Type 0
Says st b n x W.Waits = Unit {0}
Says st b n x (W.Refuses r) = Unit {0}
Says st b n x W.Begins = x ≡ tell (with_reader st (settings_came st.reader)) n (begin (settings_of b))
Says st b n x W.Resets = x ≡ tell (with_reader st (emptied st.reader)) n restart
Says st b n x (W.Ticks i) = x ≡ tell (with_reader st (emptied st.reader)) n (tick (brought_of st i))
Says st b n x (W.GivesWidth w) = x ≡ tell (with_reader st (width_came st.reader)) n (width w)

record_says : (st : State) (b : List ℕ) (n : ℕ) (x : Record) → Says st b n (on_record st b n x) (what_of (on_record st b n x))
unfolding on_record brought_of
record_says st b n Settings = refl
record_says st b n Reset = refl
record_says st b n (Ack a) = tt
record_says st b n (Head h) = tt
record_says st b n (Value c v) = tt
record_says st b n Outcome = tt
record_says st b n (Tick t) = refl
record_says st b n (Width w) = refl

judged_says : (st : State) (b : List ℕ) (n : ℕ) (x : Record) (j : Judged) → Says st b n (on_judged st b n x j) (what_of (on_judged st b n x j))
judged_says st b n x (Err r) = tt
judged_says st b n x (Ok _) = record_says st b n x

module _ (kinds : List ℕ) (st : State) (u : List ℕ) where
  -- the record at the front
  abbrev pub front_body : List ℕ
  front_body = body_of (body_len kinds (byte_at u 0)) u

  abbrev pub front_size : ℕ
  front_size = suc (body_len kinds (byte_at u 0))

  says_by : (x : Frame) → frame_of kinds u ≡ x → Says st front_body front_size (on_frame UnknownKind on_whole st u x) (what_of (on_frame UnknownKind on_whole st u x))
  unfolding on_whole
  says_by F.Waits f = tt
  says_by F.Unknown f = tt
  says_by (F.Whole k n) f =
      let m = frame_kind kinds u k n f in
      rw m.1 (judged_says st front_body front_size (decode_of k front_body) (whole_of (seen_in st) k front_body))

  front_says : Says st front_body front_size (on_bytes kinds st u) (what_of (on_bytes kinds st u))
  front_says = rw (next_frame kinds st u (frame_of kinds u) refl) (says_by (frame_of kinds u) refl)

  pub begins_is : what_of (on_bytes kinds st u) ≡ W.Begins → on_bytes kinds st u ≡ tell (with_reader st (settings_came st.reader)) front_size (begin (settings_of front_body))
  begins_is e = subst (Says st front_body front_size (on_bytes kinds st u)) e front_says

  pub resets_is : what_of (on_bytes kinds st u) ≡ W.Resets → on_bytes kinds st u ≡ tell (with_reader st (emptied st.reader)) front_size restart
  resets_is e = subst (Says st front_body front_size (on_bytes kinds st u)) e front_says

  pub ticks_is : (i : TickInput) → what_of (on_bytes kinds st u) ≡ W.Ticks i → on_bytes kinds st u ≡ tell (with_reader st (emptied st.reader)) front_size (tick (brought_of st i))
  ticks_is i e = subst (Says st front_body front_size (on_bytes kinds st u)) e front_says

  pub width_is : (w : Float) → what_of (on_bytes kinds st u) ≡ W.GivesWidth w → on_bytes kinds st u ≡ tell (with_reader st (width_came st.reader)) front_size (width w)
  width_is w e = subst (Says st front_body front_size (on_bytes kinds st u)) e front_says

-- ---- where an instruction ends

-- these are instructions
pub instructs : What → Bool
instructs W.Waits = false
instructs (W.Refuses r) = false
instructs W.Begins = true
instructs W.Resets = true
instructs (W.Ticks i) = true
instructs (W.GivesWidth w) = true

-- what tells, tells something
pub record TellsTo (x : Move) (n : ℕ) : Type 0 where
  pub state : State
  pub instruction : Instruction
  pub is : x ≡ tell state n instruction

told_by : (x : Move) → instructs (what_of x) ≡ true → TellsTo x (size x)
unfolding instructs
told_by wait y = impossible cc
told_by (halt r) y = impossible cc
told_by (go st n) y = impossible cc
told_by (tell st n i) y = record { state = st; instruction = i; is = refl }

-- where the reader comes to an instruction, its record is there whole and ends where `end` says
module _ (kinds : List ℕ) (st : State) (s : List ℕ) (y : instructs (read_of kinds st s).what ≡ true) where
  abbrev come : Advanced State Instruction Refusal
  come = advanced (on_bytes kinds) st s

  told_move : TellsTo (on_bytes kinds come.state (drop come.used s)) (size come.next)
  unfolding read_of
  told_move = rw (ahead (on_bytes kinds) (machine kinds) st s).then (told_by come.next y)

  pub told_end : TellsTo (on_bytes kinds come.state (drop (read_of kinds st s).used s)) ((read_of kinds st s).end - (read_of kinds st s).used)
  unfolding read_of
  told_end = let e : come.used + size come.next - come.used ≡ size come.next = omega arith in rw e told_move

  pub end_within : (read_of kinds st s).end ≤ length s
  unfolding read_of
  end_within =
      let t = told_move in
      omega (
        arith,
        (tells_on (on_bytes kinds) (machine kinds).there come.state (drop come.used s) t.state (size come.next) t.instruction t.is).1,
        length-drop come.used s,
        (ahead (on_bytes kinds) (machine kinds) st s).within,
      )

-- ---- where the reader waits

waits_of : (x : Move) → goes_on x ≡ false → what_of x ≡ W.Waits → x ≡ wait
waits_of wait g e = refl
waits_of (halt r) g e = impossible cc
waits_of (go st n) g e = impossible cc
waits_of (tell st n (begin s)) g e = impossible cc
waits_of (tell st n restart) g e = impossible cc
waits_of (tell st n (tick c)) g e = impossible cc
waits_of (tell st n (width w)) g e = impossible cc

-- fewer bytes are left over than a record has
pub read_short : (kinds : List ℕ) → ShortRecords kinds → (st : State) (s : List ℕ) → (read_of kinds st s).what ≡ W.Waits → length s < (read_of kinds st s).used + record_room
unfolding read_of
read_short kinds h st s e =
    let a = advanced (on_bytes kinds) st s in
    let m = ahead (on_bytes kinds) (machine kinds) st s in
    omega (arith, waits_short kinds h a.state (drop a.used s) (m.then ∙ waits_of a.next m.stops e), length-drop a.used s, m.within)
