-- Every list of bytes ends in records, or in records and a refusal (specs/Claims).
use Prim.Native.Nat.{ℕ, suc, ◌+◌, ◌-◌, ◌≤◌, ◌<◌}
use mathlib.Core.Path.{◌≡◌, refl, sym, ap, ap₂, ◌∙◌}
use mathlib.Core.Bool.{true, false}
use mathlib.Core.List.{List, [], ◌∷◌, ◌++◌, map, append-nil}
use native.Mathlib.Numerals.{add-one}
use native.Mathlib.Omega.{arith}
use lib.ListN.{length, take, drop, get_or, length-take, length-drop}
use lib.Seq.{length-take-le, drop-cons}
use borrow.Author.Tests.{lt-ltb, le-ltb}
use Rattle.lictor_core.specs.FirstThat.{first_that}
use Rattle.stream.specs.Stream.{Next, wait, halt, End, awaits, halted, Settled, settled}
use Rattle.stream.proofs.Stream.{impossible, settled_wait, settled_still, Still, Front, front}
use Rattle.journal_frames.specs.declared.Frame.{Frame}
use Rattle.journal_frames.specs.declared.Frame.TheVariants.{Waits, Unknown, Whole}
use Rattle.journal_frames.specs.Frames.{is_known, body_len, body_of, frame_of, Framed, on_frames, bytes_of}
use Rattle.journal_frames.proofs.Frames.{FrameAt, unknown, cut, whole, frame_at, copying_machine, nothing_lost}
use Rattle.journal_forms.specs.declared.Form.{Form}
use Rattle.journal_forms.specs.declared.Form.TheVariants.{Wide, Narrow}
use Rattle.journal_forms.specs.declared.Cause.{Cause}
use Rattle.journal_forms.specs.declared.Cause.TheVariants.{UnknownKind, CutBody, NotHeld}
use Rattle.journal_forms.specs.Forms.{other, kinds_of, runs_of}
use Rattle.journal_forms.specs.Body.{body_held}
use Rattle.journal_forms.specs.Conversion.{turned, on_form, ended, refused, ending_of, Conversion, conversion_of, number_of, numbers_from, causes, refused_for, judged_of, judged_at, records_in}
use Rattle.journal_forms.specs.Claims.{is_one_of, RecordByRecord, Ends, with_end, with_refusal, ConversionEnds}
use Rattle.journal_forms.proofs.Records.{form_machine, Turn, waits, not_known, is_turned, not_held, turn, wide_holds}
use Rattle.journal_forms.proofs.Done.{framed_as_lem, turned_as, Done, by_records}

-- where a machine halts, that is the ending, whatever is left
pub stopped_at : (v : List ℕ) {p : ℕ} {c : Cause} → ending_of p v (halted c) ≡ refused c p
stopped_at [] = refl
stopped_at (j ∷ v) = refl

-- ---- the records that were converted

module _ (a b : Form) where
  -- s is records, and each of them was told in form b
  record Told (s : List ℕ) : Type 0 where
    all : (settled (on_frames (kinds_of a)) tt s).rest ≡ []
    each : (settled (on_form a b) tt s).told ≡ map (turned a b) (records_in a s)

  told_none : Told []
  told_none =
      let e = settled_wait (on_form a b) (form_machine a b).there tt [] ((form_machine a b).idle tt) in
      let g = settled_wait (on_frames (kinds_of a)) (copying_machine (kinds_of a)).there tt [] ((copying_machine (kinds_of a)).idle tt) in
      record {
        all = ap (λ (m : Settled (Unit {0}) Framed (Unit {0})). m.rest) g;
        each = ap (λ (m : Settled (Unit {0}) Framed Cause). m.told) e ∙ ap (λ (m : Settled (Unit {0}) Framed (Unit {0})). map (turned a b) m.told) (sym g);
      }

  told_one : (s : List ℕ) (k n : ℕ) → frame_of (kinds_of a) s ≡ Whole k n → body_held a b (runs_of k) (body_of n s) ≡ true → Told (drop (suc n) s) → Told s
  told_one s k n i h t =
      let g = framed_as_lem a s k n i in
      record {
        all = ap (λ (m : Settled (Unit {0}) Framed (Unit {0})). m.rest) g ∙ t.all;
        each =
            ap (λ (m : Settled (Unit {0}) Framed Cause). m.told) (turned_as a b s k n i h)
            ∙ ap (λ (u : List Framed). turned a b (record { kind = k; body = body_of n s }) ∷ u) t.each
            ∙ ap (λ (m : Settled (Unit {0}) Framed (Unit {0})). map (turned a b) m.told) (sym g);
      }

  all_told : (s : List ℕ) → Done a b s → Told s
  all_told = by_records a b Told told_none told_one

-- ---- the cause of a refusal

module _ (a b : Form) (k : ℕ) (body : List ℕ) where
  judged_unknown : is_known (kinds_of a) k ≡ false → judged_of a b k body ≡ refused_for UnknownKind
  unfolding judged_of causes first_that
  judged_unknown e = rw e refl

  judged_cut : is_known (kinds_of a) k ≡ true → length body < body_len (kinds_of a) k → judged_of a b k body ≡ refused_for CutBody
  unfolding judged_of causes first_that
  judged_cut e h = rw (e, lt-ltb (length body) (body_len (kinds_of a) k) h) refl

  judged_not_held : is_known (kinds_of a) k ≡ true → body_len (kinds_of a) k ≤ length body → body_held a b (runs_of k) body ≡ false → judged_of a b k body ≡ refused_for NotHeld
  unfolding judged_of causes first_that
  judged_not_held e h i = rw (e, le-ltb (length body) (body_len (kinds_of a) k) h, i) refl

-- of the record at place p, by its frame
module _ (a b : Form) (s : List ℕ) (p : ℕ) (h : p < length s) where
  abbrev k : ℕ
  k = get_or s p 0

  abbrev u : List ℕ
  u = drop (p + 1) s

  abbrev body : List ℕ
  body = take (body_len (kinds_of a) k) u

  here : drop p s ≡ k ∷ u
  here = rw add-one (drop-cons s p 0 h)

  cut_by : {x : Frame} → FrameAt (kinds_of a) k u x → x ≡ Waits → judged_at a b s p ≡ refused_for CutBody
  cut_by (unknown e) q = impossible cc
  cut_by (cut e l) q = judged_cut a b k body e (omega (arith, length-take (body_len (kinds_of a) k) u))
  cut_by (whole e l) q = impossible cc

  unknown_by : {x : Frame} → FrameAt (kinds_of a) k u x → x ≡ Unknown → judged_at a b s p ≡ refused_for UnknownKind
  unknown_by (unknown e) q = judged_unknown a b k body e
  unknown_by (cut e l) q = impossible cc
  unknown_by (whole e l) q = impossible cc

  held_by : {x : Frame} → FrameAt (kinds_of a) k u x → (j n : ℕ) → x ≡ Whole j n → body_held a b (runs_of j) (take n u) ≡ false → judged_at a b s p ≡ refused_for NotHeld
  held_by (unknown e) j n q i = impossible cc
  held_by (cut e l) j n q i = impossible cc
  held_by (whole e l) j n q i =
      let y : k ≡ j = cc in
      let z : body_len (kinds_of a) k ≡ n = cc in
      judged_not_held a b k body e (omega (arith, length-take-le (body_len (kinds_of a) k) u l)) (ap₂ (λ (x m : ℕ). body_held a b (runs_of x) (take m u)) y z ∙ i)

-- a number of its program
known_number : (a : Form) → is_one_of (number_of UnknownKind) (numbers_from a) ≡ true
unfolding is_one_of
known_number Wide = refl
known_number Narrow = refl

cut_number : (a : Form) → is_one_of (number_of CutBody) (numbers_from a) ≡ true
unfolding is_one_of
cut_number Wide = refl
cut_number Narrow = refl

held_number : (a : Form) (k : ℕ) (body : List ℕ) → body_held a (other a) (runs_of k) body ≡ false → is_one_of (number_of NotHeld) (numbers_from a) ≡ true
unfolding is_one_of
held_number Wide k body e = refl
held_number Narrow k body e = let z : true ≡ false = sym (wide_holds (runs_of k) body) ∙ e in impossible cc

-- ---- the claim

module _ (a : Form) (s : List ℕ) where
  abbrev form : Unit {0} → List ℕ → Next (Unit {0}) Framed Cause
  form = on_form a (other a)

  abbrev m : Settled (Unit {0}) Framed Cause
  m = settled form tt s

  f : Front form (form_machine a (other a)) tt s m
  f = front form (form_machine a (other a)) tt s

  abbrev p : ℕ
  p = f.place

  place_is : length s - length m.rest ≡ p
  place_is = omega (arith, ap length f.rest_is, length-drop p s, f.within)

  meant : conversion_of a (other a) s ≡ record { records = m.told; ending = ending_of p m.rest m.end }
  unfolding conversion_of
  meant = rw place_is refl

  by_record : RecordByRecord a s p
  by_record =
      let u = take p s in
      let t = all_told a (other a) u (record { end = ap (λ (x : Settled (Unit {0}) Framed Cause). x.end) f.before; rest = ap (λ (x : Settled (Unit {0}) Framed Cause). x.rest) f.before }) in
      record {
        bytes = sym (append-nil (bytes_of (records_in a u))) ∙ ap (λ (v : List ℕ). bytes_of (records_in a u) ++ v) (sym t.all) ∙ nothing_lost (kinds_of a) u;
        written = ap (λ (x : Conversion). x.records) meant ∙ sym (ap (λ (x : Settled (Unit {0}) Framed Cause). x.told) f.before) ∙ t.each;
      }

  before : conversion_of a (other a) (take p s) ≡ record { records = (conversion_of a (other a) s).records; ending = ended }
  unfolding conversion_of
  before = rw f.before refl

  -- a record that is refused
  module _ (h : p < length s) where
    refuses : (c : Cause) → ending_of p m.rest m.end ≡ refused c p → judged_at a (other a) s p ≡ refused_for c → is_one_of (number_of c) (numbers_from a) ≡ true → Ends a s
    refuses c e j n = with_refusal c p (ap (λ (x : Conversion). x.ending) meant ∙ e) by_record (record { inside = h; before = before; cause = j; number = n })

    rest_here : m.rest ≡ k a (other a) s p h ∷ u a (other a) s p h
    rest_here = f.rest_is ∙ here a (other a) s p h

    abbrev framed : FrameAt (kinds_of a) (k a (other a) s p h) (u a (other a) s p h) (frame_of (kinds_of a) (k a (other a) s p h ∷ u a (other a) s p h))
    framed = frame_at (kinds_of a) (k a (other a) s p h) (u a (other a) s p h)

    waiting : Turn a (other a) m.rest → form tt m.rest ≡ wait → m.end ≡ awaits → Ends a s
    waiting (waits i e) w y = refuses CutBody (rw (y, rest_here) refl) (cut_by a (other a) s p h framed (rw rest_here at i)) (cut_number a)
    waiting (not_known i e) w y = let z = sym e ∙ w in impossible cc
    waiting (not_held j n i g e) w y = let z = sym e ∙ w in impossible cc
    waiting (is_turned j n i g e) w y = let z = sym e ∙ w in impossible cc

    halting : Turn a (other a) m.rest → (c : Cause) → form tt m.rest ≡ halt c → m.end ≡ halted c → Ends a s
    halting (waits i e) c w y = let z = sym e ∙ w in impossible cc
    halting (not_known i e) c w y =
        let z : c ≡ UnknownKind = cc in
        refuses UnknownKind (rw (y, z) (stopped_at m.rest)) (unknown_by a (other a) s p h framed (rw rest_here at i)) (known_number a)
    halting (not_held j n i g e) c w y =
        let z : c ≡ NotHeld = cc in
        refuses NotHeld (rw (y, z) (stopped_at m.rest)) (held_by a (other a) s p h framed j n (rw rest_here at i) (rw rest_here at g)) (held_number a j (body_of n m.rest) g)
    halting (is_turned j n i g e) c w y = let z = sym e ∙ w in impossible cc

  by_end : (x : End Cause) → m.end ≡ x → Still form (form_machine a (other a)) m x → (v : List ℕ) → m.rest ≡ v → Ends a s
  by_end awaits y w [] q =
      let l : p ≡ length s = omega (arith, ap length q, ap length f.rest_is, length-drop p s, f.within) in
      with_end (ap (λ (x : Conversion). x.ending) meant ∙ rw (y, q) refl) (rw l at by_record)
  by_end awaits y w (j ∷ v) q = waiting (omega (arith, ap length q, ap length f.rest_is, length-drop p s)) (turn a (other a) m.rest) w y
  by_end (halted c) y w [] q = let z : wait ≡ halt c = sym ((form_machine a (other a)).idle tt) ∙ rw q at w in impossible cc
  by_end (halted c) y w (j ∷ v) q = halting (omega (arith, ap length q, ap length f.rest_is, length-drop p s)) (turn a (other a) m.rest) c w y

-- every list of bytes ends in records, or in records and one of the numbers of its program
pub conversion_ends : ConversionEnds
conversion_ends a s = by_end a s (settled (on_form a (other a)) tt s).end refl (settled_still (on_form a (other a)) (form_machine a (other a)) tt s) (settled (on_form a (other a)) tt s).rest refl
