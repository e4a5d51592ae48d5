-- The conversion as a machine over bytes: what it does with the bytes at hand, and with those of a
-- record that was converted.
use Prim.Native.Nat.{ℕ, zero, suc, ◌≤◌, ◌<◌}
use mathlib.Core.Path.{◌≡◌, refl, sym, ap, ◌∙◌}
use mathlib.Core.Bool.{Bool, true, false, cond}
use mathlib.Core.List.{List, [], ◌∷◌, ◌++◌}
use native.Mathlib.Omega.{arith}
use lib.ListN.{length, drop, length-append}
use lib.Seq.{length-take-le, take_at, drop_at}
use lib.Ieee.{binary64, fits}
use lib.Ieee.Bits.{is_true, of_bits-fits}
use Rattle.journal_records.specs.Little.{le_at}
use Rattle.stream.specs.Stream.{wait, halt, tell, takes, size, Machine}
use Rattle.stream.proofs.Stream.{impossible}
use Rattle.journal_frames.specs.declared.Frame.{Frame}
use Rattle.journal_frames.specs.declared.Frame.TheVariants.{Waits, Unknown, Whole}
use Rattle.journal_frames.specs.Frames.{is_known, body_len, body_of, frame_of, TakesWhole}
use Rattle.journal_frames.proofs.Frames.{FrameAt, unknown, cut, whole, frame_at, frame_is, by_frame, frames_machine}
use Rattle.journal_forms.specs.declared.Form.{Form}
use Rattle.journal_forms.specs.declared.Form.TheVariants.{Wide, Narrow}
use Rattle.journal_forms.specs.declared.Cause.{Cause}
use Rattle.journal_forms.specs.declared.Cause.TheVariants.{UnknownKind, CutBody, NotHeld}
use Rattle.journal_forms.specs.declared.body.Run.{Run}
use Rattle.journal_forms.specs.Forms.{format_of, float_bytes, kinds_of, runs_of, record_most}
use Rattle.journal_forms.specs.Body.{float_in, floats_in, all_pass, run_bytes, runs_bytes, run_floats, body_floats, body_to, body_held}
use Rattle.journal_forms.specs.Conversion.{turned, turns, on_form, number_of}
use Rattle.journal_forms.proofs.Floats.{pass_append}
use Rattle.journal_forms.proofs.Held.{widens}
use Rattle.journal_forms.proofs.Bodies.{body_long, body_floats_lem, body_through}
use Rattle.journal_forms.proofs.Tables.{KindFits, same_known, known_fits}

-- ---- it is a machine

pub turns_by : (a b : Form) (r : Unit {0}) (k : ℕ) (body : List ℕ) (n : ℕ) (t : Bool) → body_held a b (runs_of k) body ≡ t
    → turns a b r k body n ≡ cond t (tell r n (turned a b (record { kind = k; body = body }))) (halt NotHeld)
unfolding turns
turns_by a b r k body n t e = rw e refl

takes_turned : (a b : Form) → TakesWhole (turns a b)
takes_turned a b = record { sized = λ r k body n p. sized r k body n (body_held a b (runs_of k) body) refl p; moves = λ r k body n e. moves r k body n (body_held a b (runs_of k) body) refl e }
  where
    sized : (r : Unit {0}) (k : ℕ) (body : List ℕ) (n : ℕ) (t : Bool) → body_held a b (runs_of k) body ≡ t → takes (turns a b r k body n) ≡ true → size (turns a b r k body n) ≡ n
    sized r k body n true e p = ap size (turns_by a b r k body n true e)
    sized r k body n false e p = let z : false ≡ true = sym (ap takes (turns_by a b r k body n false e)) ∙ p in impossible cc

    moves : (r : Unit {0}) (k : ℕ) (body : List ℕ) (n : ℕ) (t : Bool) → body_held a b (runs_of k) body ≡ t → turns a b r k body n ≡ wait → ⊥
    moves r k body n true e p = let z = sym (turns_by a b r k body n true e) ∙ p in impossible cc
    moves r k body n false e p = let z = sym (turns_by a b r k body n false e) ∙ p in impossible cc

pub form_machine : (a b : Form) → Machine (on_form a b)
unfolding on_form
form_machine a b = frames_machine (kinds_of a) UnknownKind (turns a b) (takes_turned a b)

-- ---- what it does with the bytes at hand

pub data Turn (a b : Form) (s : List ℕ) : Type 0 where
  waits : frame_of (kinds_of a) s ≡ Waits → on_form a b tt s ≡ wait → Turn a b s
  not_known : frame_of (kinds_of a) s ≡ Unknown → on_form a b tt s ≡ halt UnknownKind → Turn a b s
  is_turned : (k n : ℕ) → frame_of (kinds_of a) s ≡ Whole k n → body_held a b (runs_of k) (body_of n s) ≡ true
      → on_form a b tt s ≡ tell tt (suc n) (turned a b (record { kind = k; body = body_of n s })) → Turn a b s
  not_held : (k n : ℕ) → frame_of (kinds_of a) s ≡ Whole k n → body_held a b (runs_of k) (body_of n s) ≡ false → on_form a b tt s ≡ halt NotHeld → Turn a b s

module _ (a b : Form) (s : List ℕ) where
  -- a whole record that form b holds is told
  pub whole_told : (k n : ℕ) → frame_of (kinds_of a) s ≡ Whole k n → body_held a b (runs_of k) (body_of n s) ≡ true → on_form a b tt s ≡ tell tt (suc n) (turned a b (record { kind = k; body = body_of n s }))
  unfolding on_form
  whole_told k n e h = by_frame (kinds_of a) UnknownKind (turns a b) tt s (Whole k n) e ∙ turns_by a b tt k (body_of n s) (suc n) true h

  turn_whole : (k n : ℕ) → frame_of (kinds_of a) s ≡ Whole k n → (t : Bool) → body_held a b (runs_of k) (body_of n s) ≡ t → Turn a b s
  unfolding on_form
  turn_whole k n e true h = is_turned k n e h (whole_told k n e h)
  turn_whole k n e false h = not_held k n e h (by_frame (kinds_of a) UnknownKind (turns a b) tt s (Whole k n) e ∙ turns_by a b tt k (body_of n s) (suc n) false h)

  turn_by : (x : Frame) → frame_of (kinds_of a) s ≡ x → Turn a b s
  unfolding on_form
  turn_by Waits e = waits e (by_frame (kinds_of a) UnknownKind (turns a b) tt s Waits e)
  turn_by Unknown e = not_known e (by_frame (kinds_of a) UnknownKind (turns a b) tt s Unknown e)
  turn_by (Whole k n) e = turn_whole k n e (body_held a b (runs_of k) (body_of n s)) refl

  pub turn : Turn a b s
  turn = turn_by (frame_of (kinds_of a) s) refl

-- ---- a whole record

-- what is known of it: its kind is listed, and its body is there and has the kind's length
pub record WholeAt (a : Form) (s : List ℕ) (k n : ℕ) : Type 0 where
  pub first : s ≡ k ∷ drop 1 s
  pub known : is_known (kinds_of a) k ≡ true
  pub len : n ≡ body_len (kinds_of a) k
  pub there : suc n ≤ length s
  pub long : length (body_of n s) ≡ n

whole_by : (a : Form) (j : ℕ) (u : List ℕ) {x : Frame} → FrameAt (kinds_of a) j u x → (k n : ℕ) → x ≡ Whole k n → WholeAt a (j ∷ u) k n
whole_by a j u (unknown e) k n q = impossible cc
whole_by a j u (cut e h) k n q = impossible cc
whole_by a j u (whole e h) k n q =
    let y : j ≡ k = cc in
    let z : body_len (kinds_of a) j ≡ n = cc in
    record {
      first = ap (λ (i : ℕ). i ∷ u) y;
      known = rw y at e;
      len = sym z ∙ ap (body_len (kinds_of a)) y;
      there = omega (arith, z);
      long = length-take-le n u (omega (arith, z));
    }

pub whole_at : (a : Form) (s : List ℕ) (k n : ℕ) → frame_of (kinds_of a) s ≡ Whole k n → WholeAt a s k n
unfolding frame_of
whole_at a [] k n e = impossible cc
whole_at a (j ∷ u) k n e = whole_by a j u (frame_at (kinds_of a) j u) k n e

-- ---- the record that was made of it

module _ (a b : Form) (s : List ℕ) (k n : ℕ) (e : frame_of (kinds_of a) s ≡ Whole k n) where
  abbrev body : List ℕ
  body = body_of n s

  w : WholeAt a s k n
  w = whole_at a s k n e

  fits_both : KindFits a b k
  fits_both = known_fits a b k w.known

  pub inside : runs_bytes a (runs_of k) ≤ length body
  inside = omega (arith, fits_both.inside, w.len, w.long)

  -- its body has the length that form b asks
  pub made_long : length (body_to a b (runs_of k) body) ≡ body_len (kinds_of b) k
  made_long = omega (arith, body_long a b (runs_of k) body inside, fits_both.lengths, w.len, w.long)

  module _ (h : body_held a b (runs_of k) body ≡ true) (t : List ℕ) where
    abbrev made : List ℕ
    made = body_to a b (runs_of k) body

    abbrev bytes : List ℕ
    bytes = (k ∷ made) ++ t

    -- in form b it is a whole record
    pub made_frame : frame_of (kinds_of b) bytes ≡ Whole k (body_len (kinds_of b) k)
    made_frame = frame_is (kinds_of b) k (made ++ t) (whole (sym (same_known a b k) ∙ w.known) (omega (arith, length-append made t, made_long)))

    pub made_body : body_of (body_len (kinds_of b) k) bytes ≡ made
    made_body = take_at made t (body_len (kinds_of b) k) made_long

    pub made_after : drop (suc (body_len (kinds_of b) k)) bytes ≡ t
    made_after = drop_at made t (body_len (kinds_of b) k) made_long

    -- with the floats that it had
    pub made_floats : body_floats b (runs_of k) made ≡ body_floats a (runs_of k) body
    made_floats = body_floats_lem a b (runs_of k) body inside h

    pub made_held : (c : Form) → body_held a c (runs_of k) body ≡ true → body_held b c (runs_of k) made ≡ true
    made_held c i = ap (all_pass (fits (format_of c))) made_floats ∙ i

    pub made_through : (c : Form) → body_to b c (runs_of k) made ≡ body_to a c (runs_of k) body
    made_through c = body_through a b c (runs_of k) body inside h

-- ---- to its own form: that holds all its floats

own_floats : (a : Form) (n : ℕ) (s : List ℕ) → all_pass (fits (format_of a)) (floats_in a n s) ≡ true
unfolding floats_in all_pass
own_floats a zero s = refl
own_floats a (suc n) s = rw (is_true (fits (format_of a) (float_in a s)) (of_bits-fits (format_of a) (le_at s 0 (float_bytes a)))) (own_floats a n (drop (float_bytes a) s))

pub own_held : (a : Form) (rs : List Run) (s : List ℕ) → body_held a a rs s ≡ true
unfolding body_floats all_pass
own_held a [] s = refl
own_held a (r ∷ rs) s =
    pass_append (fits (format_of a)) (run_floats a r s) (body_floats a rs (drop (run_bytes a r) s))
    ∙ rw (own_floats a r.floats (drop r.copied s)) (own_held a rs (drop (run_bytes a r) s))

-- the wide form holds all floats of the narrow one
wide_floats : (n : ℕ) (s : List ℕ) → all_pass (fits binary64) (floats_in Narrow n s) ≡ true
unfolding floats_in all_pass
wide_floats zero s = refl
wide_floats (suc n) s = rw (widens (le_at s 0 4)) (wide_floats n (drop 4 s))

pub wide_holds : (rs : List Run) (s : List ℕ) → body_held Narrow Wide rs s ≡ true
unfolding body_floats all_pass
wide_holds [] s = refl
wide_holds (r ∷ rs) s =
    pass_append (fits binary64) (run_floats Narrow r s) (body_floats Narrow rs (drop (run_bytes Narrow r) s))
    ∙ rw (wide_floats r.floats (drop r.copied s)) (wide_holds rs (drop (run_bytes Narrow r) s))

-- ---- what waits for more bytes is shorter than the longest record

cut_short : (a : Form) (k : ℕ) (u : List ℕ) {x : Frame} → FrameAt (kinds_of a) k u x → x ≡ Waits → length u < record_most
cut_short a k u (unknown e) q = impossible cc
cut_short a k u (cut e h) q = omega (arith, h, (known_fits a a k e).short)
cut_short a k u (whole e h) q = impossible cc

waits_by : (a : Form) (s : List ℕ) → frame_of (kinds_of a) s ≡ Waits → length s ≤ record_most
waits_by a [] e = omega arith
waits_by a (k ∷ u) e = omega (arith, cut_short a k u (frame_at (kinds_of a) k u) e)

short_by : (a b : Form) (s : List ℕ) → Turn a b s → on_form a b tt s ≡ wait → length s ≤ record_most
short_by a b s (waits f e) w = waits_by a s f
short_by a b s (not_known f e) w = let z = sym e ∙ w in impossible cc
short_by a b s (not_held j n f h e) w = let z = sym e ∙ w in impossible cc
short_by a b s (is_turned j n f h e) w = let z = sym e ∙ w in impossible cc

pub waits_short : (a b : Form) (s : List ℕ) → on_form a b tt s ≡ wait → length s ≤ record_most
waits_short a b s w = short_by a b s (turn a b s) w

-- a refusal has a number above 0
pub some_number : (c : Cause) → 0 < number_of c
some_number UnknownKind = omega arith
some_number CutBody = omega arith
some_number NotHeld = omega arith
