-- What is at the front of some bytes stays when more come, and needs no byte after its record.
-- So framing is a machine of stream, whatever is done with whole records.
use mathlib.Core.Bool.{Bool, true, false, cond}
use mathlib.Core.List.{List, [], ◌∷◌, ◌++◌, append_assoc}
use mathlib.Core.Path.{◌≡◌, refl, sym, ap, ◌∙◌}
use Prim.Native.Nat.{ℕ, zero, suc, ◌-◌, ◌≤◌, ◌<◌, ◌^◌}
use native.Mathlib.Omega.{arith}
use borrow.Author.Tests.{ltb-true, ltb-false, lt-ltb, le-ltb}
use lib.Dec.{ltb}
use lib.ListN.{length, take, drop, get_or, length-append, length-take, drop_of_length-le, take-append-drop}
use lib.Seq.{take-append-le, take-take, drop-cons}
use Rattle.stream.specs.Stream.{Next, wait, takes, size, Machine, End, awaits, halted, settle, settled}
use Rattle.stream.proofs.Stream.{impossible, settled_still}
use Rattle.journal_frames.specs.declared.Frame.{Frame}
use Rattle.journal_frames.specs.declared.Frame.TheVariants.{Waits, Unknown, Whole}
use Rattle.journal_frames.specs.Frames.{is_known, body_len, record_room, ShortRecords, body_of, frame_of, OnWhole, TakesWhole, on_frame, by_frames, tells_record, on_frames, bytes_of}

-- ---- the frame at a kind byte, by what decides it

pub data FrameAt (kinds : List ℕ) (k : ℕ) (u : List ℕ) : Frame → Type 0 where
  unknown : is_known kinds k ≡ false → FrameAt kinds k u Unknown
  cut : is_known kinds k ≡ true → length u < body_len kinds k → FrameAt kinds k u Waits
  whole : is_known kinds k ≡ true → body_len kinds k ≤ length u → FrameAt kinds k u (Whole k (body_len kinds k))

module _ (kinds : List ℕ) (k : ℕ) (u : List ℕ) where
  frame_by : (p q : Bool) → is_known kinds k ≡ p → ltb (length u) (body_len kinds k) ≡ q
      → FrameAt kinds k u (cond p (cond q Waits (Whole k (body_len kinds k))) Unknown)
  frame_by false q e f = unknown e
  frame_by true true e f = cut e (ltb-true (length u) (body_len kinds k) f)
  frame_by true false e f = whole e (ltb-false (length u) (body_len kinds k) f)

  pub frame_at : FrameAt kinds k u (frame_of kinds (k ∷ u))
  unfolding frame_of
  frame_at = frame_by (is_known kinds k) (ltb (length u) (body_len kinds k)) refl refl

  -- and the other way round
  pub frame_is : {x : Frame} → FrameAt kinds k u x → frame_of kinds (k ∷ u) ≡ x
  unfolding frame_of
  frame_is (unknown e) = rw e refl
  frame_is (cut e h) = rw (e, lt-ltb (length u) (body_len kinds k) h) refl
  frame_is (whole e h) = rw (e, le-ltb (length u) (body_len kinds k) h) refl

-- the same of bytes that are known to be others
pub frame_none : (kinds t s : List ℕ) → t ≡ s → length t < 1 → Waits ≡ frame_of kinds s
unfolding frame_of
frame_none kinds [] s e h = ap (frame_of kinds) e
frame_none kinds (k ∷ t) s e h = absurd (omega arith)

pub frame_front : (kinds t s : List ℕ) → t ≡ s → 1 ≤ length t → {x : Frame} → FrameAt kinds (get_or t 0 0) (drop 1 t) x → x ≡ frame_of kinds s
frame_front kinds t s e h d = sym (frame_is kinds (get_or t 0 0) (drop 1 t) d) ∙ ap (frame_of kinds) (sym (drop-cons t 0 0 h) ∙ e)

-- and at a place of some bytes
pub frame_end : (kinds s : List ℕ) (at : ℕ) → length s ≤ at → Waits ≡ frame_of kinds (drop at s)
frame_end kinds s at h = frame_none kinds [] (drop at s) (sym (drop_of_length-le s h)) (omega arith)

pub frame_here : (kinds s : List ℕ) (at : ℕ) → at < length s → {x : Frame} → FrameAt kinds (get_or s at 0) (drop (suc at) s) x → x ≡ frame_of kinds (drop at s)
frame_here kinds s at h d = sym (ap (frame_of kinds) (drop-cons s at 0 h) ∙ frame_is kinds (get_or s at 0) (drop (suc at) s) d)

-- the length of a body, in a list that begins with kind 1
pub length_at : (kinds : List ℕ) (k : ℕ) → (k ≡ 0 → ⊥) → get_or kinds (k - 1) 0 ≡ body_len kinds k
unfolding body_len
length_at kinds zero z = absurd (z refl)
length_at kinds (suc i) z = let e : suc i - 1 ≡ i = omega arith in ap (λ (j : ℕ). get_or kinds j 0) e

-- ---- more bytes, and fewer

module _ (kinds : List ℕ) where
  more_by : (k : ℕ) (u t : List ℕ) {x : Frame} → FrameAt kinds k u x → (x ≡ Waits → ⊥) → FrameAt kinds k (u ++ t) x
  more_by k u t (unknown e) w = unknown e
  more_by k u t (cut e h) w = absurd (w refl)
  more_by k u t (whole e h) w = whole e (omega (arith, length-append u t))

  -- what is not waited for is there, whatever comes after it
  pub frame_more : (s t : List ℕ) → (frame_of kinds s ≡ Waits → ⊥) → frame_of kinds (s ++ t) ≡ frame_of kinds s
  unfolding frame_of
  frame_more [] t w = absurd (w refl)
  frame_more (k ∷ u) t w = frame_is kinds k (u ++ t) (more_by k u t (frame_at kinds k u) w)

  fits_by : (k : ℕ) (u : List ℕ) {x : Frame} → FrameAt kinds k u x → (j n : ℕ) → x ≡ Whole j n → n ≤ length u
  fits_by k u (unknown e) j n q = impossible cc
  fits_by k u (cut e h) j n q = impossible cc
  fits_by k u (whole e h) j n q = let l : body_len kinds k ≡ n = cc in omega arith

  -- a whole record is there
  pub frame_fits : (s : List ℕ) (k n : ℕ) → frame_of kinds s ≡ Whole k n → suc n ≤ length s
  unfolding frame_of
  frame_fits [] k n e = impossible cc
  frame_fits (j ∷ u) k n e = omega (arith, fits_by j u (frame_at kinds j u) k n e)

  kind_by : (k : ℕ) (u : List ℕ) {x : Frame} → FrameAt kinds k u x → (j n : ℕ) → x ≡ Whole j n → (j ≡ k) × (n ≡ body_len kinds k)
  kind_by k u (unknown e) j n q = impossible cc
  kind_by k u (cut e h) j n q = impossible cc
  kind_by k u (whole e h) j n q = let a : k ≡ j = cc in let b : body_len kinds k ≡ n = cc in (sym a, sym b)

  -- its kind is the first byte, and its length the kind's
  pub frame_kind : (s : List ℕ) (k n : ℕ) → frame_of kinds s ≡ Whole k n → (k ≡ get_or s 0 0) × (n ≡ body_len kinds (get_or s 0 0))
  unfolding frame_of
  frame_kind [] k n e = impossible cc
  frame_kind (j ∷ u) k n e = kind_by j u (frame_at kinds j u) k n e

  enough_by : (k : ℕ) (u : List ℕ) {x : Frame} → FrameAt kinds k u x → (j n : ℕ) → x ≡ Whole j n → FrameAt kinds k (take n u) x
  enough_by k u (unknown e) j n q = unknown e
  enough_by k u (cut e h) j n q = impossible cc
  enough_by k u (whole e h) j n q = let l : body_len kinds k ≡ n = cc in whole e (omega (arith, length-take n u))

  -- and no byte after it is looked at
  pub frame_enough : (s : List ℕ) (k n : ℕ) → frame_of kinds s ≡ Whole k n → frame_of kinds (take (suc n) s) ≡ Whole k n
  unfolding frame_of
  frame_enough [] k n e = e
  frame_enough (j ∷ u) k n e = frame_is kinds j (take n u) (enough_by j u (frame_at kinds j u) k n e) ∙ e

pub body_take : (n : ℕ) (s : List ℕ) → body_of n (take (suc n) s) ≡ body_of n s
body_take n [] = refl
body_take n (k ∷ u) = take-take n n u (omega arith)

pub body_more : (n : ℕ) (s t : List ℕ) → suc n ≤ length s → body_of n (s ++ t) ≡ body_of n s
body_more n [] t h = absurd (omega arith)
body_more n (k ∷ u) t h = take-append-le n u t (omega arith)

-- ---- a machine by frames

module _ {R E H : Type 0} (kinds : List ℕ) (h : H) (on : OnWhole R E H) where
  abbrev next : R → List ℕ → Next R E H
  next = by_frames kinds h on

  -- what it does, by the frame
  pub by_frame : (r : R) (s : List ℕ) (x : Frame) → frame_of kinds s ≡ x → by_frames kinds h on r s ≡ on_frame h on r s x
  unfolding by_frames
  by_frame r s x e = rw e refl

  module _ (w : TakesWhole on) where
    there_by : (r : R) (s : List ℕ) (x : Frame) → frame_of kinds s ≡ x → takes (on_frame h on r s x) ≡ true
        → (0 < size (on_frame h on r s x)) × (size (on_frame h on r s x) ≤ length s)
    there_by r s Waits e p = impossible cc
    there_by r s Unknown e p = impossible cc
    there_by r s (Whole k n) e p =
        let l : size (on r k (body_of n s) (suc n)) ≡ suc n = w.sized r k (body_of n s) (suc n) p in
        (omega arith, omega (arith, frame_fits kinds s k n e))

    enough_on : (r : R) (s : List ℕ) (x : Frame) → frame_of kinds s ≡ x → takes (on_frame h on r s x) ≡ true
        → next r (take (size (on_frame h on r s x)) s) ≡ on_frame h on r s x
    enough_on r s Waits e p = impossible cc
    enough_on r s Unknown e p = impossible cc
    enough_on r s (Whole k n) e p =
        let l : size (on r k (body_of n s) (suc n)) ≡ suc n = w.sized r k (body_of n s) (suc n) p in
        ap (λ (m : ℕ). next r (take m s)) l
        ∙ by_frame r (take (suc n) s) (Whole k n) (frame_enough kinds s k n e)
        ∙ ap (λ (b : List ℕ). on r k b (suc n)) (body_take n s)

    stands_by : (r : R) (s t : List ℕ) (x : Frame) → frame_of kinds s ≡ x → (on_frame h on r s x ≡ wait → ⊥) → next r (s ++ t) ≡ on_frame h on r s x
    stands_by r s t Waits e q = absurd (q refl)
    stands_by r s t Unknown e q = by_frame r (s ++ t) Unknown (frame_more kinds s t (λ z. not_waits (sym e ∙ z)) ∙ e)
      where
        not_waits : Unknown ≡ Waits → ⊥
        not_waits z = impossible cc
    stands_by r s t (Whole k n) e q =
        by_frame r (s ++ t) (Whole k n) (frame_more kinds s t (λ z. not_waits (sym e ∙ z)) ∙ e)
        ∙ ap (λ (b : List ℕ). on r k b (suc n)) (body_more n s t (frame_fits kinds s k n e))
      where
        not_waits : Whole k n ≡ Waits → ⊥
        not_waits z = impossible cc

    -- whatever it does with whole records, it takes bytes in parts as it takes them at once
    pub frames_machine : Machine (by_frames kinds h on)
    unfolding by_frames frame_of
    frames_machine = record {
      idle = λ r. refl;
      there = λ r s. there_by r s (frame_of kinds s) refl;
      enough = λ r s. enough_on r s (frame_of kinds s) refl;
      stands = λ r s t. stands_by r s t (frame_of kinds s) refl;
    }

    -- it waits with the frame, and only so
    waits_by : (r : R) (s : List ℕ) (x : Frame) → on_frame h on r s x ≡ wait → x ≡ Waits
    waits_by r s Waits e = refl
    waits_by r s Unknown e = impossible cc
    waits_by r s (Whole k n) e = absurd (w.moves r k (body_of n s) (suc n) e)

    pub waits_framed : (r : R) (s : List ℕ) → by_frames kinds h on r s ≡ wait → frame_of kinds s ≡ Waits
    unfolding by_frames
    waits_framed r s e = waits_by r s (frame_of kinds s) e

-- ---- what waits for more bytes is shorter than a record

module _ (kinds : List ℕ) (short : ShortRecords kinds) where
  cut_short : (k : ℕ) (u : List ℕ) {x : Frame} → FrameAt kinds k u x → x ≡ Waits → length u < body_len kinds k
  cut_short k u (unknown e) q = impossible cc
  cut_short k u (cut e h) q = h
  cut_short k u (whole e h) q = impossible cc

  pub cut_under : (s : List ℕ) → frame_of kinds s ≡ Waits → length s < record_room
  cut_under [] e = omega arith
  cut_under (k ∷ u) e = omega (arith, cut_short k u (frame_at kinds k u) e, short k)

  module _ {R E H : Type 0} (h : H) (on : OnWhole R E H) (w : TakesWhole on) where
    pub waits_under : (r : R) (s : List ℕ) → by_frames kinds h on r s ≡ wait → length s < record_room
    waits_under r s e = cut_under s (waits_framed kinds h on w r s e)

    rest_by : (r : R) (s : List ℕ) (x : End H) → (settled (by_frames kinds h on) r s).end ≡ x → x ≡ awaits → length (settled (by_frames kinds h on) r s).rest < record_room
    rest_by r s awaits e p =
        let a = settled (by_frames kinds h on) r s in
        waits_under a.state a.rest (rw e at (settled_still (by_frames kinds h on) (frames_machine kinds h on w) r s))
    rest_by r s (halted y) e p = impossible cc

    -- so that is all that is carried over from one part to the next
    pub rest_under : (r : R) (s : List ℕ) → (settled (by_frames kinds h on) r s).end ≡ awaits → length (settled (by_frames kinds h on) r s).rest < record_room
    rest_under r s e = rest_by r s (settled (by_frames kinds h on) r s).end refl e

-- lengths that are 16-bit numbers make short records
pub sixteen_bits : (kinds : List ℕ) → ((i : ℕ) → get_or kinds i 0 < 2 ^ 16) → ShortRecords kinds
unfolding body_len
sixteen_bits kinds h zero = omega arith
sixteen_bits kinds h (suc i) = omega (arith, h i)

-- and so do those of a table that one can look at
unfoldable pub all_short : List ℕ → Bool
all_short [] = true
all_short (n ∷ kinds) = cond (ltb n record_room) (all_short kinds) false

first_short : (n : ℕ) (kinds : List ℕ) (t : Bool) → ltb n record_room ≡ t → all_short (n ∷ kinds) ≡ true → (n < record_room) × (all_short kinds ≡ true)
unfolding all_short
first_short n kinds true e a = (ltb-true n record_room e, rw e at a)
first_short n kinds false e a = let f : false ≡ true = rw e at a in impossible cc

element_short : (kinds : List ℕ) → all_short kinds ≡ true → (i : ℕ) → get_or kinds i 0 < record_room
element_short [] a i = omega arith
element_short (n ∷ kinds) a zero = (first_short n kinds (ltb n record_room) refl a).0
element_short (n ∷ kinds) a (suc i) = element_short kinds (first_short n kinds (ltb n record_room) refl a).1 i

pub short_table : (kinds : List ℕ) → all_short kinds ≡ true → ShortRecords kinds
short_table kinds a = sixteen_bits kinds (λ i. omega (arith, element_short kinds a i))

-- ---- the machine that only tells the records

takes_record : TakesWhole tells_record
unfolding tells_record
takes_record = record { sized = λ r k b n p. refl; moves = λ r k b n e. no r k b n e }
  where
    no : (r : Unit {0}) (k : ℕ) (b : List ℕ) (n : ℕ) → tells_record r k b n ≡ wait → ⊥
    no r k b n e = impossible cc

pub copying_machine : (kinds : List ℕ) → Machine (on_frames kinds)
unfolding on_frames
copying_machine kinds = frames_machine kinds tt tells_record takes_record

-- the records that it tells, and then the rest, are the bytes that it got: to copy them loses
-- nothing
module _ (kinds : List ℕ) where
  front_bytes : (s : List ℕ) (k n : ℕ) → frame_of kinds s ≡ Whole k n → (k ∷ body_of n s) ++ drop (suc n) s ≡ s
  unfolding frame_of
  front_bytes [] k n e = impossible cc
  front_bytes (j ∷ u) k n e = let q = (frame_kind kinds (j ∷ u) k n e).0 in rw q (ap (λ (l : List ℕ). j ∷ l) (take-append-drop n u))

  abbrev told_bytes : ℕ → List ℕ → List ℕ
  told_bytes f s = bytes_of (settle (on_frames kinds) f tt s).told ++ (settle (on_frames kinds) f tt s).rest

  told_by : (f : ℕ) → ((s : List ℕ) → told_bytes f s ≡ s) → (s : List ℕ) (x : Frame) → frame_of kinds s ≡ x → told_bytes (suc f) s ≡ s
  unfolding settle on_frames tells_record bytes_of
  told_by f ih s Waits e = rw (by_frame kinds tt tells_record tt s Waits e) refl
  told_by f ih s Unknown e = rw (by_frame kinds tt tells_record tt s Unknown e) refl
  told_by f ih s (Whole k n) e =
      let a = settle (on_frames kinds) f tt (drop (suc n) s) in
      rw (by_frame kinds tt tells_record tt s (Whole k n) e)
      (append_assoc (k ∷ body_of n s) (bytes_of a.told) a.rest ∙ ap (λ (l : List ℕ). (k ∷ body_of n s) ++ l) (ih (drop (suc n) s)) ∙ front_bytes s k n e)

  told_at : (f : ℕ) (s : List ℕ) → told_bytes f s ≡ s
  unfolding settle bytes_of
  told_at zero s = refl
  told_at (suc f) s = told_by f (told_at f) s (frame_of kinds s) refl

  pub nothing_lost : (s : List ℕ) → bytes_of (settled (on_frames kinds) tt s).told ++ (settled (on_frames kinds) tt s).rest ≡ s
  unfolding settled
  nothing_lost s = told_at (suc (length s)) s
