-- The framing of a journal (01-scope.md, Journal): one byte of kind, then a body whose length the
-- kind fixes. Which kinds there are is a list that everything above takes as a parameter: the
-- lengths of the bodies of kinds 1, 2, 3 and so on.
use Rattle.std.specs.Prelude.{Bool, true, cond, ◌&&◌, List, [], ◌∷◌, ◌++◌, ◌≡◌, ℕ, suc, ◌<◌, ltb, leb, length, take, drop, get_or}
use Rattle.stream.specs.Stream.{Next, wait, halt, tell, takes, size}
use Rattle.journal_frames.specs.declared.Frame.{Frame}
use Rattle.journal_frames.specs.declared.Frame.TheVariants.{Waits, Unknown, Whole}

-- kind k is one of these kinds
unfoldable pub is_known : List ℕ → ℕ → Bool
is_known kinds k = ltb 0 k && leb k (length kinds)

-- the length of a body of kind k; 0 for a kind that is not listed
unfoldable pub body_len : List ℕ → ℕ → ℕ
body_len kinds k = get_or (0 ∷ kinds) k 0

-- no record, kind byte and body, has more bytes than this
abbrev pub record_room : ℕ
record_room = 65536

-- of kinds whose lengths are 16-bit numbers this holds
abbrev pub ShortRecords : List ℕ → Type 0
ShortRecords kinds = (k : ℕ) → body_len kinds k < record_room

-- ---- what is at the front of some bytes

-- the body of n bytes after the kind byte
abbrev pub body_of : ℕ → List ℕ → List ℕ
body_of n s = take n (drop 1 s)

-- nothing, or a record that is not there whole; a kind that is not listed; or a whole record
unfoldable pub frame_of : List ℕ → List ℕ → Frame
frame_of kinds [] = Waits
frame_of kinds (k ∷ s) = cond (is_known kinds k) (cond (ltb (length s) (body_len kinds k)) Waits (Whole k (body_len kinds k))) Unknown

-- ---- machines that go by frames

-- what is done with a whole record: by the state, the kind, the body and the length with the kind
abbrev pub OnWhole : (R E H : Type 0) → Type 0
OnWhole R E H = R → ℕ → List ℕ → ℕ → Next R E H

-- it is taken, all of it, or halts the machine
pub record TakesWhole {R E H : Type 0} (on : OnWhole R E H) : Type 0 where
  pub sized : (r : R) (k : ℕ) (b : List ℕ) (n : ℕ) → takes (on r k b n) ≡ true → size (on r k b n) ≡ n
  pub moves : (r : R) (k : ℕ) (b : List ℕ) (n : ℕ) → on r k b n ≡ wait → ⊥

-- a machine waits with the frame, halts for h at a kind that is not listed, and else goes by `on`
abbrev pub on_frame : {R E H : Type 0} → H → OnWhole R E H → R → List ℕ → Frame → Next R E H
on_frame h on r s Waits = wait
on_frame h on r s Unknown = halt h
on_frame h on r s (Whole k n) = on r k (body_of n s) (suc n)

unfoldable pub by_frames : {R E H : Type 0} → List ℕ → H → OnWhole R E H → R → List ℕ → Next R E H
by_frames kinds h on r s = on_frame h on r s (frame_of kinds s)

-- one that only tells the records, whatever they hold
pub record Framed : Type 0 where
  pub kind : ℕ
  pub body : List ℕ

unfoldable pub tells_record : OnWhole (Unit {0}) Framed (Unit {0})
tells_record r k b n = tell r n (record { kind = k; body = b })

unfoldable pub on_frames : List ℕ → Unit {0} → List ℕ → Next (Unit {0}) Framed (Unit {0})
on_frames kinds = by_frames kinds tt tells_record

-- the bytes of such records, one after the other
unfoldable pub bytes_of : List Framed → List ℕ
bytes_of [] = []
bytes_of (f ∷ fs) = (f.kind ∷ f.body) ++ bytes_of fs
