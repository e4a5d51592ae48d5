-- Bytes of which all was taken and nothing refused: a record, and such bytes after it, or none.
use Prim.Native.Nat.{ℕ, zero, suc, ◌≤◌, ◌<◌}
use mathlib.Core.Path.{◌≡◌, sym, ap, ◌∙◌}
use mathlib.Core.Bool.{true}
use mathlib.Core.List.{List, [], ◌∷◌, ◌++◌}
use native.Mathlib.Omega.{arith}
use lib.ListN.{length, drop, length-drop, take-append-drop}
use Rattle.stream.specs.Stream.{awaits, halted, Settled, telling, settled}
use Rattle.stream.proofs.Stream.{impossible, settled_wait, settled_halt, settled_tell}
use Rattle.journal_frames.specs.declared.Frame.TheVariants.{Whole}
use Rattle.journal_frames.specs.Frames.{body_of, frame_of, Framed, on_frames, tells_record}
use Rattle.journal_frames.proofs.Frames.{by_frame, copying_machine}
use Rattle.journal_forms.specs.declared.Form.{Form}
use Rattle.journal_forms.specs.declared.Cause.{Cause}
use Rattle.journal_forms.specs.declared.Cause.TheVariants.{UnknownKind, NotHeld}
use Rattle.journal_forms.specs.Forms.{kinds_of, runs_of}
use Rattle.journal_forms.specs.Body.{body_held}
use Rattle.journal_forms.specs.Conversion.{turned, on_form}
use Rattle.journal_forms.proofs.Records.{form_machine, Turn, waits, not_known, is_turned, not_held, turn, whole_told, WholeAt, whole_at}

-- ---- a record in front of other bytes

-- its bytes, and those after it
pub whole_bytes : {a : Form} (s : List ℕ) (k n : ℕ) → WholeAt a s k n → (k ∷ body_of n s) ++ drop (suc n) s ≡ s
whole_bytes [] k n w = absurd (omega (arith, w.there))
whole_bytes (j ∷ v) k n w = let y : j ≡ k = cc w.first in rw y (ap (λ (l : List ℕ). k ∷ l) (take-append-drop n v))

-- as it is
pub framed_as_lem : (a : Form) (s : List ℕ) (k n : ℕ) → frame_of (kinds_of a) s ≡ Whole k n
    → settled (on_frames (kinds_of a)) tt s ≡ telling (record { kind = k; body = body_of n s } ∷ []) (settled (on_frames (kinds_of a)) tt (drop (suc n) s))
unfolding on_frames tells_record
framed_as_lem a s k n i = settled_tell (on_frames (kinds_of a)) (copying_machine (kinds_of a)).there tt s tt (suc n) _ (by_frame (kinds_of a) tt tells_record tt s (Whole k n) i)

-- and in form b
pub turned_as : (a b : Form) (s : List ℕ) (k n : ℕ) → frame_of (kinds_of a) s ≡ Whole k n → body_held a b (runs_of k) (body_of n s) ≡ true
    → settled (on_form a b) tt s ≡ telling (turned a b (record { kind = k; body = body_of n s }) ∷ []) (settled (on_form a b) tt (drop (suc n) s))
turned_as a b s k n i h = settled_tell (on_form a b) (form_machine a b).there tt s tt (suc n) _ (whole_told a b s k n i h)

-- ---- all was taken, and nothing refused

pub record Done (a b : Form) (s : List ℕ) : Type 0 where
  pub end : (settled (on_form a b) tt s).end ≡ awaits
  pub rest : (settled (on_form a b) tt s).rest ≡ []

-- what holds of no bytes, and of a record with bytes after it where it holds of these, holds of all
-- such bytes
module _ (a b : Form) (P : List ℕ → Type 0) (none : P [])
    (one : (s : List ℕ) (k n : ℕ) → frame_of (kinds_of a) s ≡ Whole k n → body_held a b (runs_of k) (body_of n s) ≡ true → P (drop (suc n) s) → P s) where
  by_turn : (g : ℕ) → ((s : List ℕ) → length s < g → Done a b s → P s) → (s : List ℕ) → length s ≤ g → Done a b s → Turn a b s → P s
  by_turn g ih s l d (waits i e) =
      let w = settled_wait (on_form a b) (form_machine a b).there tt s e in
      let z : s ≡ [] = sym (ap (λ (m : Settled (Unit {0}) Framed Cause). m.rest) w) ∙ d.rest in
      rw z none
  by_turn g ih s l d (not_known i e) =
      let w = settled_halt (on_form a b) (form_machine a b).there tt s UnknownKind e in
      let z : halted UnknownKind ≡ awaits = sym (ap (λ (m : Settled (Unit {0}) Framed Cause). m.end) w) ∙ d.end in
      impossible cc
  by_turn g ih s l d (not_held k n i h e) =
      let w = settled_halt (on_form a b) (form_machine a b).there tt s NotHeld e in
      let z : halted NotHeld ≡ awaits = sym (ap (λ (m : Settled (Unit {0}) Framed Cause). m.end) w) ∙ d.end in
      impossible cc
  by_turn g ih s l d (is_turned k n i h e) =
      let t = turned_as a b s k n i h in
      one s k n i h
      (ih (drop (suc n) s) (omega (arith, length-drop (suc n) s, (whole_at a s k n i).there)) (record {
        end = ap (λ (m : Settled (Unit {0}) Framed Cause). m.end) (sym t) ∙ d.end;
        rest = ap (λ (m : Settled (Unit {0}) Framed Cause). m.rest) (sym t) ∙ d.rest;
      }))

  by_length : (g : ℕ) (s : List ℕ) → length s < g → Done a b s → P s
  by_length zero s l d = absurd (omega arith)
  by_length (suc g) s l d = by_turn g (λ u q. by_length g u q) s (omega arith) d (turn a b s)

  pub by_records : (s : List ℕ) → Done a b s → P s
  by_records s d = by_length (suc (length s)) s (omega arith) d
