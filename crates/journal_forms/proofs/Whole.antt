-- One record: what is asked before it is put, and what is answered then.
use Prim.Native.Nat.{ℕ, suc, ◌+◌, ◌-◌, ◌≤◌, ◌<◌}
use mathlib.Core.Path.{◌≡◌, refl, sym, ap, ap₂, ◌∙◌}
use mathlib.Core.Bool.{true, false}
use mathlib.Core.List.{List, [], ◌∷◌, ◌++◌}
use native.Mathlib.Omega.{arith}
use lib.ListN.{length, take, drop, set, length-set, length-drop}
use lib.Seq.{drop-drop}
use Rattle.std.proofs.Common.{Some, None}
use Rattle.text.specs.Memory.{Put}
use Rattle.text.proofs.Puts.{put_on}
use Rattle.journal_frames.specs.declared.Frame.{Frame}
use Rattle.journal_frames.specs.declared.Frame.TheVariants.{Waits, Unknown, Whole}
use Rattle.journal_frames.specs.Frames.{is_known, body_len, body_of, frame_of}
use Rattle.journal_frames.proofs.Frames.{by_frame}
use Rattle.journal_forms.specs.declared.Form.{Form}
use Rattle.journal_forms.specs.declared.Cause.TheVariants.{UnknownKind, NotHeld}
use Rattle.journal_forms.specs.declared.Converted.{Converted}
use Rattle.journal_forms.specs.declared.body.Run.{Run}
use Rattle.journal_forms.specs.Forms.{other, kinds_of, runs_of, record_most}
use Rattle.journal_forms.specs.Body.{runs_bytes, body_to, body_held}
use Rattle.journal_forms.specs.Conversion.{turns, on_form}
use Rattle.journal_forms.specs.Turns.{step_of, memory_of, Stepped}
use Rattle.journal_forms.proofs.Bodies.{body_long}
use Rattle.journal_forms.proofs.Putting.{put_byte}
use Rattle.journal_forms.proofs.Tables.{known_fits}
use Rattle.journal_forms.proofs.Records.{turns_by, WholeAt, whole_at}

-- ---- a body of its kind's length, with the runs that were looked up

module _ (a : Form) (k : ℕ) (body : List ℕ) (known : is_known (kinds_of a) k ≡ true) (len : length body ≡ body_len (kinds_of a) k) (rs : List Run) (e : rs ≡ runs_of k) where
  pub whole_inside : runs_bytes a rs ≤ length body
  whole_inside = rw e (omega (arith, (known_fits a (other a) k known).inside, len))

  long : length (body_to a (other a) (runs_of k) body) < record_most
  long =
      let f = known_fits a (other a) k known in
      omega (arith, body_long a (other a) (runs_of k) body (omega (arith, f.inside, len)), f.lengths, f.short, len)

  -- there is room for it after its kind
  pub whole_room : (out : List ℕ) (n : ℕ) → n + record_most ≤ length out → n + 1 + length (body_to a (other a) rs body) ≤ length (set out n k)
  whole_room out n h = rw e (omega (arith, long, length-set out n k))

  -- the record is put
  pub whole_put : (p : Converted) (out : List ℕ) → p.n + record_most ≤ length out → body_held a (other a) rs body ≡ true → (r : ℕ) (out' : List ℕ)
      → Put (set out p.n k) (p.n + 1) (body_to a (other a) rs body) r out' → (at : ℕ) → at ≡ p.at + suc (length body)
      → Stepped p (turns a (other a) tt k body (suc (length body))) out (record { at = at; n = r; more = true; refused = None }) out'
  unfolding step_of memory_of
  whole_put p out h i r out' q at y =
      let made = body_to a (other a) (runs_of k) body in
      let o : Put out p.n ((k ∷ []) ++ made) r out' = put_on out p.n (k ∷ []) (p.n + 1) (set out p.n k) made r out' (omega arith) (put_byte out p.n k (omega arith)) (rw e at q) in
      rw (turns_by a (other a) tt k body (suc (length body)) true (rw e at i))
      (record { answer = ap₂ (λ (x z : ℕ). record { at = x; n = z; more = true; refused = None }) y o.ends; memory = o.memory })

  -- or refused
  pub whole_refused : (p : Converted) (out : List ℕ) → body_held a (other a) rs body ≡ false
      → (r : Converted) → r ≡ record { at = p.at; n = p.n; more = false; refused = Some NotHeld } → Stepped p (turns a (other a) tt k body (suc (length body))) out r out
  unfolding step_of memory_of
  whole_refused p out i r z = rw (turns_by a (other a) tt k body (suc (length body)) false (rw e at i)) (record { answer = z; memory = refl })

-- ---- by the frame

pub framed_by : (a : Form) (kinds u : List ℕ) (f x : Frame) → kinds ≡ kinds_of a → f ≡ frame_of kinds u → f ≡ x → frame_of (kinds_of a) u ≡ x
framed_by a kinds u f x e g h = ap (λ (l : List ℕ). frame_of l u) (sym e) ∙ sym g ∙ h

module _ (a b : Form) (p : Converted) (u out : List ℕ) where
  pub one_waits : frame_of (kinds_of a) u ≡ Waits → (r : Converted) → r ≡ record { at = p.at; n = p.n; more = false; refused = None } → Stepped p (on_form a b tt u) out r out
  unfolding on_form step_of memory_of
  one_waits e r z = rw (by_frame (kinds_of a) UnknownKind (turns a b) tt u Waits e) (record { answer = z; memory = refl })

  pub one_unknown : frame_of (kinds_of a) u ≡ Unknown → (r : Converted) → r ≡ record { at = p.at; n = p.n; more = false; refused = Some UnknownKind }
      → Stepped p (on_form a b tt u) out r out
  unfolding on_form step_of memory_of
  one_unknown e r z = rw (by_frame (kinds_of a) UnknownKind (turns a b) tt u Unknown e) (record { answer = z; memory = refl })

-- a whole record at a place
module _ (a : Form) (s : List ℕ) (at k n : ℕ) (e : frame_of (kinds_of a) (drop at s) ≡ Whole k n) where
  w : WholeAt a (drop at s) k n
  w = whole_at a (drop at s) k n e

  pub whole_end : at + 1 + n ≤ length s
  whole_end = omega (arith, w.there, length-drop at s)

  abbrev part : List ℕ
  part = take (at + 1 + n - (at + 1)) (drop (at + 1) s)

  part_is : part ≡ body_of n (drop at s)
  part_is = let j : at + 1 + n - (at + 1) ≡ n = omega arith in ap₂ take j (sym (drop-drop 1 at s))

  part_long : length part ≡ n
  part_long = ap length part_is ∙ w.long

  pub whole_asks : (is_known (kinds_of a) k ≡ true) × (length part ≡ body_len (kinds_of a) k) × (at + suc (length part) ≤ length s)
  whole_asks = (w.known, part_long ∙ w.len, omega (arith, part_long, whole_end))

  pub one_whole : (b : Form) (p : Converted) (out : List ℕ) (r : Converted) (out' : List ℕ) → Stepped p (turns a b tt k part (suc (length part))) out r out' → Stepped p (on_form a b tt (drop at s)) out r out'
  unfolding on_form
  one_whole b p out r out' t =
      rw (by_frame (kinds_of a) UnknownKind (turns a b) tt (drop at s) (Whole k n) e) (rw (part_long, part_is) at t)
