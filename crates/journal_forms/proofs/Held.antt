-- Whether the other form holds floats, one after the other.
use Prim.Native.Nat.{ℕ, ◌+◌, ◌*◌, ◌≤◌, ◌<◌}
use mathlib.Core.Path.{◌≡◌, refl, sym, ap, ap₂, ◌∙◌}
use mathlib.Core.Bool.{Bool, true, false, cond, ◌&&◌}
use mathlib.Core.List.{List, ◌∷◌}
use native.Mathlib.Numerals.{add-one}
use native.Mathlib.Omega.{arith}
use lib.ListN.{length, drop, get_or, drop_of_length-le}
use lib.Seq.{drop-drop, drop-cons}
use lib.Ieee.{Float, binary32, binary64, of_bits, to_bits, fits}
use lib.Ieee.Bits.{is_true, of_bits-fits}
use lib.Ieee.Fits.{fits_widens}
use Rattle.std.proofs.Common.{Option, Some, None, is_some}
use Rattle.binary32.specs.Patterns.{narrowed, narrow_of}
use Rattle.journal_records.specs.Little.{le_at}
use Rattle.journal_forms.specs.declared.Form.{Form}
use Rattle.journal_forms.specs.declared.Form.TheVariants.{Wide}
use Rattle.journal_forms.specs.declared.body.Run.{Run}
use Rattle.journal_forms.specs.Forms.{other, format_of, float_bytes, run}
use Rattle.journal_forms.specs.Body.{float_in, floats_in, all_pass, run_bytes, runs_bytes, run_floats, body_floats, body_held}
use Rattle.journal_forms.proofs.Bytes.{le_at_front}
use Rattle.journal_forms.proofs.Floats.{pass_append, float_place, fail_at, pass_more}

-- ---- one float

-- what narrowing answers says whether binary32 holds it, and its pattern
pub narrow_some : (x : Float) → is_some (narrowed x) ≡ fits binary32 x
narrow_some x = by (fits binary32 x)
  where
    by : (t : Bool) → is_some (cond t (Some (to_bits binary32 x)) None) ≡ t
    by true = refl
    by false = refl

pub narrow_is : (x : Float) → fits binary32 x ≡ true → narrowed x ≡ Some (to_bits binary32 x)
narrow_is x e = rw e refl

-- of the double at a place
pub narrow_at : (s : List ℕ) (at w : ℕ) (n : Option ℕ) → n ≡ narrow_of w → w ≡ le_at s at 8 → fits binary32 (float_in Wide (drop at s)) ≡ true → n ≡ Some (to_bits binary32 (float_in Wide (drop at s)))
narrow_at s at w n e y h = e ∙ ap narrow_of (y ∙ sym (le_at_front s at 8)) ∙ narrow_is (float_in Wide (drop at s)) h

-- binary64 holds every float of binary32
pub widens : (n : ℕ) → fits binary64 (of_bits binary32 n) ≡ true
widens n = is_true (fits binary64 (of_bits binary32 n)) (fits_widens (of_bits binary32 n) (of_bits-fits binary32 n))

-- ---- floats

abbrev pub passes : Form → Float → Bool
passes a = fits (format_of (other a))

-- the first i floats from place `at` on are held, of w bytes each
module _ (a : Form) (s : List ℕ) (at count i w : ℕ) (y : w ≡ float_bytes a) where
  here : drop (i * float_bytes a) (drop at s) ≡ drop (at + i * w) s
  here = float_place a s at (at + i * w) i (ap (λ (j : ℕ). at + i * j) y)

  pub held_more : all_pass (passes a) (floats_in a i (drop at s)) ≡ true → passes a (float_in a (drop (at + i * w) s)) ≡ true → all_pass (passes a) (floats_in a (i + 1) (drop at s)) ≡ true
  held_more h e = pass_more (passes a) a i (drop at s) h (ap (λ (v : List ℕ). passes a (float_in a v)) here ∙ e)

  pub held_fails : i < count → passes a (float_in a (drop (at + i * w) s)) ≡ false → false ≡ all_pass (passes a) (floats_in a count (drop at s))
  held_fails l e = sym (fail_at (passes a) a count (drop at s) i l (ap (λ (v : List ℕ). passes a (float_in a v)) here ∙ e))

-- ---- run by run

pub next_run : (rs : List Run) (i : ℕ) → i < length rs → drop i rs ≡ get_or rs i (run 0 0) ∷ drop (i + 1) rs
next_run rs i h = rw add-one (drop-cons rs i (run 0 0) h)

module _ (a : Form) (rs : List Run) (s : List ℕ) where
  -- before run i, at place `at`, all floats are held
  pub record Left (i at : ℕ) : Type 0 where
    pub sum : at + runs_bytes a (drop i rs) ≡ runs_bytes a rs
    pub same : body_held a (other a) rs s ≡ body_held a (other a) (drop i rs) (drop at s)

  module _ (i at : ℕ) (l : Left i at) (r : Run) (e : drop i rs ≡ r ∷ drop (i + 1) rs) where
    pub run_there : runs_bytes a rs ≤ length s → at + run_bytes a r ≤ length s
    unfolding runs_bytes
    run_there h = omega (arith, l.sum, ap (runs_bytes a) e, h)

    two : body_held a (other a) rs s ≡ all_pass (passes a) (floats_in a r.floats (drop (at + r.copied) s)) && body_held a (other a) (drop (i + 1) rs) (drop (at + run_bytes a r) s)
    unfolding body_floats
    two =
        let later = drop (i + 1) rs in
        l.same
        ∙ ap (λ (xs : List Run). body_held a (other a) xs (drop at s)) e
        ∙ pass_append (passes a) (run_floats a r (drop at s)) (body_floats a later (drop (run_bytes a r) (drop at s)))
        ∙ ap₂ (λ (u v : List ℕ). all_pass (passes a) (floats_in a r.floats u) && body_held a (other a) later v) (drop-drop r.copied at s) (drop-drop (run_bytes a r) at s)

    pub left_more : all_pass (passes a) (floats_in a r.floats (drop (at + r.copied) s)) ≡ true → (m : ℕ) → m ≡ run_bytes a r → Left (i + 1) (at + m)
    unfolding runs_bytes
    left_more h m y = record {
      sum = omega (arith, l.sum, ap (runs_bytes a) e, y);
      same = rw y (two ∙ rw h refl);
    }

    pub left_fails : all_pass (passes a) (floats_in a r.floats (drop (at + r.copied) s)) ≡ false → false ≡ body_held a (other a) rs s
    left_fails h = sym (two ∙ rw h refl)

  pub left_end : (i at : ℕ) → Left i at → length rs ≤ i → true ≡ body_held a (other a) rs s
  unfolding body_floats all_pass
  left_end i at l h = sym (l.same ∙ rw (drop_of_length-le rs h) refl)
