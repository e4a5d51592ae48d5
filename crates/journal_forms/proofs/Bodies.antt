-- A body run by run: its length in the other form, through one form into a third, and back.
use Prim.Native.Nat.{ℕ, ◌+◌, ◌*◌, ◌≤◌}
use mathlib.Core.Path.{◌≡◌, refl, sym, ap, ap₂, ◌∙◌}
use mathlib.Core.Bool.{true}
use mathlib.Core.List.{List, [], ◌∷◌, ◌++◌, append_assoc}
use native.Mathlib.Omega.{arith}
use lib.ListN.{length, take, drop, length-append, length-drop, take-append-drop}
use lib.Seq.{length-take-le, take_at, drop_at, take-add}
use lib.Ieee.{Float, fits}
use Rattle.journal_forms.specs.declared.Form.{Form}
use Rattle.journal_forms.specs.declared.body.Run.{Run}
use Rattle.journal_forms.specs.Forms.{format_of, float_bytes}
use Rattle.journal_forms.specs.Body.{floats_in, floats_to, all_pass, run_bytes, runs_bytes, run_floats, body_floats, run_to, body_to, body_held}
use Rattle.journal_forms.specs.Claims.{OfBytes, is_number}
use Rattle.journal_forms.proofs.Bytes.{bytes_drop}
use Rattle.journal_forms.proofs.Floats.{both_pass, floats_count, floats_long, floats_back, floats_same}

-- ---- lengths

pub run_long : (a b : Form) (r : Run) (s : List ℕ) → r.copied ≤ length s → length (run_to a b r s) ≡ run_bytes b r
run_long a b r s h =
    let xs = run_floats a r s in
    let k : length xs * float_bytes b ≡ r.floats * float_bytes b = ap (λ (j : ℕ). j * float_bytes b) (floats_count a r.floats (drop r.copied s)) in
    omega (arith, length-append (take r.copied s) (floats_to b xs), length-take-le r.copied s h, floats_long b xs, k)

pub body_long : (a b : Form) (rs : List Run) (s : List ℕ) → runs_bytes a rs ≤ length s → length (body_to a b rs s) + runs_bytes a rs ≡ length s + runs_bytes b rs
unfolding runs_bytes body_to
body_long a b [] s h = refl
body_long a b (r ∷ rs) s h =
    let u = drop (run_bytes a r) s in
    omega (
      arith,
      length-append (run_to a b r s) (body_to a b rs u),
      run_long a b r s (omega arith),
      body_long a b rs u (omega (arith, length-drop (run_bytes a r) s)),
      length-drop (run_bytes a r) s,
    )

-- ---- through form b

module _ (a b : Form) (r : Run) (s v : List ℕ) (h : r.copied ≤ length s) (k : all_pass (fits (format_of b)) (run_floats a r s) ≡ true) where
  abbrev xs : List Float
  xs = run_floats a r s

  first_long : length (take r.copied s) ≡ r.copied
  first_long = length-take-le r.copied s h

  parts : run_to a b r s ++ v ≡ take r.copied s ++ (floats_to b xs ++ v)
  parts = append_assoc (take r.copied s) (floats_to b xs) v

  -- the floats of a run are the same in form b
  run_floats_lem : run_floats b r (run_to a b r s ++ v) ≡ xs
  run_floats_lem =
      ap (λ (u : List ℕ). floats_in b r.floats (drop r.copied u)) parts
      ∙ ap (floats_in b r.floats) (drop_at (take r.copied s) (floats_to b xs ++ v) r.copied first_long)
      ∙ ap (λ (n : ℕ). floats_in b n (floats_to b xs ++ v)) (sym (floats_count a r.floats (drop r.copied s)))
      ∙ floats_back b xs v k

  run_copied : take r.copied (run_to a b r s ++ v) ≡ take r.copied s
  run_copied = ap (take r.copied) parts ∙ take_at (take r.copied s) (floats_to b xs ++ v) r.copied first_long

  run_through : (c : Form) → run_to b c r (run_to a b r s ++ v) ≡ run_to a c r s
  run_through c = ap₂ (λ (x : List ℕ) (ys : List Float). x ++ floats_to c ys) run_copied run_floats_lem

  run_after_lem : drop (run_bytes b r) (run_to a b r s ++ v) ≡ v
  run_after_lem = drop_at (run_to a b r s) v (run_bytes b r) (run_long a b r s h)

-- the same floats, and the same body in any third form
pub body_floats_lem : (a b : Form) (rs : List Run) (s : List ℕ) → runs_bytes a rs ≤ length s → body_held a b rs s ≡ true → body_floats b rs (body_to a b rs s) ≡ body_floats a rs s
unfolding runs_bytes body_to body_floats
body_floats_lem a b [] s h k = refl
body_floats_lem a b (r ∷ rs) s h k =
    let u = drop (run_bytes a r) s in
    let v = body_to a b rs u in
    let p = both_pass (fits (format_of b)) (run_floats a r s) (body_floats a rs u) k in
    let c : r.copied ≤ length s = omega arith in
    ap₂ (λ (xs ys : List Float). xs ++ ys) (run_floats_lem a b r s v c p.0)
    (ap (body_floats b rs) (run_after_lem a b r s v c p.0) ∙ body_floats_lem a b rs u (omega (arith, length-drop (run_bytes a r) s)) p.1)

pub body_through : (a b c : Form) (rs : List Run) (s : List ℕ) → runs_bytes a rs ≤ length s → body_held a b rs s ≡ true → body_to b c rs (body_to a b rs s) ≡ body_to a c rs s
unfolding runs_bytes body_to body_floats
body_through a b c [] s h k = refl
body_through a b c (r ∷ rs) s h k =
    let u = drop (run_bytes a r) s in
    let v = body_to a b rs u in
    let p = both_pass (fits (format_of b)) (run_floats a r s) (body_floats a rs u) k in
    let i : r.copied ≤ length s = omega arith in
    ap₂ (λ (x y : List ℕ). x ++ y) (run_through a b r s v i p.0 c)
    (ap (body_to b c rs) (run_after_lem a b r s v i p.0) ∙ body_through a b c rs u (omega (arith, length-drop (run_bytes a r) s)) p.1)

-- ---- to the same form

run_same : (a : Form) (r : Run) (s : List ℕ) → run_bytes a r ≤ length s → OfBytes s → all_pass is_number (run_floats a r s) ≡ true → run_to a a r s ≡ take (run_bytes a r) s
run_same a r s h b k =
    let u = drop r.copied s in
    ap (λ (x : List ℕ). take r.copied s ++ x) (floats_same a r.floats u (omega (arith, length-drop r.copied s)) (bytes_drop r.copied s b) k)
    ∙ sym (take-add r.copied (r.floats * float_bytes a) s)

pub body_same : (a : Form) (rs : List Run) (s : List ℕ) → runs_bytes a rs ≤ length s → OfBytes s → all_pass is_number (body_floats a rs s) ≡ true → body_to a a rs s ≡ s
unfolding runs_bytes body_to body_floats
body_same a [] s h b k = refl
body_same a (r ∷ rs) s h b k =
    let u = drop (run_bytes a r) s in
    let p = both_pass is_number (run_floats a r s) (body_floats a rs u) k in
    ap₂ (λ (x y : List ℕ). x ++ y) (run_same a r s (omega arith) b p.0) (body_same a rs u (omega (arith, length-drop (run_bytes a r) s)) (bytes_drop (run_bytes a r) s b) p.1)
    ∙ take-append-drop (run_bytes a r) s
