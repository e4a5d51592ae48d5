-- The tables of both forms fit each other: a test that is computed for each kind, and what it says.
use Prim.Native.Nat.{ℕ, zero, suc, ◌+◌, ◌≤◌, ◌<◌}
use mathlib.Core.Path.{◌≡◌, refl, ap, ◌∙◌}
use mathlib.Core.Bool.{Bool, true, false, ◌&&◌}
use mathlib.Core.List.{[], ◌∷◌}
use native.Mathlib.Omega.{arith}
use lib.Dec.{eqb, leb, ltb}
use borrow.Author.Tests.{eqb-true, eqb-false, leb-true, ltb-true, ne_eqb}
use Rattle.journal_records.specs.Kinds.{settings_kind, value_kind, outcome_kind, width_kind}
use Rattle.journal_frames.specs.Frames.{is_known, body_len}
use Rattle.journal_forms.specs.declared.Form.{Form}
use Rattle.journal_forms.specs.declared.Form.TheVariants.{Wide, Narrow}
use Rattle.journal_forms.specs.Forms.{kinds_of, run, runs_of, record_most}
use Rattle.journal_forms.specs.Body.{runs_bytes}
use Rattle.journal_forms.proofs.Floats.{and_both}

-- a test at every number below n
up_to : ℕ → (ℕ → Bool) → Bool
up_to zero p = true
up_to (suc n) p = p n && up_to n p

each : (n : ℕ) (p : ℕ → Bool) → up_to n p ≡ true → (k : ℕ) → k < n → p k ≡ true
unfolding up_to
each zero p e k h = absurd (omega arith)
each (suc n) p e k h = by (eqb k n) refl (λ l. each n p (and_both (p n) (up_to n p) e).1 k l)
  where
    by : (t : Bool) → eqb k n ≡ t → (k < n → p k ≡ true) → p k ≡ true
    by true q r = ap p (eqb-true k n q) ∙ (and_both (p n) (up_to n p) e).0
    by false q r = r (omega (arith, eqb-false k n q))

-- the runs of a body of form a are in it; in form b it is as much longer as they are; and a record
-- is not longer than the longest
kind_fits : Form → Form → ℕ → Bool
kind_fits a b k =
    let rs = runs_of k in
    leb (runs_bytes a rs) (body_len (kinds_of a) k)
    && (eqb (body_len (kinds_of b) k + runs_bytes a rs) (body_len (kinds_of a) k + runs_bytes b rs)
    && ltb (body_len (kinds_of b) k) record_most)

all_fit : (a b : Form) → up_to 9 (kind_fits a b) ≡ true
unfolding up_to kind_fits runs_of runs_bytes body_len
all_fit Wide Wide = refl
all_fit Wide Narrow = refl
all_fit Narrow Wide = refl
all_fit Narrow Narrow = refl

pub record KindFits (a b : Form) (k : ℕ) : Type 0 where
  pub inside : runs_bytes a (runs_of k) ≤ body_len (kinds_of a) k
  pub lengths : body_len (kinds_of b) k + runs_bytes a (runs_of k) ≡ body_len (kinds_of a) k + runs_bytes b (runs_of k)
  pub short : body_len (kinds_of b) k < record_most

-- both tables have as many kinds
pub same_known : (a b : Form) (k : ℕ) → is_known (kinds_of a) k ≡ is_known (kinds_of b) k
unfolding is_known
same_known Wide Wide k = refl
same_known Wide Narrow k = refl
same_known Narrow Wide k = refl
same_known Narrow Narrow k = refl

known_under : (a : Form) (k : ℕ) → is_known (kinds_of a) k ≡ true → k < 9
unfolding is_known
known_under Wide k e = omega (arith, leb-true k 8 (and_both (ltb 0 k) (leb k 8) e).1)
known_under Narrow k e = omega (arith, leb-true k 8 (and_both (ltb 0 k) (leb k 8) e).1)

pub known_fits : (a b : Form) (k : ℕ) → is_known (kinds_of a) k ≡ true → KindFits a b k
unfolding kind_fits
known_fits a b k e =
    let t = each 9 (kind_fits a b) (all_fit a b) k (known_under a k e) in
    let p = and_both (leb (runs_bytes a (runs_of k)) (body_len (kinds_of a) k)) _ t in
    let q = and_both (eqb (body_len (kinds_of b) k + runs_bytes a (runs_of k)) (body_len (kinds_of a) k + runs_bytes b (runs_of k))) _ p.1 in
    record { inside = leb-true _ _ p.0; lengths = eqb-true _ _ q.0; short = ltb-true _ _ q.1 }

-- the kinds without floats
pub record NoFloats (k : ℕ) : Type 0 where
  pub settings : k ≡ settings_kind → ⊥
  pub value : k ≡ value_kind → ⊥
  pub outcome : k ≡ outcome_kind → ⊥
  pub width : k ≡ width_kind → ⊥

pub no_floats : (k : ℕ) → NoFloats k → (run 0 0 ∷ run 0 0 ∷ []) ≡ runs_of k
unfolding runs_of
no_floats k n = simp (ne_eqb k settings_kind n.settings, ne_eqb k value_kind n.value, ne_eqb k outcome_kind n.outcome, ne_eqb k width_kind n.width)
