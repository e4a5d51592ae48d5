-- Laws of `row_to`: how a loop makes it place by place, and what is at each place of it.
use Rattle.std.proofs.Common.{◌≡◌, ℕ, zero, suc, ◌+◌, ◌<◌, ◌≤◌, min, List, length, get_or, set, refl, sym, ap, subst, ◌∙◌, arith, length-set, get_or-set_other, get_or-set_same}
use native.Mathlib.Decide.{ℕ_discrete}
use lib.Ieee.{Float}
use Rattle.lictor_core.specs.Rows.{row_to, RowBy}

-- A loop that goes over all places and gives those below n: `g` is the row before a round, `r`
-- after it.
pub by_start : (P : ℕ → Float → Type 0) (h : List Float) (n : ℕ) → RowBy P h (min 0 n) h
by_start P h n = let a : 0 ≡ min 0 n = omega arith in subst (λ k. RowBy P h k h) a refl

pub by_took : (P : ℕ → Float → Type 0) (h g : List Float) {r : List Float} {n k : ℕ} {v : Float} → RowBy P h (min k n) g → k < n → P k v → r ≡ set g k v → RowBy P h (min (k + 1) n) r
by_took P h g {r} {n} {k} {v} p l q e =
    let a : min k n ≡ k = omega arith in
    let b : suc k ≡ min (k + 1) n = omega arith in
    subst (λ j. RowBy P h j r) b (g, v, subst (λ j. RowBy P h j g) a p, q, e)

pub by_left : (P : ℕ → Float → Type 0) (h g : List Float) {r : List Float} {n k : ℕ} → RowBy P h (min k n) g → n ≤ k → r ≡ g → RowBy P h (min (k + 1) n) r
by_left P h g {r} {n} {k} p l e = let a : min k n ≡ min (k + 1) n = omega arith in subst (λ j. RowBy P h j r) a (subst (λ x. RowBy P h (min k n) x) (sym e) p)

pub by_done : (P : ℕ → Float → Type 0) (h g : List Float) {n k : ℕ} → RowBy P h (min k n) g → n ≤ k → RowBy P h n g
by_done P h g {n} {k} p l = let a : min k n ≡ n = omega arith in subst (λ j. RowBy P h j g) a p

-- a row by a function that gives f i at each place i
pub row_is : (f : ℕ → Float) (P : ℕ → Float → Type 0) (h r : List Float) (n : ℕ) → RowBy P h n r → ((i : ℕ) (y : Float) → i < n → P i y → y ≡ f i) → r ≡ row_to f h n
unfolding row_to
row_is f P h r zero e same = e
row_is f P h r (suc k) (g, y, b, q, e) same =
    e ∙ ap (λ x. set x k y) (row_is f P h g k b (λ i v l. same i v (omega arith))) ∙ ap (set (row_to f h k) k) (same k y (omega arith) q)

pub row_length : (f : ℕ → Float) (h : List Float) (n : ℕ) → length (row_to f h n) ≡ length h
unfolding row_to
row_length f h zero = refl
row_length f h (suc k) = simp length-set (row_length f h k)

at_last : (f : ℕ → Float) (h : List Float) (k i : ℕ) (d : Float) → i < suc k → suc k ≤ length h → (i < k → get_or (row_to f h k) i d ≡ f i) → Dec (i ≡ k)
    → get_or (set (row_to f h k) k (f k)) i d ≡ f i
at_last f h k i d l m ih (yes e) = rw e (get_or-set_same (row_to f h k) k (f k) d (rw (row_length f h k) m))
at_last f h k i d l m ih (no e) = get_or-set_other (row_to f h k) k i (f k) d e ∙ ih (omega arith)

-- within the first n places
pub row_in : (f : ℕ → Float) (h : List Float) (n i : ℕ) (d : Float) → i < n → n ≤ length h → get_or (row_to f h n) i d ≡ f i
unfolding row_to
row_in f h zero i d l m = absurd (omega arith)
row_in f h (suc k) i d l m = at_last f h k i d l m (λ q. row_in f h k i d q (omega arith)) (ℕ_discrete i k)

-- from place n on
pub row_out : (f : ℕ → Float) (h : List Float) (n i : ℕ) (d : Float) → n ≤ i → get_or (row_to f h n) i d ≡ get_or h i d
unfolding row_to
row_out f h zero i d l = refl
row_out f h (suc k) i d l = get_or-set_other (row_to f h k) k i (f k) d (λ e. omega arith) ∙ row_out f h k i d (omega arith)
