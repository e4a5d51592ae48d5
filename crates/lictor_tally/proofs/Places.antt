-- Lists whose elements each go by the rule of their place: what an element becomes, and how a loop
-- gets there, one place a turn.
use mathlib.Core.Path.{◌≡◌, refl, sym, subst, ap, ◌∙◌}
use mathlib.Core.Bool.{Bool, true, false, cond}
use mathlib.Core.List.{List, [], ◌∷◌}
use Prim.Native.Nat.{ℕ, zero, suc, ◌+◌, ◌≤◌, ◌<◌}
use native.Mathlib.Numerals.{add-one}
use native.Mathlib.Omega.{arith}
use lib.Dec.{ltb}
use lib.ListN.{length, get_or, set, get_or-eq_default}
use Rattle.std.proofs.lemmas.List.{ext_get_or}
use borrow.Author.Tests.{ltb-true, ltb-false}
use denote.Param.Members.{Mut, Called}
use Rattle.std.specs.Array.{IsFromFnResultFrom, IsFromFnResult}
use Rattle.lictor_tally.specs.Counts.{each_from}

module _ {X : Type 0} (f : ℕ → X → X) where
  pub length_each : (i : ℕ) (l : List X) → length (each_from i f l) ≡ length l
  unfolding each_from
  length_each i [] = refl
  length_each i (x ∷ l) = ap suc (length_each (i + 1) l)

  -- an element becomes what the rule of its place makes of it
  pub each_at : (i : ℕ) (l : List X) (k : ℕ) (d : X) → k < length l → get_or (each_from i f l) k d ≡ f (i + k) (get_or l k d)
  unfolding each_from
  each_at i [] k d h = absurd (omega arith)
  each_at i (x ∷ l) zero d h = let e : i + 0 ≡ i = omega arith in rw e
  each_at i (x ∷ l) (suc k) d h = let e : i + suc k ≡ i + 1 + k = omega arith in let g : k < length l = omega arith in rw e (each_at (i + 1) l k d g)

  -- of a list of n, whatever the place: past the end nothing moves
  pub each_within : (l : List X) (n k : ℕ) (d : X) → length l ≡ n → get_or (each_from 0 f l) k d ≡ cond (ltb k n) (f k (get_or l k d)) (get_or l k d)
  each_within l n k d e = by_place (ltb k n) refl where
    by_place : (q : Bool) → ltb k n ≡ q → get_or (each_from 0 f l) k d ≡ cond q (f k (get_or l k d)) (get_or l k d)
    by_place true h =
        let i : 0 + k ≡ k = omega arith in
        let g : k < length l = omega (arith, ltb-true) in
        rw i at (each_at 0 l k d g)
    by_place false h =
        let g : length l ≤ k = omega (arith, ltb-false) in
        let m : length (each_from 0 f l) ≤ k = omega (arith, length_each 0 l) in
        get_or-eq_default (each_from 0 f l) d m ∙ sym (get_or-eq_default l d g)

  -- the first k places by the rule, counted from i, the others as they were
  unfoldable pub each_to : ℕ → ℕ → List X → List X
  each_to i zero l = l
  each_to i (suc k) [] = []
  each_to i (suc k) (x ∷ l) = f i x ∷ each_to (i + 1) k l

  pub each_none : (l : List X) → l ≡ each_to 0 0 l
  unfolding each_to
  each_none l = refl

  pub each_next : (i k : ℕ) (l : List X) (d : X) → set (each_to i k l) k (f (i + k) (get_or (each_to i k l) k d)) ≡ each_to i (suc k) l
  unfolding each_to
  each_next i zero [] d = refl
  each_next i zero (x ∷ l) d = let e : i + 0 ≡ i = omega arith in rw e
  each_next i (suc k) [] d = refl
  each_next i (suc k) (x ∷ l) d = let e : i + suc k ≡ i + 1 + k = omega arith in rw (e, each_next (i + 1) k l d)

  pub each_whole : (i : ℕ) (l : List X) → each_to i (length l) l ≡ each_from i f l
  unfolding each_to each_from
  each_whole i [] = refl
  each_whole i (x ∷ l) = rw (each_whole (i + 1) l)

  -- the two as a loop uses them
  pub each_more : (l g : List X) (k : ℕ) (d v : X) → g ≡ each_to 0 k l → v ≡ f k (get_or g k d) → set g k v ≡ each_to 0 (k + 1) l
  each_more l g k d v p q = let e : 0 + k ≡ k = omega arith in rw (add-one, q, p) (rw e at (each_next 0 k l d))

  pub each_done : (l g : List X) (k : ℕ) → g ≡ each_to 0 k l → length l ≡ k → g ≡ each_from 0 f l
  each_done l g k p e = rw (p, ← e) (each_whole 0 l)

  -- a rule that changes nothing
  pub each_same : (i : ℕ) (l : List X) → ((k : ℕ) (x : X) → f k x ≡ x) → each_from i f l ≡ l
  unfolding each_from
  each_same i [] h = refl
  each_same i (x ∷ l) h = rw (h i x, each_same (i + 1) l h)

  -- one rule after another
  pub each_twice : (g : ℕ → X → X) (i : ℕ) (l : List X) → each_from i g (each_from i f l) ≡ each_from i (λ k x. g k (f k x)) l
  unfolding each_from
  each_twice g i [] = refl
  each_twice g i (x ∷ l) = rw (each_twice g (i + 1) l)

  -- two rules that agree on the elements of a list, counted from i and from 0
  each_agree : (g : ℕ → X → X) (i : ℕ) (l : List X) (d : X) → ((k : ℕ) → k < length l → f (i + k) (get_or l k d) ≡ g (i + k) (get_or l k d))
      → each_from i f l ≡ each_from i g l
  unfolding each_from
  each_agree g i [] d h = refl
  each_agree g i (x ∷ l) d h =
      let e : i + 0 ≡ i = omega arith in
      rw (rw e at (h 0 (omega arith)), each_agree g (i + 1) l d (λ k b. let q : i + suc k ≡ i + 1 + k = omega arith in rw q at (h (suc k) (omega arith))))

  pub each_alike : (g : ℕ → X → X) (l : List X) (d : X) → ((k : ℕ) → k < length l → f k (get_or l k d) ≡ g k (get_or l k d)) → each_from 0 f l ≡ each_from 0 g l
  each_alike g l d h = each_agree g 0 l d (λ k b. let e : 0 + k ≡ k = omega arith in rw e (h k b))

-- what calls at each place gave, of a closure that each call leaves as it was: the list whose
-- elements go by the rule of their place
module _ {F X : Type 0} (g : Mut F (ℕ × Unit {0}) X) (rule : ℕ → X → X) (old : List X) (d : X) (f : F) where
  abbrev At : Type 0
  At = (k : ℕ) (x : X) (q : F) → Called g f (k, tt) x q → (x ≡ rule k (get_or old k d)) × (q ≡ f)

  made_from : At → (l : List X) (i n : ℕ) (p : F) → p ≡ f → IsFromFnResultFrom g p l i n → (k : ℕ) → k < n → get_or l (i + k) d ≡ rule (i + k) (get_or old (i + k) d)
  made_from h l i zero p e m k b = absurd (omega arith)
  made_from h l i (suc n) p e m zero b =
      let z : i + 0 ≡ i = omega arith in
      rw z (m.2.1 d ∙ (h i m.1 m.0 (subst (λ (v : F). Called g v (i, tt) m.1 m.0) e m.3)).0)
  made_from h l i (suc n) p e m (suc k) b =
      let z : i + suc k ≡ i + 1 + k = omega arith in
      rw z (made_from h l (i + 1) n m.0 (h i m.1 m.0 (subst (λ (v : F). Called g v (i, tt) m.1 m.0) e m.3)).1 m.4 k (omega arith))

  pub each_made : At → (l : List X) (n : ℕ) → length old ≡ n → IsFromFnResult g f l n → l ≡ each_from 0 rule old
  each_made h l n e m =
      ext_get_or d l (each_from 0 rule old) (m.long ∙ sym e ∙ sym (length_each rule 0 old))
      (λ k b.
      let z : 0 + k ≡ k = omega arith in
      (rw z at (made_from h l 0 n f refl m.each k (omega (arith, m.long)))) ∙ sym (rw z at (each_at rule 0 old k d (omega (arith, m.long)))))
