-- `most_of` from minus infinity is the largest score; a list may be cut anywhere, and the parts'
-- largest joined by `max_of`. Assumes nothing.
use mathlib.Core.Path.{◌≡◌, refl, sym, ap, ◌∙◌}
use mathlib.Core.Logic.{◌⊎◌, inl, inr}
use mathlib.Core.Bool.{Bool, true, false, cond}
use mathlib.Core.List.{List, [], ◌∷◌, ◌++◌, Memᴰ}
use lib.Ieee.{Float, inf, lt, is_nan}
use Rattle.fmath.specs.Rank.{Number}
use Rattle.fmath.specs.Float.{max_of}
use Rattle.fmath.specs.Most.{most_of, ScoreOf, Largest}
use Rattle.fmath.proofs.Rank.{lt_irreflexive, not_lt_transitive, lowest}
use Rattle.fmath.proofs.Order.{max_either, max_above_first, max_above_second, max_number_first, max_number_second, max_from_lowest, max_to_lowest, max_assoc}

pub lowest_number : Number (inf true)
unfolding is_nan
lowest_number = tt

module _ {A : Type 0} (p : A → Bool) (score : A → Float) where
  -- the largest so far, one element on
  abbrev next : Float → A → Float
  next m x = cond (p x) (max_of m (score x)) m

  next_number : (m : Float) (x : A) → Number m → Number (next m x)
  next_number m x n = go (p x)
    where
      go : (t : Bool) → Number (cond t (max_of m (score x)) m)
      go true = max_number_first m (score x) n
      go false = n

  next_above : (m : Float) (x : A) → lt (next m x) m ≡ false
  next_above m x = go (p x)
    where
      go : (t : Bool) → lt (cond t (max_of m (score x)) m) m ≡ false
      go true = max_above_first m (score x)
      go false = lt_irreflexive m

  next_above_score : (m : Float) (x : A) → p x ≡ true → lt (next m x) (score x) ≡ false
  next_above_score m x e = rw e (max_above_second m (score x))

  pub most_number : (m : Float) (h : List A) → Number m → Number (most_of p score m h)
  most_number m [] n = n
  most_number m (x ∷ h) n = most_number (next m x) h (next_number m x n)

  pub most_above_start : (m : Float) (h : List A) → Number m → lt (most_of p score m h) m ≡ false
  most_above_start m [] n = lt_irreflexive m
  most_above_start m (x ∷ h) n = not_lt_transitive (most_of p score (next m x) h) (next m x) m (next_number m x n) (most_above_start (next m x) h (next_number m x n)) (next_above m x)

  pub most_above : (m : Float) (h : List A) → Number m → (x : A) → Memᴰ x h → p x ≡ true → lt (most_of p score m h) (score x) ≡ false
  most_above m [] n x i e = elim i [ ]
  most_above m (y ∷ h) n x (Memᴰ.head q) e =
      rw q
      (not_lt_transitive (most_of p score (next m y) h) (next m y) (score y) (next_number m y n) (most_above_start (next m y) h (next_number m y n)) (next_above_score m y (rw q at e)))
  most_above m (y ∷ h) n x (Memᴰ.tail i) e = most_above (next m y) h (next_number m y n) x i e

  later : (y : A) (h : List A) (r : Float) → ScoreOf p score h r → ScoreOf p score (y ∷ h) r
  later y h r s = record { element = s.element; within = Memᴰ.tail s.within; has = s.has; is = s.is }

  next_one : (m : Float) (x : A) (h : List A) → (next m x ≡ m) ⊎ ScoreOf p score (x ∷ h) (next m x)
  next_one m x h = go (p x) refl
    where
      go : (t : Bool) → p x ≡ t → (next m x ≡ m) ⊎ ScoreOf p score (x ∷ h) (next m x)
      go false e = inl (rw e)
      go true e = elim (max_either m (score x)) [
        | inl q ↦ inl (rw e q)
        | inr q ↦ inr (record { element = x; within = Memᴰ.head refl; has = e; is = rw e q })
      ]

  pub most_one : (m : Float) (h : List A) → (most_of p score m h ≡ m) ⊎ ScoreOf p score h (most_of p score m h)
  most_one m [] = inl refl
  most_one m (x ∷ h) = go (most_one (next m x) h) (next_one m x h)
    where
      go : (most_of p score (next m x) h ≡ next m x) ⊎ ScoreOf p score h (most_of p score (next m x) h) → (next m x ≡ m) ⊎ ScoreOf p score (x ∷ h) (next m x)
          → (most_of p score (next m x) h ≡ m) ⊎ ScoreOf p score (x ∷ h) (most_of p score (next m x) h)
      go (inr s) b = inr (later x h (most_of p score (next m x) h) s)
      go (inl e) (inl d) = inl (e ∙ d)
      go (inl e) (inr s) = inr (record { element = s.element; within = s.within; has = s.has; is = e ∙ s.is })

  -- ---- from minus infinity
  pub most_largest : (h : List A) → Largest p score h (most_of p score (inf true) h)
  most_largest h = record {
    number = most_number (inf true) h lowest_number;
    one = most_one (inf true) h;
    greatest = most_above (inf true) h lowest_number;
  }

  -- two largest scores of one list are level: it is settled but for the sign of a zero
  pub largest_level : (h : List A) (r q : Float) → Largest p score h r → Largest p score h q → lt r q ≡ false
  largest_level h r q a b = go b.one
    where
      go : (q ≡ inf true) ⊎ ScoreOf p score h q → lt r q ≡ false
      go (inl e) = rw e (lowest r)
      go (inr s) = rw s.is (a.greatest s.element s.within s.has)

  -- ---- a list in two parts
  pub most_on : (m : Float) (g h : List A) → most_of p score m (g ++ h) ≡ most_of p score (most_of p score m g) h
  most_on m [] h = refl
  most_on m (x ∷ g) h = most_on (next m x) g h

  -- one element more at the front, and the rest from minus infinity
  first_of : (m : Float) (x : A) (r : Float) → Number m → Number r → max_of (next m x) r ≡ max_of m (max_of (next (inf true) x) r)
  first_of m x r n k = go (p x)
    where
      go : (t : Bool) → max_of (cond t (max_of m (score x)) m) r ≡ max_of m (max_of (cond t (max_of (inf true) (score x)) (inf true)) r)
      go false = rw (max_from_lowest r k)
      go true =
          let e : max_of (max_of (inf true) (score x)) r ≡ max_of (score x) r = max_assoc (inf true) (score x) r ∙ max_from_lowest (max_of (score x) r) (max_number_second (score x) r k) in
          max_assoc m (score x) r ∙ ap (max_of m) (sym e)

  pub most_from : (m : Float) (h : List A) → Number m → most_of p score m h ≡ max_of m (most_of p score (inf true) h)
  most_from m [] n = sym (max_to_lowest m n)
  most_from m (x ∷ h) n =
      most_from (next m x) h (next_number m x n)
      ∙ first_of m x (most_of p score (inf true) h) n (most_number (inf true) h lowest_number)
      ∙ ap (max_of m) (sym (most_from (next (inf true) x) h (next_number (inf true) x lowest_number)))

  pub most_cut : (g h : List A) → most_of p score (inf true) (g ++ h) ≡ max_of (most_of p score (inf true) g) (most_of p score (inf true) h)
  most_cut g h = most_on (inf true) g h ∙ most_from (most_of p score (inf true) g) h (most_number (inf true) g lowest_number)
