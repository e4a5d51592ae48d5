-- Words about lists, and a machine that is called again and again. Nothing here knows of the fuse.
-- The claims of 00-demands.md, Demand 3, are written with these words.
use Rattle.std.specs.Prelude.{List, [], ◌∷◌, ℕ, zero, suc, ◌+◌}

-- ---- what is said of a list

module _ {A : Type 0} where
  -- of each element, and of those after it: of every way to cut the list in two at an element
  -- (proofs/Runs, each-at and each-cut)
  abbrev pub Each : (A → List A → Type 0) → List A → Type 0
  Each P [] = Unit {0}
  Each P (x ∷ l) = P x l × Each P l

  -- of each element
  abbrev pub All : (A → Type 0) → List A → Type 0
  All P l = Each (λ x after. P x) l

  -- of one element at least
  pub data Any (P : A → Type 0) : List A → Type 0 where
    here : {x : A} {l : List A} → P x → Any P (x ∷ l)
    later : {x : A} {l : List A} → Any P l → Any P (x ∷ l)

  -- of one element at least, and of those after it
  pub data Where (P : A → List A → Type 0) : List A → Type 0 where
    at : {x : A} {l : List A} → P x l → Where P (x ∷ l)
    past : {x : A} {l : List A} → Where P l → Where P (x ∷ l)

  -- of the n-th element, counted from 1, and of none before it
  abbrev pub First : (A → Type 0) → ℕ → List A → Type 0
  First P n [] = ⊥
  First P zero (x ∷ l) = ⊥
  First P (suc zero) (x ∷ l) = P x
  First P (suc (suc n)) (x ∷ l) = (¬ P x) × First P (suc n) l

  -- n elements by their number, from i on
  abbrev pub series : (ℕ → A) → ℕ → ℕ → List A
  series f i zero = []
  series f i (suc n) = f i ∷ series f (suc i) n

  -- the sum of a number of each element
  abbrev pub total : (A → ℕ) → List A → ℕ
  total f [] = 0
  total f (x ∷ l) = f x + total f l

-- ---- a machine: each call leaves a state, and either passes in silence or gives an event

pub data Step (R A : Type 0) : Type 0 where
  silent : R → Step R A
  event : A → R → Step R A

module _ {R A : Type 0} where
  -- the event of a step, if it gives one, and those after it, from the state that it leaves
  abbrev pub and_then : Step R A → (R → List A) → List A
  and_then (silent r) rest = rest r
  and_then (event x r) rest = x ∷ rest r

module _ {R A K : Type 0} (step : R → K → Step R A) where
  -- the events of a list of calls, each call on the state that the one before left
  abbrev pub course : R → List K → List A
  course r [] = []
  course r (k ∷ ks) = and_then (step r k) (λ (r' : R). course r' ks)
