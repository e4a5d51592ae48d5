-- The largest score in a list, of the elements that have a property: what each maximum of a tally
-- is over a history (request 2). Proved in proofs/Most.
use Rattle.std.specs.Prelude.{◌≡◌, ◌⊎◌, Bool, true, false, cond, Float}
use mathlib.Core.List.{List, [], ◌∷◌, Memᴰ}
use Rattle.std.specs.Float.{inf}
use Rattle.std.specs.Float.Ieee.{lt}
use Rattle.fmath.specs.Rank.{Number}
use Rattle.fmath.specs.Float.{max_of}

module _ {A : Type 0} (p : A → Bool) (score : A → Float) where
  -- the larger, by `max_of`, of m and the score of each element with the property, in the list's
  -- order
  abbrev pub most_of : Float → List A → Float
  most_of m [] = m
  most_of m (x ∷ h) = most_of (cond (p x) (max_of m (score x)) m) h

  -- r is the score of an element with the property
  pub record ScoreOf (h : List A) (r : Float) : Type 0 where
    pub element : A
    pub within : Memᴰ element h
    pub has : p element ≡ true
    pub is : r ≡ score element

  -- r is the largest score that is no NaN, or minus infinity where there is none
  pub record Largest (h : List A) (r : Float) : Type 0 where
    pub number : Number r
    pub one : (r ≡ inf true) ⊎ ScoreOf h r
    pub greatest : (x : A) → Memᴰ x h → p x ≡ true → lt r (score x) ≡ false
