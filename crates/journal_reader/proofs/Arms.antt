-- An arm of a `match` that several cases of an enum share: what a function gives there.
use Prim.Native.Nat.{ℕ}
use mathlib.Core.Path.{◌≡◌, ap, ◌∙◌}
use mathlib.Core.Logic.{inl, inr}
use mathlib.Core.List.{List, [], ◌∷◌}
use denote.Enum.Declared.{Record, declared, tag_of}
use borrow.Enum.Known.{ValuesAt, at, lives_at}
use types.Run.{OneOf}

module _ (N : Record) {X : Type 0} (f : N.D → X) (y : X) where
  -- f gives y at the cases with these numbers, whatever they hold
  abbrev pub GivesAt : List ℕ → Type 0
  GivesAt [] = Unit {0}
  GivesAt (k ∷ ks) = ((v : ValuesAt N.parts k) → f (at N k v) ≡ y) × GivesAt ks

  module _ (x : N.D) where
    -- f gives y at x, where x is of one of the cases that C says
    pub record Gives (C : Type 0) : Type 0 where
      pub gives : C → f x ≡ y

    one : (k : ℕ) → ((v : ValuesAt N.parts k) → f (at N k v) ≡ y) → tag_of (declared N) x ≡ k → f x ≡ y
    one k h e = let l = lives_at N x k e in ap f l.1 ∙ h l.0

    by_keys : (ks : List ℕ) → GivesAt ks → OneOf ks (tag_of (declared N) x) → f x ≡ y
    by_keys [] h k = absurd k
    by_keys (j ∷ []) h k = one j h.0 k
    by_keys (j ∷ i ∷ ks) h (inl k) = one j h.0 k
    by_keys (j ∷ i ∷ ks) h (inr k) = by_keys (i ∷ ks) h.1 k

    -- so it does where C is what the arm of these cases is told
    pub keyed : (ks : List ℕ) → GivesAt ks → Gives (OneOf ks (tag_of (declared N) x))
    keyed ks h = record { gives = by_keys ks h }

    -- in an arm: `search (keyed N f y x)` takes the numbers from what the arm is told
    pub in_arm : {C : Type 0} → C → Gives C → f x ≡ y
    in_arm c g = g.gives c
