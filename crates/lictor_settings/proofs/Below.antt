-- A test at each index below the length of two lists, and the same test at each pair of their `zip`.
use Rattle.std.proofs.Common.{◌≡◌, Bool, ◌||◌, ℕ, zero, suc, List, [], ◌∷◌, length, get_or, refl, sym, ap, ◌∙◌, arith}
use Rattle.std.proofs.Math.Bool.{or-false, or_assoc}
use Rattle.std.specs.List.{list_any, zip}
use Rattle.lictor_settings.specs.Settings.{any_below}

-- the first index apart
from_first : (n : ℕ) (p : ℕ → Bool) → any_below (suc n) p ≡ (p 0 || any_below n (λ i. p (suc i)))
unfolding any_below
from_first zero p = sym (or-false (p 0))
from_first (suc n) p = rw (from_first n p) (or_assoc (p 0) _ _)

pub any_below_is : {A B : Type 0} (test : A → B → Bool) (n : ℕ) (xs : List A) (ys : List B) (d : A) (e : B) → length xs ≡ n → length ys ≡ n
    → list_any (λ (p : A × B). test p.0 p.1) (zip xs ys) ≡ any_below n (λ i. test (get_or xs i d) (get_or ys i e))
unfolding any_below
any_below_is test zero [] ys d e k l = refl
any_below_is test zero (x ∷ xs) ys d e k l = absurd (omega arith)
any_below_is test (suc n) [] ys d e k l = absurd (omega arith)
any_below_is test (suc n) (x ∷ xs) [] d e k l = absurd (omega arith)
any_below_is test (suc n) (x ∷ xs) (y ∷ ys) d e k l =
    ap (λ b. test x y || b) (any_below_is test n xs ys d e (omega arith) (omega arith)) ∙ sym (from_first n (λ i. test (get_or (x ∷ xs) i d) (get_or (y ∷ ys) i e)))
