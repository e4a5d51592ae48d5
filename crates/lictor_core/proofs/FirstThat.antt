-- Laws of `first_that`: the first of a list decides where it applies, else the rest does.
use Rattle.std.proofs.Common.{◌≡◌, Bool, cond, List, ◌∷◌, refl}
use Rattle.lictor_core.specs.FirstThat.{first_that}

pub first_is : {A B : Type 0} (applies : A → Bool) (does : A → B) (none : B) (x : A) (xs : List A) (t : Bool) → applies x ≡ t
    → first_that applies does none (x ∷ xs) ≡ cond t (does x) (first_that applies does none xs)
unfolding first_that
first_is applies does none x xs t e = rw e refl
