-- An ordered table, of which the first row that applies decides (01-scope.md, Transitions and
-- Journal).
use Rattle.std.specs.Prelude.{Bool, cond, List, [], ◌∷◌}

-- what the first of a list that applies does; `none`, where none applies
unfoldable pub first_that : {A B : Type 0} → (A → Bool) → (A → B) → B → List A → B
first_that applies does none [] = none
first_that applies does none (x ∷ xs) = cond (applies x) (does x) (first_that applies does none xs)

-- a row of a table of causes: what is answered where the cause is there
pub record Row (A C : Type 0) : Type 0 where
  pub answer : A
  pub cause : C

infix 70 refuse◌when◌
abbrev pub refuse◌when◌ : {A C : Type 0} → A → C → Row A C
refuse◌when◌ a c = record { answer = a; cause = c }
