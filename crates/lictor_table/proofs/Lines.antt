-- A law of each line is a law of the table.
use mathlib.Core.Bool.{Bool, true, false, cond, not}
use mathlib.Core.List.{List, [], ◌∷◌}
use lib.Dec.{T}
use Rattle.lictor_core.specs.FirstThat.{first_that}
use Rattle.lictor_table.specs.declared.Turn.{Turn}
use Rattle.lictor_table.specs.Table.{Facts, TableLine, applies, does, first_of}

-- ---- a law of each line is a law of the table

module _ {A : Type 0} (P : A → Type 0) where
  -- the two ways out of a test
  pub by_test : (b : Bool) (s t : A) → (T b → P s) → (T (not b) → P t) → P (cond b s t)
  by_test true s t f g = f tt
  by_test false s t f g = g tt

-- the same for a law that speaks of the test itself
pub by_bool : {A : Type 0} (P : Bool → A → Type 0) (b : Bool) (s t : A) → P true s → P false t → P b (cond b s t)
by_bool P true s t f g = f
by_bool P false s t f g = g

infixr 40 ◌⨾◌
-- P of what each line of the list does, where it applies
pub data Lines (P : Turn → Type 0) (x : Facts) : List TableLine → Type 0 where
  done : Lines P x []
  ◌⨾◌ : {l : TableLine} {ls : List TableLine} → (T (applies l x) → P (does l x)) → Lines P x ls → Lines P x (l ∷ ls)

pub by_lines : (P : Turn → Type 0) (none : Turn) (x : Facts) (ls : List TableLine) → P none → Lines P x ls → P (first_of none ls x)
unfolding first_that
by_lines P none x [] p done = p
by_lines P none x (l ∷ ls) p (f ⨾ fs) = by_test P (applies l x) (does l x) (first_of none ls x) f (λ h. by_lines P none x ls p fs)
