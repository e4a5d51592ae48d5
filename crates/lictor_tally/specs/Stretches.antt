-- The laws of joining, over the tallies that ticks can give from an empty one (request 3).
-- Proved in proofs/Stretches, `join_told`.
use Rattle.std.specs.Prelude.{◌≡◌, List, ◌++◌, ℕ, ◌-◌, ◌^◌}
use Rattle.lictor_core.specs.Initial.{empty_tally}
use Rattle.lictor_core.specs.declared.tally.Tally.{Tally}
use Rattle.lictor_tally.specs.History.{Item, tally_of}
use Rattle.lictor_tally.specs.Join.{sum_of, join_of}

-- ticks can give t from an empty tally: it is that of a list of ticks, of whatever length, also of
-- none (any items, also such as no tick gives: the laws hold of more than is asked)
pub record FromTicks (t : Tally) : Type 0 where
  pub history : List Item
  pub is : t ≡ tally_of history

-- ---- the claim

pub record JoinTold : Type 0 where
  -- a list of ticks cut anywhere, at either end too: its tally is that of the two parts joined
  pub cut : (g h : List Item) → tally_of (g ++ h) ≡ join_of (tally_of g) (tally_of h)
  -- what is joined can be joined again, and it does not matter which two come first
  pub again : (a b : Tally) → FromTicks a → FromTicks b → FromTicks (join_of a b)
  pub assoc : (a b c : Tally) → FromTicks a → FromTicks b → FromTicks c → join_of (join_of a b) c ≡ join_of a (join_of b c)
  -- the empty tally changes nothing, on the left or on the right
  pub left : (t : Tally) → FromTicks t → join_of empty_tally t ≡ t
  pub right : (t : Tally) → FromTicks t → join_of t empty_tally ≡ t
  -- a count at its ceiling joins to its ceiling
  pub full_earlier : (n : ℕ) → sum_of (2 ^ 32 - 1) n ≡ 2 ^ 32 - 1
  pub full_later : (n : ℕ) → sum_of n (2 ^ 32 - 1) ≡ 2 ^ 32 - 1
