-- What the table says, row by row: a record is refused for r exactly where the first row that
-- applies answers r, and accepted exactly where none applies. (00-demands.md, Demand 1;
-- 01-scope.md, Journal, the table and its order.) Proved in proofs/Exactly.
use Rattle.std.specs.Prelude.{true, false, List, [], ◌∷◌, ◌≡◌, ℕ}
use Rattle.journal_refusals.specs.declared.Seen.{Seen}
use Rattle.journal_refusals.specs.declared.Refusal.{Refusal}
use Rattle.journal_refusals.specs.Table.{Row}

-- the cause of some row is there, those of the rows before it are not, and that row answers r
pub data Decides (seen : Seen) (k : ℕ) (b : List ℕ) : List Row → Refusal → Type 0 where
  this_row : {w : Row} {ws : List Row} → w.cause seen k b ≡ true → Decides seen k b (w ∷ ws) w.answer
  later_row : {w : Row} {ws : List Row} {r : Refusal} → w.cause seen k b ≡ false → Decides seen k b ws r → Decides seen k b (w ∷ ws) r

-- no row's cause is there
pub data Passes (seen : Seen) (k : ℕ) (b : List ℕ) : List Row → Type 0 where
  no_row : Passes seen k b []
  not_this_row : {w : Row} {ws : List Row} → w.cause seen k b ≡ false → Passes seen k b ws → Passes seen k b (w ∷ ws)
