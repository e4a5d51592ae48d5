use Prim.Native.Nat.{ℕ, ◌-◌, ◌≤◌}
use mathlib.Core.List.{List}
use lib.ListN.{length}
use lib.Ieee.{Float}
use Rattle.lictor_core.specs.declared.outcome.Outcome.{Outcome}
use Rattle.stream.specs.Stream.{Reached}
use Rattle.journal_reader.specs.declared.waiting.Waiting.{Waiting}
use Rattle.journal_reader.specs.Reading.{on_bytes}
use Rattle.journal_reader.specs.Steps.{state_with}
use Rattle.journal_reader.proofs.collect.Given as goal

-- what was taken so far, whatever outcome waits
pub record Kept (kinds : List ℕ) (w₀ : Waiting) (l₀ : List Float) (s : List ℕ) (from : ℕ) (w : Waiting) (l : List Float) (at : ℕ) : Type 0 where
  pub reached : (o : Outcome) → Reached (on_bytes kinds) (state_with w₀ o l₀) s from (state_with w o l) at
  pub within : at ≤ length s

abbrev pub invariant-records : goal.invariant-records
invariant-records l = Kept l.kinds l.fn.w l.fn.lists l.s l.fn.from l.waiting l.lists l.at

abbrev pub decreases-records : goal.decreases-records
decreases-records l = length l.s - l.at
