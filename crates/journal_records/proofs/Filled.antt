-- An array that is filled with floats from a body, one a turn, whatever its length.
use Prim.Native.Nat.{ℕ, ◌+◌, ◌*◌, ◌≤◌, ◌<◌}
use mathlib.Core.Path.{◌≡◌, refl, sym, ap₂, ◌∙◌}
use mathlib.Core.List.{List, [], ◌∷◌, ◌++◌}
use native.Mathlib.Omega.{arith}
use native.Mathlib.Numerals.{add-one}
use lib.ListN.{length, take, set, length-set}
use lib.Seq.{take-suc-set}
use lib.Ieee.{Float}
use Rattle.journal_records.specs.Little.{float_at, floats_at}
use Rattle.journal_records.proofs.Laws.{floats_more}

-- the first i of the n places hold the floats from at on
pub record Filled (b : List ℕ) (at n : ℕ) (out : List Float) (i : ℕ) : Type 0 where
  pub short : i ≤ n
  pub long : length out ≡ n
  pub front : take i out ≡ floats_at b at i

module _ (b : List ℕ) (at n : ℕ) where
  pub filled_none : (out : List Float) → length out ≡ n → Filled b at n out 0
  unfolding floats_at
  filled_none out l = record { short = omega arith; long = l; front = refl }

  pub filled_more : (out : List Float) (i : ℕ) (v : Float) → i < n → Filled b at n out i → v ≡ float_at b (at + i * 8) → Filled b at n (set out i v) (i + 1)
  filled_more out i v h f e = record {
    short = omega arith;
    long = length-set out i v ∙ f.long;
    front = rw add-one
        (take-suc-set out i v (omega (arith, f.long))
        ∙ ap₂ (λ (p : List Float) (x : Float). p ++ (x ∷ [])) f.front e
        ∙ sym (floats_more b at i));
  }
