-- A `match` on a number whose arms have 0, 1, .. in this order: what its last arm is told.
use mathlib.Core.List.{[], ◌∷◌}
use Prim.Native.Nat.{ℕ, zero, suc, ◌≤◌}
use native.Mathlib.Omega.{arith}
use types.Run.{OneOf}

-- n is none of the numbers below m, as the arms leave it
abbrev pub Missed : ℕ → ℕ → Type 0
Missed zero n = Unit {0}
Missed (suc m) n = Missed m n × (OneOf (m ∷ []) n → ⊥)

pub missed : (m n : ℕ) → Missed m n → m ≤ n
missed zero n p = omega arith
missed (suc m) n p = let h = missed m n p.0 in omega (arith, h, p.1)
