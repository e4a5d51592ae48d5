-- What counts do, for any width.
use Rattle.std.proofs.Common.{◌≡◌, ℕ, ◌+◌, ◌-◌, ◌^◌, ◌<◌, ◌≤◌, min, arith, pow_pos}
use Rattle.lictor_core.specs.Num.{sat_up}

-- what `saturating_add` of the library promises, at one more
pub saturates : (k x r : ℕ) → r ≡ min (x + 1) (2 ^ k - 1) → r ≡ sat_up k x
saturates k x r e = e

-- a count stays within its width
pub sat_fits : (k x : ℕ) → sat_up k x < 2 ^ k
sat_fits k x = omega (arith, pow_pos k)

-- below its end it goes up by one
pub sat_counts : (k x : ℕ) → x + 1 < 2 ^ k → sat_up k x ≡ x + 1
sat_counts k x h = omega arith

-- at its end it stays
pub sat_stops : (k x : ℕ) → 2 ^ k ≤ x + 1 → sat_up k x ≡ 2 ^ k - 1
sat_stops k x h = omega arith

-- it never falls
pub sat_rises : (k x : ℕ) → x < 2 ^ k → x ≤ sat_up k x
sat_rises k x h = omega arith
