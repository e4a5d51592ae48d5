-- The hit window and the trip (01-scope.md, Modules 3 and One tick; window.rs, conformal.rs).
use Rattle.std.specs.Prelude.{Bool, cond, ℕ, ◌*◌, ◌%◌, ◌^◌}
use Rattle.std.specs.Int.Bits.{bit_and, bit_or}
use Rattle.std.specs.Int.Count.{ones}
use Rattle.std.specs.Float.Ieee.{lt}
use Rattle.lictor_core.specs.declared.fuse.Window.{Window}
use Rattle.lictor_core.specs.declared.envelope.Calibration.{Calibration}
use Rattle.lictor_core.specs.declared.scores.Scores.{Scores}

unfoldable pub hit_bit : Bool → ℕ
hit_bit hit = cond hit 1 0

-- Window::push: the register moves up by one place, its bit 63 drops, the hit comes in at bit 0;
-- then only bits of the mask stay
unfoldable pub push_hit : Window → Bool → ℕ → Window
push_hit w hit mask = record { bits = bit_and (bit_or (w.bits * 2 % 2 ^ 64) (hit_bit hit)) mask }

-- Window::hits: the number of ones
unfoldable pub hits_of : Window → ℕ
hits_of w = ones w.bits

-- hit (01-scope.md, One tick): the score is above tau, strictly
unfoldable pub trip_of : Calibration → Scores → Bool
trip_of cal sc = lt cal.tau sc.s
