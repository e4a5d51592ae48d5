-- `root::guess` meets its contract: the patterns are no NaN's. Assumes nothing.
use native.Mathlib.Omega.{arith}
use Rattle.root.proofs.Patterns.{no_nan_bits}
use Rattle.root.proofs.guess.Goals as goal

pub float_from_bits-number : goal.float_from_bits-number
float_from_bits-number c = no_nan_bits _ (omega arith)

pub float_from_bits-r0 : goal.float_from_bits-r0
float_from_bits-r0 c = no_nan_bits _ (omega arith)
