use mathlib.Core.Path.{refl}
use lib.Ieee.{of_bits}
use Rattle.fmath.proofs.nan.Goals as goal

pub returns : goal.returns
unfolding of_bits
returns c = refl
