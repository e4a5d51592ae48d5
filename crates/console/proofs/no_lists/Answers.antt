use mathlib.Core.Path.{refl}
use lib.Ieee.{of_bits}
use Rattle.lictor_core.specs.Initial.{zeros}
use Rattle.console.proofs.no_lists.Goals as goal

pub returns : goal.returns
unfolding zeros of_bits
returns c = refl
