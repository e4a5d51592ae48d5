use mathlib.Core.Path.{◌≡◌}
use Prim.Native.Nat.{◌^◌, ◌<◌}
use lib.ListN.{take, drop}
use Rattle.roots.specs.Text.{read_digits}
use Rattle.roots.proofs.read_line.Given as goal

abbrev pub invariant-loop-at : goal.invariant-loop-at
invariant-loop-at l = (l.pattern < 16 ^ l.at) × (read_digits 0 (take 16 l.line) ≡ read_digits l.pattern (drop l.at (take 16 l.line)))
