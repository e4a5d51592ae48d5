use Prim.Native.Nat.{◌≤◌}
use mathlib.Core.Path.{◌≡◌}
use lib.ListN.{length, take}
use Rattle.proximity_text.specs.Near.{inside_up_to}
use Rattle.proximity_text.proofs.inside_of.Given as goal

abbrev pub invariant-loop-c : goal.invariant-loop-c
invariant-loop-c l = (l.c ≤ 8) × (length l.inside ≡ 8) × (take l.c l.inside ≡ inside_up_to l.lo l.hi l.pos l.c)
