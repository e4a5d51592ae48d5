use Prim.Native.Nat.{◌^◌, ◌≤◌, ◌<◌}
use Rattle.root.proofs.lowered.Given as goal

abbrev pub invariant-loop-r : goal.invariant-loop-r
invariant-loop-r l = (0 < l.r) × (l.r ≤ 2 ^ 53)

abbrev pub decreases-loop-r : goal.decreases-loop-r
decreases-loop-r l = l.r
