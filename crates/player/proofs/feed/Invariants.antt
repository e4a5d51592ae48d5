use Prim.Native.Nat.{◌+◌, ◌-◌}
use mathlib.Core.Bool.{cond}
use lib.ListN.{length}
use Rattle.player.proofs.Feeding.{Since}
use Rattle.player.proofs.feed.Given as goal

abbrev pub invariant-loop-lists : goal.invariant-loop-lists
invariant-loop-lists g l = Since l.kinds g.P.Printer.shows l.initial.played l.initial.lists l.s l.initial.out l.played l.lists l.out

abbrev pub decreases-loop-lists : goal.decreases-loop-lists
decreases-loop-lists g l = length l.s - l.played.at + cond l.played.more 1 0
