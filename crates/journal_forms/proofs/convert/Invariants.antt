use Prim.Native.Nat.{◌+◌, ◌-◌}
use mathlib.Core.Bool.{cond}
use lib.ListN.{length}
use Rattle.journal_forms.proofs.Turning.{Since}
use Rattle.journal_forms.proofs.convert.Given as goal

abbrev pub invariant-loop-more : goal.invariant-loop-more
invariant-loop-more l = Since l.from l.s l.initial.out l.done l.out l.more

abbrev pub decreases-loop-more : goal.decreases-loop-more
decreases-loop-more l = length l.s - l.done.at + cond l.more 1 0
