use mathlib.Core.Path.{◌≡◌}
use mathlib.Core.Bool.{true}
use lib.ListN.{drop}
use Rattle.journal_forms.specs.Body.{floats_in, all_pass}
use Rattle.journal_forms.proofs.Held.{passes}
use Rattle.journal_forms.proofs.body.floats_held.Given as goal

abbrev pub invariant-loop-i : goal.invariant-loop-i
invariant-loop-i l = all_pass (passes l.from) (floats_in l.from l.i (drop l.at l.s)) ≡ true
