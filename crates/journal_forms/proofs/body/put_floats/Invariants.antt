use Rattle.journal_forms.specs.Forms.{other}
use Rattle.journal_forms.proofs.Putting.{Floats}
use Rattle.journal_forms.proofs.body.put_floats.Given as goal

abbrev pub invariant-loop-i : goal.invariant-loop-i
invariant-loop-i l = Floats l.from (other l.from) l.s l.at l.count l.initial.out l.n l.out l.end l.i
