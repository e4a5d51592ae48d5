use Rattle.journal_forms.specs.Forms.{other}
use Rattle.journal_forms.proofs.Putting.{Runs}
use Rattle.journal_forms.proofs.body.put_body.Given as goal

abbrev pub invariant-loop-run : goal.invariant-loop-run
invariant-loop-run l = Runs l.from (other l.from) l.runs l.body l.initial.out l.n l.run-index l.at l.end l.out
