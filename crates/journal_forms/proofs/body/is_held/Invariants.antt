use Rattle.journal_forms.proofs.Held.{Left}
use Rattle.journal_forms.proofs.body.is_held.Given as goal

abbrev pub invariant-loop-run : goal.invariant-loop-run
invariant-loop-run l = Left l.from l.runs l.body l.run-index l.at
