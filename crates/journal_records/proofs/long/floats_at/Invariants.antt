use Rattle.journal_records.proofs.Filled.{Filled}
use Rattle.journal_records.proofs.long.floats_at.Given as goal

abbrev pub invariant-loop-i : goal.invariant-loop-i
invariant-loop-i g l = Filled l.body l.at g.row.N l.float-items l.i
