use Rattle.trace_text.proofs.RowsLaws.{is_row}
use Rattle.trace_text.proofs.rows.row.Goals as goal

pub returns : goal.returns
returns g c = rw (← is_row, ← c.new-l.ensures, ← c.push.ensures, ← c.print.ensures) c.push-2.ensures
