use Rattle.trace_text.proofs.RowsLaws.{is_row}
use Rattle.trace_text.proofs.rows.list_row.Goals as goal

pub returns : goal.returns
returns g c = rw (← is_row, ← c.new-l.ensures, ← c.push.ensures, ← c.push_list.ensures) c.push-2.ensures
