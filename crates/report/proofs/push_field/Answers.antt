use Rattle.text.proofs.Lines.{push_append}
use Rattle.report.proofs.push_field.Goals as goal

pub returns : goal.returns
returns c = rw (push_append, ← c.push.ensures) c.push_number.ensures
