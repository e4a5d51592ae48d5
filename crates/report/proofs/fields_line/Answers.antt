use Rattle.text.proofs.Lines.{push_line}
use Rattle.report.proofs.fields_line.Goals as goal

pub returns : goal.returns
returns c = simp (c.push-2.ensures, c.push_fields.ensures, c.push.ensures, c.new-l.ensures, push_line)
