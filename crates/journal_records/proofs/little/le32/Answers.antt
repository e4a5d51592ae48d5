use mathlib.Core.Path.{◌∙◌}
use Rattle.journal_records.proofs.Laws.{le_at_read}
use Rattle.journal_records.proofs.little.le32.Goals as goal

pub returns : goal.returns
returns c = c.from_le_bytes.ensures ∙ le_at_read _ _ 3 _ c.bytes_at.ensures
