use Rattle.text.specs.Column.{right}
use Rattle.text.proofs.Lines.{push_append}
use Rattle.page_text.proofs.push_right.Goals as goal

pub returns : goal.returns
unfolding right
returns c = rw (push_append, ← c.saturating_sub.ensures, ← c.push_blanks.ensures) c.push.ensures
