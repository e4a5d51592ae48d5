use Rattle.text.specs.Column.{left}
use Rattle.text.proofs.Lines.{push_append}
use Rattle.page_text.proofs.push_left.Goals as goal

pub returns : goal.returns
unfolding left
returns c = rw (push_append, ← c.saturating_sub.ensures, ← c.push.ensures) c.push_blanks.ensures
