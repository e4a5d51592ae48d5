use Rattle.text.proofs.Columns.{blanks_first}
use Rattle.page_text.proofs.push_blanks.Goals as goal

pub returns : goal.returns
returns c = rw (← blanks_first c.args.k 64 c.requires) c.push.ensures
