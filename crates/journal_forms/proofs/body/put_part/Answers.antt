use native.Mathlib.Omega.{arith}
use Rattle.journal_forms.proofs.Putting.{none_put}
use Rattle.journal_forms.proofs.body.put_part.Goals as goal

pub returns-then-is_empty : goal.returns-then-is_empty
returns-then-is_empty c = none_put c.args.out.now c.args.n c.args.part.now (grind arith)
