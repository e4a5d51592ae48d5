-- `roots::answer_line` meets its contract. Assumes nothing.
use mathlib.Core.Path.{refl, sym, ◌∙◌}
use native.Mathlib.Omega.{arith}
use Rattle.text.proofs.Puts.{put_there}
use Rattle.roots.specs.Text.{answer_to, is_bad}
use Rattle.roots.proofs.answer_line.Goals as goal

pub returns-in-Some : goal.returns-in-Some
unfolding answer_to is_bad
returns-in-Some c = rw (sym c.read_line.ensures ∙ c.in-Some.is) (c.put_root.ensures, refl)

pub returns-in-None : goal.returns-in-None
unfolding answer_to is_bad
returns-in-None c = rw (sym c.read_line.ensures ∙ c.in-None.is) (put_there _ _ _ (omega arith) _ _ c.put.ensures, refl)
