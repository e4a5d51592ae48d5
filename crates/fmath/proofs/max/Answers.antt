-- `fmath::max` meets its contract. Assumes nothing.
use mathlib.Core.Path.{sym, ◌∙◌}
use Rattle.std.proofs.lemmas.Float.{T_from_false}
use Rattle.floats.proofs.Nan.{the_nan}
use Rattle.fmath.proofs.Order.{max_nan, max_greater, max_not_greater}
use Rattle.fmath.proofs.max.Goals as goal

pub returns-then-is_nan : goal.returns-then-is_nan
returns-then-is_nan c = rw (the_nan _ (sym c.is_nan.ensures.value ∙ c.if-is_nan.true)) (sym (max_nan _))

pub returns-then-a-b : goal.returns-then-a-b
returns-then-a-b c = sym (max_greater _ _ c.if-a-b.true)

pub returns-else-a-b : goal.returns-else-a-b
returns-else-a-b c = sym (max_not_greater _ _ (T_from_false _ (sym c.is_nan.ensures.value ∙ c.if-is_nan.false)) c.if-a-b.false)
