use Rattle.std.proofs.Common.{sym, ◌∙◌}
use Rattle.text.specs.Number.{float_text}
use Rattle.text.proofs.Line.push_float.Goals as goal

pub returns-then-is_nan : goal.returns-then-is_nan
unfolding float_text
returns-then-is_nan c = rw (sym c.is_nan.ensures.value ∙ c.if-is_nan.true) c.push.ensures

pub returns-else-is_nan : goal.returns-else-is_nan
unfolding float_text
returns-else-is_nan c = rw (sym c.is_nan.ensures.value ∙ c.if-is_nan.false) c.push_hex.ensures
