use mathlib.Core.Path.{◌∙◌}
use Rattle.text.proofs.Digits.{decimal_is}
use Rattle.page_text.proofs.push_number.Goals as goal

pub returns : goal.returns
returns c = rw (c.decimal-k.ensures.digits ∙ decimal_is _ _ c.ranges.x.fits c.decimal-k.ensures.len) at c.push_right.ensures
