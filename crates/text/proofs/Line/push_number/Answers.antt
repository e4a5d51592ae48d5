use Rattle.std.proofs.Common.{ap, ◌∙◌}
use Rattle.text.specs.Line.{push_of}
use Rattle.text.proofs.Digits.{decimal_is}
use Rattle.text.proofs.Line.push_number.Goals as goal

pub returns : goal.returns
returns c = c.push.ensures ∙ ap (push_of c.args.self.now) (c.decimal-k.ensures.digits ∙ decimal_is _ _ c.ranges.x.fits c.decimal-k.ensures.len)
