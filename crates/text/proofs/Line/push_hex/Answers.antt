use Rattle.std.proofs.Common.{ap, ◌∙◌}
use Rattle.text.specs.Line.{push_of}
use Rattle.text.proofs.Digits.{hex_is}
use Rattle.text.proofs.Line.push_hex.Goals as goal

pub returns : goal.returns
returns c = c.push.ensures ∙ ap (push_of c.args.self.now) (c.hex-k.ensures.digits ∙ hex_is _ _ c.ranges.b.fits c.hex-k.ensures.len)
