use mathlib.Core.Path.{refl}
use Rattle.text.specs.Line.{push_of}
use Rattle.report.proofs.Laws.{fields_more}
use Rattle.report.proofs.push_fields.Goals as goal

pub loop-x-init : goal.loop-x-init
unfolding push_of
loop-x-init c = refl

pub loop-x-preserved : goal.loop-x-preserved
loop-x-preserved c = rw (← fields_more c.args.l.now c.args.numbers.now c.loop-x.x-index c.loop-x-test.true, ← c.loop-x.invariant) c.push_field.ensures
