use mathlib.Core.Path.{ap}
use lib.Ieee.{fits}
use Rattle.journal_forms.specs.Forms.{other, format_of, float_bytes}
use Rattle.journal_forms.proofs.Putting.{floats_none, float_passes, floats_on}
use Rattle.journal_forms.proofs.body.put_floats.Goals as goal

pub loop-i-init : goal.loop-i-init
loop-i-init c = floats_none c.args.from (other c.args.from) c.args.s.now c.args.at c.args.count c.args.out.now c.args.n

pub pattern_at-requires : goal.pattern_at-requires
pattern_at-requires c = float_passes c.args.from (other c.args.from) c.args.s.now c.args.at c.args.count c.args.out.now c.args.n _ _ _ c.loop-i-test.true c.loop-i.invariant _ c.float_bytes-width.ensures (fits (format_of (other c.args.from))) c.requires.2

pub loop-i-preserved : goal.loop-i-preserved
loop-i-preserved c =
    floats_on c.args.from (other c.args.from) c.args.s.now c.args.at c.args.count c.args.out.now c.args.n _ _ _ c.loop-i-test.true c.loop-i.invariant _ c.float_bytes-width.ensures c.requires.1 _ _ (ap float_bytes c.other-to.ensures) c.pattern_at.ensures _ _ c.put_number-end.ensures c.put_number-end.auto.out
