use mathlib.Core.Path.{refl, sym, ◌∙◌}
use Rattle.journal_forms.specs.Body.{floats_in, all_pass}
use Rattle.journal_forms.proofs.Held.{held_more, held_fails}
use Rattle.journal_forms.proofs.body.floats_held.Goals as goal

pub loop-i-init : goal.loop-i-init
unfolding floats_in all_pass
loop-i-init c = refl

pub returns-then-not-float_held : goal.returns-then-not-float_held
returns-then-not-float_held c =
    held_fails c.args.from c.args.s.now c.args.at c.args.count c.loop-i.i _ c.float_bytes-width.ensures c.loop-i-test.true (sym c.float_held.ensures ∙ c.if-not-float_held.true)

pub loop-i-preserved : goal.loop-i-preserved
loop-i-preserved c =
    held_more c.args.from c.args.s.now c.args.at c.args.count c.loop-i.i _ c.float_bytes-width.ensures c.loop-i.invariant (sym c.float_held.ensures ∙ c.if-not-float_held.false)
