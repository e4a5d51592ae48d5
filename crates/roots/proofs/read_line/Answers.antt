use mathlib.Core.Path.{sym, ◌∙◌}
use native.Mathlib.Omega.{arith}
use borrow.Author.Tests.{eq-eqb, ne_eqb}
use Rattle.roots.specs.Text.{pattern_of}
use Rattle.roots.proofs.Laws.{digits_on, digits_stop, digits_end, value_lt, value_small}
use Rattle.roots.proofs.read_line.Goals as goal

pub returns-then-line-ne-LINE_BYTES : goal.returns-then-line-ne-LINE_BYTES
unfolding pattern_of
returns-then-line-ne-LINE_BYTES c = simp (ne_eqb _ _ c.if-line-ne-LINE_BYTES.true)

pub returns-then-line-ne10 : goal.returns-then-line-ne10
unfolding pattern_of
returns-then-line-ne10 c = simp (eq-eqb _ _ c.if-line-ne-LINE_BYTES.false, ne_eqb _ _ c.if-line-ne10.true)

pub returns-in_err-d : goal.returns-in_err-d
unfolding pattern_of
returns-in_err-d c =
    c.from_residual.ensures
    ∙ simp (eq-eqb _ _ c.if-line-ne-LINE_BYTES.false, eq-eqb _ _ c.if-line-ne10.false, c.loop-at.invariant.1, digits_stop c.args.line.now c.loop-at.at c.loop-at.pattern c.if-line-ne-LINE_BYTES.false c.loop-at-test.true (sym c.digit.ensures.value ∙ c.in_err-d.was))

pub overflow_mul-pattern : goal.overflow_mul-pattern
overflow_mul-pattern c = omega (arith, value_small _ _ c.loop-at.invariant.0 c.loop-at-test.true)

pub overflow_add-pattern : goal.overflow_add-pattern
overflow_add-pattern c = omega (arith, value_small _ _ c.loop-at.invariant.0 c.loop-at-test.true, c.in_ok-d.ensures.small)

pub loop-at-preserved : goal.loop-at-preserved
loop-at-preserved c = (
  value_lt c.loop-at.pattern c.in_ok-d.d c.loop-at.at c.loop-at.invariant.0 c.in_ok-d.ensures.small,
  c.loop-at.invariant.1 ∙ digits_on c.args.line.now c.loop-at.at c.loop-at.pattern c.in_ok-d.d c.if-line-ne-LINE_BYTES.false c.loop-at-test.true (sym c.digit.ensures.value ∙ c.in_ok-d.was),
)

pub returns : goal.returns
unfolding pattern_of
returns c = simp (eq-eqb _ _ c.if-line-ne-LINE_BYTES.false, eq-eqb _ _ c.if-line-ne10.false, c.loop-at.invariant.1, digits_end c.args.line.now c.loop-at.at c.loop-at.pattern c.loop-at-test.false)
