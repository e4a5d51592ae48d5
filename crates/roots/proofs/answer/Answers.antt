-- `roots::answer` meets its contract: the lines passed are answered, and those left are still to
-- be. Assumes nothing.
use Prim.Native.Nat.{ℕ, min}
use mathlib.Core.Path.{sym, ap, ◌∙◌}
use lib.ListN.{length}
use Rattle.roots.proofs.Laws.{one_answered, bad_answered, all_answered, one_line}
use Rattle.roots.proofs.answer.Goals as goal

pub returns-then-done : goal.returns-then-done
returns-then-done c =
    let s = c.in-Some.ensures.steps.1 in
    let l = one_line _ _ _ s.0 (s.1 ∙ ap (λ (n : ℕ). min n (length c.loop-line.line-iterator.rest.now)) c.loop-line.invariant.0) in
    rw c.if-done.true
    (bad_answered c.args.s.now _ c.loop-line.out _ c.loop-line.n s.2 c.loop-line.invariant.1 _ l.0 _ _ c.answer_line-done.auto.out c.answer_line-done.ensures.0 (sym c.answer_line-done.ensures.1 ∙ c.if-done.true))

pub loop-line-preserved : goal.loop-line-preserved
loop-line-preserved c =
    let s = c.in-Some.ensures.steps.1 in
    let l = one_line _ _ _ s.0 (s.1 ∙ ap (λ (n : ℕ). min n (length c.loop-line.line-iterator.rest.now)) c.loop-line.invariant.0) in (
      c.in-Some.ensures.steps.0 ∙ c.loop-line.invariant.0,
      one_answered c.args.s.now _ c.loop-line.out _ c.loop-line.n s.2 c.loop-line.invariant.1 _ l.0 _ _ c.answer_line-done.auto.out c.answer_line-done.ensures.0 (sym c.answer_line-done.ensures.1 ∙ c.if-done.false) _ l.1,
    )

pub returns : goal.returns
returns c = all_answered _ _ _ _ _ c.in-None.ensures.steps.1.0 c.loop-line.invariant.1
