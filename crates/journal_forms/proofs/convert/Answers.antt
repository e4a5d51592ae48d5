use Rattle.journal_forms.proofs.Turning.{since_first, since_more, since_less, converted_is}
use Rattle.journal_forms.proofs.convert.Goals as goal

pub loop-more-init : goal.loop-more-init
loop-more-init c = since_first _ _ _ _ c.goes_on-more.ensures

pub loop-more-smaller : goal.loop-more-smaller
loop-more-smaller c = let one = c in
    let tested = one in
    let looped = tested in
    let a = looped.args in
    rw tested.loop-more-test.true
    (since_less a.from a.s.now a.out.now looped.loop-more.done looped.loop-more.out (rw tested.loop-more-test.true at tested.loop-more.invariant) _ _ one.convert_one-done.auto.out one.convert_one-done.ensures _ c.goes_on-more-in-loop-more.ensures)

pub loop-more-preserved : goal.loop-more-preserved
loop-more-preserved c = let one = c in
    let tested = one in
    let looped = tested in
    let a = looped.args in
    since_more a.from a.s.now a.out.now looped.loop-more.done looped.loop-more.out (rw tested.loop-more-test.true at tested.loop-more.invariant) _ _ one.convert_one-done.auto.out one.convert_one-done.ensures _ c.goes_on-more-in-loop-more.ensures

pub returns : goal.returns
returns c = converted_is _ _ _ _ _ _ c.loop-more-test.false c.loop-more.invariant
