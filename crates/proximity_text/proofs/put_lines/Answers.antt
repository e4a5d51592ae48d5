use native.Mathlib.Omega.{arith}
use Rattle.proximity_text.proofs.Laws.{lined_none, lined_more, lined_all}
use Rattle.proximity_text.proofs.put_lines.Goals as goal

pub loop-c-init : goal.loop-c-init
loop-c-init c = lined_none _ _ _ _ _ _ _ _

pub put_said-at-requires : goal.put_said-at-requires
put_said-at-requires c = let turn = c.loop-c in
    omega (arith, turn.invariant.few, turn.invariant.long, c.min-dims.ensures)

pub loop-c-preserved : goal.loop-c-preserved
loop-c-preserved c = lined_more _ _ _ _ _ _ _ _ _ _ _ _ _ _ c.loop-c-test.true (omega (arith, c.requires)) c.put_said-at.auto.out
    (rw c.place_of.ensures at c.said_of-said.ensures) c.put_said-at.ensures c.loop-c.invariant

pub shape_of-out : goal.shape_of-out
shape_of-out c = c.loop-c.invariant.long

pub returns : goal.returns
returns c = rw c.min-dims.ensures at (lined_all _ _ _ _ _ _ _ _ _ _ _ c.loop-c-test.false c.loop-c.invariant)
