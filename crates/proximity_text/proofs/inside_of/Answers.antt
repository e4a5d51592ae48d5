use mathlib.Core.Path.{refl}
use lib.ListN.{length-set}
use native.Mathlib.Omega.{arith}
use Rattle.proximity_text.specs.Near.{inside_up_to}
use Rattle.proximity_text.proofs.Laws.{inside_more, inside_all}
use borrow.Author.Rules.{rules}
use Rattle.proximity_text.proofs.inside_of.Goals as goal

pub loop-c-init : goal.loop-c-init
unfolding inside_up_to
loop-c-init c = (omega arith, refl, refl)

pub loop-c-preserved : goal.loop-c-preserved
loop-c-preserved c = let turn = c.loop-c in
    (search rules, simp length-set turn.invariant.1, inside_more _ _ _ turn.inside _ _ _ (omega arith) turn.invariant.2 (rw c.place_of.ensures at c.is_inside.ensures) refl)

pub returns : goal.returns
returns c = let turn = c.loop-c in inside_all _ _ _ _ _ turn.invariant.1 c.loop-c-test.false turn.invariant.0 turn.invariant.2
