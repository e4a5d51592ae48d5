use Prim.Native.Nat.{ℕ}
use mathlib.Core.Path.{◌≡◌, refl, sym, ap, ◌∙◌}
use mathlib.Core.List.{List, [], ◌∷◌, map}
use native.Mathlib.Omega.{arith}
use lib.ListN.{length}
use lib.Seq.{take_all}
use Rattle.text.specs.declared.Line.{Line}
use Rattle.text.specs.Line.{push_of}
use Rattle.text.specs.Commas.{commas, after_commas}
use Rattle.text.proofs.Lines.{push_append}
use Rattle.text.proofs.Lists.{listed_more}
use Rattle.text.proofs.Line.push_list.Goals as goal

none : {A : Type 0} (f : A → List ℕ) (l : Line) (xs : List A) → length xs ≡ 0 → l ≡ push_of l (commas (map f xs))
unfolding push_of commas
none f l [] h = refl
none f l (x ∷ xs) h = absurd (omega arith)

all : {A : Type 0} (f : A → List ℕ) (l₀ : Line) (x : A) (others : List A) → push_of (push_of l₀ (f x)) (after_commas (map f others)) ≡ push_of l₀ (commas (map f (x ∷ others)))
unfolding commas
all f l₀ x others = sym (push_append l₀ (f x) (after_commas (map f others)))

pub loop-x-init : goal.loop-x-init
unfolding push_of after_commas
loop-x-init g c = refl

pub loop-x-preserved : goal.loop-x-preserved
loop-x-preserved g c = listed_more g.T.Printed.text _ _ _ _ _ _ c.x-item.result c.loop-x-test.true c.x-item.is c.loop-x.invariant c.push.ensures c.print-in-loop-x.ensures

pub returns-after-loop-x : goal.returns-after-loop-x
returns-after-loop-x g c =
    let f = g.T.Printed.text in
    let e = rw (take_all _ _ c.loop-x-test.false, c.print.ensures) at c.loop-x.invariant in
    e ∙ all f _ _ _ ∙ ap (λ xs. push_of c.args.self.now (commas (map f xs))) (sym c.in-Some.ensures.cases.0)

pub returns-in_default : goal.returns-in_default
returns-in_default g c = none g.T.Printed.text _ _ c.in_default.ensures.cases
