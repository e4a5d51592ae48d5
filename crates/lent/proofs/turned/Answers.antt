use Rattle.std.proofs.Common.{rules, refl, inl, inr}
use Rattle.lent.proofs.turned.Goals as goal

pub returns-then-a-ne0 : goal.returns-then-a-ne0
returns-then-a-ne0 g c = inl (record { test = c.test-a.result; tested = c.test-a.ensures; number = search rules; kept = refl; answered = refl })

pub returns : goal.returns
returns g c = inr (record { test = c.test-a.result; tested = c.test-a.ensures; number = search rules; step = c.core-r.result; stepped = c.core-r.ensures; stored = refl; answered = refl })
