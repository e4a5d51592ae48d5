use Rattle.std.proofs.Common.{Float, ◌∙◌, arith, rules, tests}
use Rattle.std.proofs.lemmas.Iterator.{YieldsList-from_slice, YieldsList-from_zip}
use Rattle.std.proofs.lemmas.Iterator.Search.{any_from_yields_List}
use lib.Ieee.{lt, nan}
use Rattle.lictor_settings.specs.Settings.{crossed_of}
use Rattle.lictor_settings.proofs.Below.{any_below_is}
use Rattle.lictor_settings.proofs.crossed.Goals as goal

pub returns : goal.returns
unfolding crossed_of
returns c =
    any_from_yields_List (λ (p : Float × Float). lt p.1 p.0) c.any.new.self _ _ c.any.ensures.ran (YieldsList-from_zip (YieldsList-from_slice c.args.lo (cc)) (YieldsList-from_slice c.args.hi (cc))) (λ x b q k. search (rules, tests))
    ∙ any_below_is (λ x y. lt y x) 8 c.args.lo c.args.hi nan nan (omega arith) (omega arith)
