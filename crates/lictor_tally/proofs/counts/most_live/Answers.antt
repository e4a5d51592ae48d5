use Rattle.std.proofs.Common.{rules}
use lib.Ieee.{nan}
use Rattle.fmath.proofs.Order.{max_nan}
use Rattle.lictor_tally.proofs.CountsLaws.{most_none}
use Rattle.lictor_tally.proofs.Places.{each_made}
use Rattle.lictor_tally.specs.Counts.{most_at, most_live}
use Rattle.lictor_tally.proofs.counts.most_live.Goals as goal

pub returns-then-live-eq0 : goal.returns-then-live-eq0
returns-then-live-eq0 c = most_none _ _ _ c.if-live-eq0.true

pub returns : goal.returns
unfolding most_live most_at
returns c = each_made _ (most_at c.args.live c.args.z) c.args.most nan _ (λ k x q h. search (rules, max_nan)) _ _ (search rules) c.from_fn.ensures.items
