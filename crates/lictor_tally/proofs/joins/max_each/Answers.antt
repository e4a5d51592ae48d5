use Rattle.std.proofs.Common.{rules}
use lib.Ieee.{nan}
use Rattle.fmath.specs.Float.{max_of}
use Rattle.lictor_tally.proofs.Places.{each_made}
use Rattle.lictor_tally.specs.Join.{join_at, join_each, max_each}
use Rattle.lictor_tally.proofs.joins.max_each.Goals as goal

pub returns : goal.returns
unfolding max_each join_each join_at
returns c = each_made _ (join_at max_of nan c.args.later) c.args.earlier nan _ (λ k x q h. search rules) _ _ (search rules) c.from_fn.ensures.items
