use mathlib.Core.Path.{sym}
use lib.ListN.{get_or-eq_default}
use Rattle.host_layout.proofs.Keys.{missed}
use Rattle.host_layout.specs.State.{reasons}
use Rattle.lictor_core.specs.declared.reason.ReasonCode.TheVariants.{EpisodeEnd}
use Rattle.host_layout.proofs.state.reason_of.Goals as goal

pub returns-in_default : goal.returns-in_default
unfolding reasons
returns-in_default c = sym (get_or-eq_default reasons EpisodeEnd (missed 28 _ c.in_default.in_default-own.rest))
