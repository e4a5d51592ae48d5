use Rattle.lictor_fuse.specs.FaultTick.{fault_verdict}
use Rattle.lictor_fuse.proofs.fault_tick.fault_verdict.Goals as goal

pub returns : goal.returns
unfolding fault_verdict
returns c = rw (c.nan.ensures, c.hits.ensures, c.disarmed_scores-scores.ensures, c.action_dim.ensures, c.status_of.ensures)
