use Rattle.std.proofs.Common.{rules}
use Rattle.lictor_core.proofs.RowLaws.{row_is}
use Rattle.lictor_stages.specs.Ingest.{step_rate, rates_row}
use Rattle.lictor_stages.proofs.ingest.moving.Goals as goal

pub returns : goal.returns
unfolding rates_row step_rate
returns c = row_is (step_rate c.args.here c.args.last c.args.cfg.inv_dt) _ _ _ _ c.first_by.ensures (λ i y l p. search rules)
