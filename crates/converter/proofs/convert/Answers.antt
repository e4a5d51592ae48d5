use Rattle.converter.proofs.Runs.{ran_keeping}
use Rattle.converter.proofs.convert.Goals as goal

pub returns : goal.returns
returns c = ran_keeping _ _ _ c.run_keeping.ensures
