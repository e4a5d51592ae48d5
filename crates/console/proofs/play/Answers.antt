use Rattle.console.proofs.Runs.{ran_keeping}
use Rattle.console.proofs.play.Goals as goal

pub returns : goal.returns
returns g c = let j = c.start-journal.ensures in
    ran_keeping _ _ _ _ j.state j.run j.printer c.run_keeping-ended.ensures
