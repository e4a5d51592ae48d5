use mathlib.Core.Path.{ap}
use Rattle.journal.specs.Events as E
use Rattle.player.proofs.Feeding.{obeys}
use Rattle.player.proofs.restart.Goals as goal

pub returns : goal.returns
returns g c = let run = c.restart-run.ensures in
    rw c.emptied-reader.ensures (obeys _ c.args.p _ _ _ (ap E.restarted run) _ run _ c.requires _ _ c.restarted-shown.ensures)
