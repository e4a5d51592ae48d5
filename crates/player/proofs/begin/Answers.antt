use mathlib.Core.Path.{ap}
use Rattle.journal.specs.Events as E
use Rattle.player.proofs.Feeding.{obeys}
use Rattle.player.proofs.begin.Goals as goal

pub returns : goal.returns
returns g c = let run = c.begin-run.ensures in
    rw c.begun-reader.ensures (obeys _ c.args.p _ _ _ (ap E.began run) _ run _ c.requires _ _ c.began-shown.ensures)
