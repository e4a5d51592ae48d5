use Rattle.journal_reader.specs.Reading.{brought_of}
use Rattle.player.proofs.Feeding.{obeys_tick}
use Rattle.player.proofs.tick.Goals as goal

pub returns : goal.returns
unfolding brought_of
returns g c = rw c.emptied-reader.ensures
    (obeys_tick _ c.args.p _ (brought_of (record { reader = c.args.p.reader; lists = c.args.lists.now }) c.args.input) _ c.tick-reported.ensures _ c.lent_positions-pos.ensures _ c.requires _ _
    c.ticked-shown.ensures)
