use mathlib.Core.Path.{sym}
use lib.Seq.{length-take-le}
use Rattle.console.proofs.rounds.put_on.Goals as goal

pub slice_bounds-put-end : goal.slice_bounds-put-end
slice_bounds-put-end c = sym (length-take-le _ _ c.requires)

pub slice_bounds-put_beside-end : goal.slice_bounds-put_beside-end
slice_bounds-put_beside-end c = sym (length-take-le _ _ c.requires)
