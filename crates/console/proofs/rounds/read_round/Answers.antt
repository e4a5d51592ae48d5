use mathlib.Core.Path.{refl}
use Rattle.console.specs.Rounds.{round_read}
use Rattle.console.proofs.rounds.read_round.Goals as goal

pub returns : goal.returns
unfolding round_read
returns c = record { came = c.read_more-got.ensures; is = rw (c.after_read.ensures, c.last.ensures) refl }
