use mathlib.Core.Path.{refl}
use Rattle.journal.specs.Journal.{start_state}
use Rattle.console.proofs.start.Goals as goal

pub returns-clause-state : goal.returns-clause-state
unfolding start_state
returns-clause-state g c = rw (c.start.ensures, c.no_lists-lists.ensures) refl
