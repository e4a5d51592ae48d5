use mathlib.Core.Path.{◌≡◌}
use lib.ListN.{length}
use Rattle.console.specs.Rounds.{to_do, Sound, Past}
use Rattle.console.proofs.rounds.run_rounds.Given as goal

abbrev pub invariant-loop-streams : goal.invariant-loop-streams
invariant-loop-streams g l =
    (Past g.M.Machine.goes l.initial.machine l.machine l.round l.buf) × (Sound g.M.Machine.rests l.machine l.round l.buf) × (length l.buf ≡ length l.initial.buf) × (length l.out ≡ length l.initial.out)

abbrev pub decreases-loop-streams : goal.decreases-loop-streams
decreases-loop-streams g l = to_do l.round
