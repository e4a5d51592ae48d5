use mathlib.Core.Path.{refl}
use Rattle.console.specs.Rounds.{ended_with}
use Rattle.console.proofs.rounds.close.Goals as goal

pub returns : goal.returns
unfolding ended_with
returns g c = let number = c.refused-refused.ensures in
    record {
      put = rw c.say_why-written.ensures (rw number at c.put_ending-handed.ensures);
      is = rw (number, c.say_why-written.ensures, c.after_ending-phase.ensures, c.has_failed.ensures) refl;
    }
