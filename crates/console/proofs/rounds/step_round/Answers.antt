use mathlib.Core.Path.{refl}
use native.Mathlib.Omega.{arith}
use Rattle.console.specs.Rounds.{round_stepped}
use Rattle.console.proofs.Stepping.{at_within}
use Rattle.console.proofs.rounds.step_round.Goals as goal

pub put_on-written-requires : goal.put_on-written-requires
put_on-written-requires g c = omega (arith, (c.step-stepped.ensures c.requires.1).fits)

pub overflow_add-result : goal.overflow_add-result
overflow_add-result g c = let f = c.requires.0 in
    omega (arith, at_within c.args.r c.args.buf.now _ f.within (c.step-stepped.ensures c.requires.1), f.bound, f.most)

pub overflow_sub-result : goal.overflow_sub-result
overflow_sub-result g c = omega (arith, at_within c.args.r c.args.buf.now _ c.requires.0.within (c.step-stepped.ensures c.requires.1))

pub returns : goal.returns
unfolding round_stepped
returns g c = record {
  stepped = c.step-stepped.result;
  written = c.put_on-written.result;
  steps = c.step-stepped.ensures c.requires.1;
  handed = c.put_on-written.ensures;
  moved = c.move_down.ensures;
  is = rw (c.after_step.ensures, c.has_failed.ensures) refl;
}
