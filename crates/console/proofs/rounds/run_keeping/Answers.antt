use native.Mathlib.Omega.{arith}
use Rattle.console.proofs.rounds.run_keeping.Goals as goal

pub close-requires : goal.close-requires
close-requires g c = let f = c.run_rounds-round.ensures.sound.fits in
    (omega arith, f.text, f.beside)

pub returns : goal.returns
returns g c = record { round = c.run_rounds-round.result; buf = _; out = _; through = c.run_rounds-round.ensures; closed = c.close.ensures }
