use mathlib.Core.Path.{refl}
use native.Mathlib.Omega.{arith}
use Rattle.claims.specs.Demand3.{Sized}
use Rattle.claims.proofs.Demand3.{stops_close}
use Rattle.claims.proofs.stops_close.Goals as goal

pub returns : goal.returns
returns c = let z : Sized c.args.s = record { brake = omega arith; hold = omega arith; handoff = omega arith; rearms = omega arith } in
    (refl, z, stops_close c.args.s z)
