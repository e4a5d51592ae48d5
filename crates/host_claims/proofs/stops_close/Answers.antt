use mathlib.Core.Path.{refl}
use native.Mathlib.Omega.{arith}
use Rattle.claims.specs.Demand3.{Sized}
use Rattle.host_layout.specs.Input.{settings_in}
use Rattle.host_claims.proofs.HostRun.{host_stops}
use Rattle.host_claims.proofs.stops_close.Goals as goal

pub returns : goal.returns
unfolding settings_in
returns c = let z : Sized (settings_in c.args.s) = record { brake = omega arith; hold = omega arith; handoff = omega arith; rearms = omega arith } in
    (refl, host_stops c.args.s z)
