-- The proof of specs/Witness: every tick of the list is computed.
use mathlib.Core.Path.{refl}
use Prim.Native.Nat.{◌≤◌}
use native.Mathlib.Omega.{arith}
use Rattle.samples.proofs.Opened.{opened}
use Rattle.claims.specs.Runs.{at, past}
use Rattle.claims.specs.Calls.{guard_bits, trips_of, bits_of, ack_accepted, took_of}
use Rattle.claims.specs.Witness.{story, Witnessed, sequel, SpentWitnessed}

one : 1 ≤ 1
one = omega arith

pub witnessed : Witnessed
unfolding opened guard_bits trips_of bits_of ack_accepted took_of story
witnessed = record {
  sized = record { brake = omega arith; hold = omega arith; handoff = omega arith; rearms = omega arith };
  under = ((tt, refl), ((tt, refl), ((tt, refl), ((tt, refl), ((tt, refl), ((tt, refl), ((tt, refl), ((tt, refl), ((tt, refl), ((tt, refl), ((tt, refl), ((tt, refl), ((tt, refl), ((tt, refl), ((tt, refl), tt)))))))))))))));
  states = refl;
  stops = refl;
  rearms = refl;
  acks = (refl, refl);
  faults = past (past (past (past (past (past (past (past (past (past (past (past (past (at (tt, one))))))))))))));
}

pub spent_witnessed : SpentWitnessed
unfolding opened guard_bits trips_of bits_of ack_accepted took_of sequel
spent_witnessed = record { states = refl; taken = refl }
