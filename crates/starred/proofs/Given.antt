-- The definitions give every starred case: the rows of the table are computed, but for the one with
-- the full count. It starts after 65535 soft trips, too many to compute, and goes by their law
-- (SoftTrips).
use mathlib.Core.Path.{refl, ap, ap₂}
use mathlib.Core.List.{List, [], ◌∷◌, ◌++◌, drop}
use Prim.Native.Nat.{ℕ}
use native.Mathlib.Omega.{arith}
use lib.ListN.{take}
use Rattle.starred.proofs.Opened.{tick_opened}
use Rattle.starred.proofs.SoftTrips.{soft_trips, clamps_on}
use Rattle.starred.specs.Starred.{AsWanted, starred, row_limits, row_ack, row_tick_at, row_tick, armed, braking, held, spent, escalated, terminated, clamped_for, bit, ending, ending_nonce, clamping, acceptance, printed, usual_limits, wide_limits, quick_handoff, quick_end}

before_full : AsWanted (take 13 starred)
unfolding
    tick_opened row_limits row_ack row_tick_at row_tick armed braking held spent escalated terminated clamped_for
    bit ending ending_nonce clamping acceptance usual_limits quick_handoff quick_end starred
before_full = refl

full : AsWanted (take 1 (drop 13 starred))
unfolding wide_limits starred
full = ap (λ (x : List ℕ). x ∷ []) (clamps_on 65535 5 5 5 65534 (clamped_for 65535 wide_limits) (soft_trips 65535 5 5 5 65534 (omega arith)) (omega arith))

after_full : AsWanted (drop 14 starred)
unfolding
    tick_opened row_limits row_ack row_tick_at row_tick armed braking held escalated terminated
    ending printed usual_limits quick_end starred
after_full = refl

pub given : AsWanted starred
unfolding starred
given = ap₂ ◌++◌ before_full (ap₂ ◌++◌ full after_full)
