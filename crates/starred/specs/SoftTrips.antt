-- What soft trips from a reset on leave: the run states that the clamp rows of the table start from
-- (Starred, clamped_for), also that of 65535 ticks, which are too many to compute.
-- Proved in proofs/SoftTrips, `soft_trips`.
use Rattle.std.specs.Prelude.{◌≡◌, true, ℕ, suc, ◌≤◌, ◌<◌, min}
use Rattle.lictor_core.specs.declared.fuse.Control.{Control}
use Rattle.lictor_core.specs.declared.fuse.FuseRt.{FuseRt}
use Rattle.lictor_core.specs.declared.state.FuseState.TheVariants.{Clamped}
use Rattle.lictor_core.specs.Initial.{no_nonces, fresh_control}
use Rattle.lictor_table.specs.Fields.{with_clamp_streak, with_clamps}
use Rattle.starred.specs.Starred.{row_limits, clamped_for}

-- The machine's part of the run state: Clamped, with k clamps; the streak is 1, since only the
-- first trip came with a chunk; all else is as settings and the reset left it.
abbrev pub clamped_times : ℕ → Control
clamped_times k = with_clamp_streak 1 (with_clamps k (fresh_control Clamped no_nonces))

-- after n soft trips, the last of them at t
pub record Trips (n t : ℕ) (r : FuseRt) : Type 0 where
  -- each is counted, up to 65535
  pub control : r.control ≡ clamped_times (min n 65535)
  -- the clock goes on, and the chunk is there
  pub time : r.clock.last_t ≡ t
  pub begun : 0 < r.clock.seq
  pub filled : r.clock.filled ≡ true

-- of every number of them up to c + 1, where c is the clamp limit
abbrev pub SoftTrips : Type 0
SoftTrips = (c b h e n : ℕ) → n ≤ c → Trips (suc n) n (clamped_for (suc n) (row_limits c b h e))
