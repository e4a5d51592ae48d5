-- The end of the clock: the tick after t = 4294967295 is a fault tick, whatever it brings,
-- and so every later one ends in Fault (01-scope.md, cases, "Last t 4294967295"; fuse.rs, guard).
-- Proved in proofs/ClockEnd, `clock_ends`; what it means for stops, `clock_closes`.
use Rattle.std.specs.Prelude.{◌≡◌, List, ℕ, ◌+◌, ◌≤◌, ◌<◌, T}
use Rattle.lictor_core.specs.declared.fuse.FuseRt.{FuseRt}
use Rattle.lictor_core.specs.declared.state.FuseState.TheVariants.{Fault}
use Rattle.lictor_core.specs.Masks.{any_of, schema}
use Rattle.lictor_core.specs.Initial.{reset_of}
use Rattle.claims.specs.Runs.{All}
use Rattle.claims.specs.Calls.{Call, settings_pass, tick_answer, guard_bits, ticks_from}
use Rattle.claims.specs.Demand3.{StopsWithin}

-- the last t that the clock's type can hold
abbrev pub last_time : ℕ
last_time = 4294967295

-- SCHEMA is among the bits that the guard finds, and among the verdict's trips;
-- the tick ends in Fault, where every later one then ends too (specs/Demand3)
pub record SchemaFault (r : FuseRt) (c : Call) : Type 0 where
  pub guard : T (any_of (guard_bits r c) schema)
  pub trips : T (any_of (tick_answer r c).verdict.trips schema)
  pub state : (tick_answer r c).verdict.state ≡ Fault

-- a tick that is not the first, whose t would have to lie past the clock's end:
-- whatever its t, and whatever else it brings
abbrev pub PastTheEnd : Type 0
PastTheEnd =
    (r : FuseRt) (c : Call) → T (settings_pass c) → 0 < r.clock.seq → c.input.t ≤ last_time
    → last_time < r.clock.last_t + 1 + c.input.missed_ticks → SchemaFault r c

-- so every tick after the last t, however many it says were missed
abbrev pub ClockEnds : Type 0
ClockEnds =
    (r : FuseRt) (c : Call) → T (settings_pass c) → 0 < r.clock.seq → c.input.t ≤ last_time
    → r.clock.last_t ≡ last_time → SchemaFault r c

-- So a stop closes within 4294967296 ticks, whatever the settings, also where they change from call
-- to call: where B + H + E + 2 is more than that, the clock's end closes the stop first.
-- (Every t of the code is one of the clock's: `in_time`, src/lib.rt.)
abbrev pub ClockCloses : Type 0
ClockCloses = (r : FuseRt) (cs : List Call) → All (λ c. c.input.t ≤ last_time) cs → StopsWithin (last_time + 1) (ticks_from (reset_of r) cs)
