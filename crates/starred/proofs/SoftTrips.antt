-- `soft_trips`: by induction, a tick at a time.
-- A later tick is clean, and the machine's turn is computed with its count of clamps as a variable.
use Rattle.std.proofs.Common.{None}
use mathlib.Core.Path.{◌≡◌, refl}
use mathlib.Core.Bool.{true, false}
use mathlib.Core.List.{List, [], ◌∷◌}
use Prim.Native.Nat.{ℕ, zero, suc, ◌+◌, ◌≤◌, ◌<◌, min}
use native.Mathlib.Omega.{arith}
use borrow.Author.Tests.{ne_eqb, eq-eqb, le-ltb}
use lib.Count.{ones}
use lib.Ieee.{Float, inf, is_nan, lt, sub}
use Rattle.lictor_core.specs.declared.envelope.FuseConfig.{FuseConfig}
use Rattle.lictor_core.specs.declared.envelope.Settings.{Settings}
use Rattle.lictor_core.specs.declared.fuse.FuseRt.{FuseRt}
use Rattle.lictor_core.specs.declared.fuse.TickInput.{TickInput}
use Rattle.lictor_core.specs.declared.outcome.Outcome.{Outcome}
use Rattle.lictor_core.specs.declared.state.FuseState.TheVariants.{Clamped}
use Rattle.lictor_core.specs.declared.reason.ReasonCode.TheVariants.{ClampWorkspace}
use Rattle.lictor_core.specs.Codes.{clamp_mode_of}
use Rattle.lictor_core.specs.FirstThat.{first_that}
use Rattle.lictor_core.specs.Initial.{zero_float, one_float, zeros, fresh_control}
use Rattle.lictor_core.specs.Masks.{any_of}
use Rattle.lictor_core.specs.Num.{sat_up}
use Rattle.lictor_settings.specs.Settings.{bad_code, bad_size, bad_float, any_below, crossed_of, bad_box, settings_table, check_of, config_of}
use Rattle.lictor_detect.specs.Window.{hit_bit, push_hit, hits_of, trip_of}
use Rattle.lictor_guard.specs.Delivery.{delivered_of}
use Rattle.lictor_guard.specs.Guard.{guard_of}
use Rattle.lictor_stages.specs.declared.findings.Findings.{Findings}
use Rattle.lictor_stages.specs.Findings.{with_brake, masked_of, warn_of, chunk_passes, scored_of, findings_of, machine_input}
use Rattle.lictor_stages.specs.Verdict.{verdict_of}
use Rattle.lictor_table.specs.Helpers.{clamp_reason, accepted_ack, count_if, up_if, is_clean, count_run, to, settled_of}
use Rattle.lictor_table.specs.Table.{table, next_from, next_of}
use Rattle.lictor_fuse.specs.CleanTick.{clean_clock, ready_of, close_clean, clean_tick}
use Rattle.lictor_fuse.specs.Closed.{closed_of}
use Rattle.lictor_fuse.specs.Decide.{decide_by, decide_of}
use Rattle.lictor_fuse.specs.Tick.{given_of, accepted_tick, tick_by, tick_of}
use Rattle.fmath.specs.Float.{all_finite}
use Rattle.samples.specs.Samples.{sample_settings, sample_outcome, sample_input}
use Rattle.starred.proofs.Opened.{tick_opened}
use Rattle.starred.specs.Starred.{row_limits, row_tick_at, row_tick, armed, clamped_for, clamping}
use Rattle.starred.specs.SoftTrips.{clamped_times, Trips, SoftTrips}

module _ (c b h e : ℕ) where
  abbrev settings : Settings
  settings = sample_settings (row_limits c b h e) 1 63 one_float

  abbrev cfg : FuseConfig
  cfg = config_of settings

  abbrev input_at : ℕ → TickInput
  input_at t = sample_input t 0 false None None

  abbrev soft_trip : Outcome
  soft_trip = sample_outcome 1 true (inf true)

  -- the first tick
  first : Trips 1 0 (clamped_for 1 (row_limits c b h e))
  unfolding clamped_for row_tick row_tick_at armed row_limits tick_opened
  first = record { control = rw (le-ltb c 0 (omega arith)) refl; time = refl; begun = omega arith; filled = refl }

  -- the machine's turn on a later one, after k clamps, wherever the arm is and however it moves
  module _ (k : ℕ) (few : k ≤ c) (t : ℕ) (pos vel : List Float) where
    abbrev found : Findings
    found = findings_of cfg false soft_trip (clamped_times k).window vel

    turned : next_of cfg (ready_of (clamped_times k) found) pos (machine_input cfg (input_at t) found) ≡ to Clamped 0 ClampWorkspace (clamped_times (sat_up 16 k))
    unfolding
        next_of next_from table first_that settled_of count_run is_clean count_if up_if accepted_ack clamp_reason any_of fresh_control
        ready_of machine_input findings_of scored_of warn_of trip_of push_hit hit_bit hits_of ones masked_of with_brake chunk_passes delivered_of
        config_of clamp_mode_of row_limits lt sub
    turned = rw (le-ltb c k few) refl

  -- such a tick
  module _ (n : ℕ) (r : FuseRt) (o : Trips (suc n) n r) where
    no_bits : guard_of cfg r.clock (input_at (suc n)) (zero_float ∷ []) [] [] [] [] ≡ 0
    unfolding tick_opened row_limits
    no_bits = rw (o.filled, ne_eqb r.clock.seq 0 (λ z. let k = o.begun in omega arith), o.time, eq-eqb (n + 1 + 0) (suc n) (omega arith)) refl

    clean : row_tick (row_limits c b h e) r (suc n) 0 None 1 ≡ given_of (clean_tick cfg r (input_at (suc n)) soft_trip (zero_float ∷ []) [])
    unfolding
        row_tick row_tick_at row_limits tick_of tick_by accepted_tick decide_of decide_by
        check_of first_that settings_table bad_code bad_size bad_float bad_box crossed_of any_below all_finite is_nan lt zeros
    clean = rw (ne_eqb (suc n) 0 (λ z. omega arith), no_bits) refl

    one_more : sat_up 16 (min (suc n) 65535) ≡ min (suc (suc n)) 65535
    one_more = omega arith

    -- it counts one clamp more, and the clock goes on
    later : n < c → Trips (suc (suc n)) (suc n) (row_tick (row_limits c b h e) r (suc n) 0 None 1).rt
    unfolding given_of clean_tick close_clean closed_of clean_clock delivered_of
    later few = rw clean (record {
      control = rw (o.control, turned (min (suc n) 65535) (omega arith) _ _ _, one_more) refl;
      time = refl;
      begun = omega arith;
      filled = rw o.filled refl;
    })

    -- what a row looks at
    pub clamps_on : n < c → clamping (row_tick (row_limits c b h e) r (suc n) 0 None 1) ≡ 3 ∷ 3 ∷ min (suc (suc n)) 65535 ∷ []
    unfolding clamping given_of clean_tick close_clean closed_of verdict_of delivered_of fresh_control
    clamps_on few = rw (clean, o.control, turned (min (suc n) 65535) (omega arith) _ _ _, one_more) refl

pub soft_trips : SoftTrips
unfolding clamped_for
soft_trips c b h e zero few = first c b h e
soft_trips c b h e (suc n) few =
    later c b h e n (clamped_for (suc n) (row_limits c b h e)) (soft_trips c b h e n (omega arith)) (omega arith)
