-- The limit of demand 3 is met: for all B from 1, all H and E, where B + H + E + 2 is at most
-- 4294967295, settings and a list of calls from a reset on whose stop closes with the last tick of
-- the limit. So B + H + E + 1 would be false. Proved in proofs/Limit, `limit_met`.
-- (At B = 0 the first tick in Braking ends in Fault. Where the sum passes 4294967296 the clock's
-- end closes the stop first: specs/ClockEnd, `ClockCloses`.)
-- It is of demand 3's first part (00-demands.md, Demand 3), and beyond what the papers ask.
use Rattle.std.specs.Prelude.{◌≡◌, Bool, true, false, List, [], ◌∷◌, ◌++◌, ℕ, ◌+◌, ◌-◌, ◌≤◌, T, Float, None, Some, Option}
use Rattle.lictor_core.specs.declared.chunk.ChunkHead.{ChunkHead}
use Rattle.lictor_core.specs.declared.envelope.Hysteresis.{Hysteresis}
use Rattle.lictor_core.specs.declared.envelope.Settings.{Settings}
use Rattle.lictor_core.specs.declared.fuse.FuseRt.{FuseRt}
use Rattle.lictor_core.specs.Initial.{zero_float, one_float, reset_of}
use Rattle.samples.specs.Samples.{sample_settings, sample_outcome, sample_input, sample_chunk}
use Rattle.claims.specs.Runs.{All, First, Where, series}
use Rattle.claims.specs.Calls.{Call, settings_pass, ticks_from}
use Rattle.claims.specs.ClockEnd.{last_time}
use Rattle.claims.specs.Demand3.{Sized, begins, closes, limit, StopsWithin}

-- the limits B, H and E; standstill is confirmed by one tick at speed 0, and nothing else matters
abbrev pub slow_limits : ℕ → ℕ → ℕ → Hysteresis
slow_limits b h e =
    record {
      k = 255;
      warn_margin = zero_float;
      clear_ticks = 1;
      clamp_streak_to_brake = 255;
      max_clamps_per_episode = 0;
      stop_confirm_ticks = 1;
      v_stop_eps = zero_float;
      brake_timeout_ticks = b;
      rearm_hold = 0;
      max_rearms = 0;
      escalate_after_hold_ticks = h;
      handoff_timeout_ticks = e;
      watchdog_ticks = 0;
    }

abbrev pub slow_settings : ℕ → ℕ → ℕ → Settings
slow_settings b h e = sample_settings (slow_limits b h e) 0 0 one_float

module _ (s : Settings) where
  -- a call at t with this velocity, and a chunk or none; its brake is feasible or not
  abbrev pub call_at : ℕ → Float → Bool → Option ChunkHead → List Float → Call
  call_at t v feasible head values =
      record {
        settings = s;
        input = sample_input t 0 true head None;
        outcome = sample_outcome 0 feasible zero_float;
        pos = zero_float ∷ [];
        vel = v ∷ [];
        aux = [];
        ext = [];
        chunk = values;
      }

  -- the first call: a chunk whose brake is infeasible, so that braking begins
  abbrev pub trips : Call
  trips = call_at 0 zero_float false (Some (sample_chunk 0)) (zero_float ∷ [])

  -- later ones: the arm moves, or stands
  abbrev pub moves : ℕ → Call
  moves t = call_at t one_float true None []

  abbrev pub stands : ℕ → Call
  stands t = call_at t zero_float true None []

-- braking begins; B - 1 ticks that move; one that stands, and Held begins;
-- H that wait there, one that escalates; E that wait there, one that terminates
abbrev pub slowest : ℕ → ℕ → ℕ → List Call
slowest b h e =
    let s = slow_settings b h e in
    trips s
    ∷ (series (moves s) 1 (b - 1)
    ++ (stands s b
    ∷ (series (stands s) (b + 1) h
    ++ (stands s (b + h + 1)
    ∷ (series (stands s) (b + h + 2) e
    ++ (stands s (b + h + e + 2) ∷ []))))))

-- ---- the claim

pub record Met (r : FuseRt) (s : Settings) (cs : List Call) : Type 0 where
  -- the list is one of those that demand 3 speaks of, all ticks, and its times are within the clock
  pub sized : Sized s
  pub under : All (λ c. T (settings_pass c) × (c.settings ≡ s)) cs
  pub times : All (λ c. c.input.t ≤ last_time) cs
  -- braking begins, and the first tick after it that closes the stop has the number of the limit
  pub exact : Where (λ x after. T (begins x) × First (λ y. T (closes y)) (limit s) after) (ticks_from (reset_of r) cs)
  -- so the limit cannot be one less
  pub tight : ¬ StopsWithin (limit s - 1) (ticks_from (reset_of r) cs)

abbrev pub LimitMet : Type 0
LimitMet = (b h e : ℕ) → 1 ≤ b → b ≤ 65535 → h ≤ 65535 → b + h + e + 2 ≤ last_time
    → (r : FuseRt) → Met r (slow_settings b h e) (slowest b h e)
