-- The case of 01-scope.md without a star, last t 4294967295:
-- what the program's ticks are given, and the names of its lines.
use Rattle.std.specs.Prelude.{ℕ, ◌+◌, true, false, List, [], ◌∷◌, ◌++◌, Float, None, Some, Option}
use Rattle.lictor_core.specs.declared.chunk.ChunkHead.{ChunkHead}
use Rattle.text.specs.Ascii.{ascii}
use Rattle.text.specs.Number.{decimal_of}
use Rattle.lictor_core.specs.declared.envelope.Hysteresis.{Hysteresis}
use Rattle.lictor_core.specs.declared.envelope.Settings.{Settings}
use Rattle.lictor_core.specs.declared.fuse.FuseRt.{FuseRt}
use Rattle.lictor_core.specs.Initial.{zero_float, new_of, reset_of}
use Rattle.lictor_core.specs.Masks.{tier0_soft, brake_bit}
use Rattle.lictor_fuse.specs.declared.Ticked.{Ticked}
use Rattle.lictor_fuse.specs.Tick.{tick_of}
use Rattle.samples.specs.Samples.{sample_settings, sample_outcome, sample_input, sample_chunk}

-- No limit is in the way, and any number of ticks may be missed.
unfoldable pub wide_limits : Hysteresis
wide_limits = record {
  k = 1;
  warn_margin = zero_float;
  clear_ticks = 1;
  clamp_streak_to_brake = 255;
  max_clamps_per_episode = 65535;
  stop_confirm_ticks = 1;
  v_stop_eps = zero_float;
  brake_timeout_ticks = 65535;
  rearm_hold = 65535;
  max_rearms = 255;
  escalate_after_hold_ticks = 65535;
  handoff_timeout_ticks = 4294967295;
  watchdog_ticks = 255;
}

unfoldable pub clock_settings : Settings
clock_settings = sample_settings wide_limits 1 (tier0_soft + brake_bit) zero_float

-- a tick after r, with or without a chunk and its values; nothing trips
unfoldable pub clock_tick : FuseRt → (t missed : ℕ) → Option ChunkHead → List Float → Ticked
clock_tick r t missed chunk values =
    tick_of clock_settings r (sample_input t missed false chunk None) (sample_outcome 0 true zero_float)
    (zero_float ∷ []) [] [] [] values

-- after a reset, a tick at `last`
unfoldable pub clock_at : (last : ℕ) → FuseRt
clock_at last = (clock_tick (reset_of new_of) last 0 None []).rt

-- the tick after it, with a chunk that begins at its t
unfoldable pub tick_after : (last missed t : ℕ) → Ticked
tick_after last missed t = clock_tick (clock_at last) t missed (Some (sample_chunk t)) (zero_float ∷ [])

unfoldable pub name_text : (last missed t : ℕ) → List ℕ
name_text last missed t =
    ascii "last t " ++ decimal_of last ++ ascii ", missed " ++ decimal_of missed
    ++ ascii ", t " ++ decimal_of t ++ ascii ": "
