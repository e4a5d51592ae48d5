-- Stages 2 to 6, up to the state machine (01-scope.md, One tick; fuse.rs, TIER 0 to FSM).
use Rattle.std.specs.Prelude.{Bool, false, cond, ◌&&◌, ◌||◌, List, ℕ, leb, eqb, Float}
use Rattle.std.specs.Int.Bits.{bit_and, bit_or}
use Rattle.std.specs.Float.{binary64}
use Rattle.std.specs.Float.Ieee.{sub, lt, le}
use Rattle.fmath.specs.Float.{norm_of}
use Rattle.lictor_core.specs.declared.envelope.FuseConfig.{FuseConfig}
use Rattle.lictor_core.specs.declared.fuse.TickInput.{TickInput}
use Rattle.lictor_core.specs.declared.fuse.Window.{Window}
use Rattle.lictor_core.specs.declared.outcome.Outcome.{Outcome}
use Rattle.lictor_core.specs.Codes.{is_observe, is_project}
use Rattle.lictor_core.specs.Masks as M
use Rattle.lictor_detect.specs.Window.{push_hit, hits_of, trip_of}
use Rattle.lictor_guard.specs.Delivery.{delivered_of}
use Rattle.lictor_table.specs.declared.FsmInput.{FsmInput}
use Rattle.lictor_core.specs.declared.scores.Scores.{Scores}
use Rattle.lictor_stages.specs.declared.findings.Findings.{Findings}
use Rattle.lictor_stages.specs.declared.findings.Scored.{Scored}

-- an infeasible brake adds its bit
unfoldable pub with_brake : ℕ → Bool → ℕ
with_brake trips feasible = cond feasible trips (bit_or trips M.brake_bit)

-- then only bits that the settings enable, or hard ones, stay
unfoldable pub masked_of : ℕ → Bool → ℕ → ℕ
masked_of trips feasible enabled = bit_and (with_brake trips feasible) (bit_or enabled M.tier0_hard)

-- warn: no hit, and the score above tau - warn_margin, the difference rounded
unfoldable pub warn_of : Bool → Float → Float → Float → Bool
warn_of hit s tau margin = cond hit false (lt (sub binary64 tau margin) s)

-- the norm of the first pos_dim velocities is at most v_stop_eps
unfoldable pub slow_of : FuseConfig → List Float → Bool
slow_of cfg vel = le (norm_of vel cfg.pos_dim) cfg.hyst.v_stop_eps

-- standing still: always in Observe, else when slow
unfoldable pub standstill_of : FuseConfig → List Float → Bool
standstill_of cfg vel = is_observe cfg.mode || slow_of cfg vel

-- a chunk came, and no trip is left of the outcome's
unfoldable pub chunk_passes : Bool → ℕ → Bool
chunk_passes boundary trips = boundary && eqb trips 0

-- the score's hit goes into the window; enough hits in it are predictive
unfoldable pub scored_of : FuseConfig → Scores → Window → Scored
scored_of cfg sc w = record {
  warn = warn_of (trip_of cfg.calib sc) sc.s cfg.calib.tau cfg.hyst.warn_margin;
  window = push_hit w (trip_of cfg.calib sc) cfg.window_mask;
  hits = hits_of (push_hit w (trip_of cfg.calib sc) cfg.window_mask);
  predictive = leb cfg.hyst.k (hits_of (push_hit w (trip_of cfg.calib sc) cfg.window_mask));
}

-- all that is found before the state machine runs (01-scope.md, the clean tick)
unfoldable pub findings_of : FuseConfig → Bool → Outcome → Window → List Float → Findings
findings_of cfg boundary out w vel = record {
  trips = masked_of out.trips out.feasible cfg.tier0_enabled;
  scored = scored_of cfg out.scores w;
  stopped = standstill_of cfg vel;
  chunk_ok = chunk_passes boundary (masked_of out.trips out.feasible cfg.tier0_enabled);
}

-- what the state machine is asked in a clean tick
unfoldable pub machine_input : FuseConfig → TickInput → Findings → FsmInput
machine_input cfg inp f = record {
  trips = f.trips;
  predictive = f.scored.predictive;
  warn = f.scored.warn;
  soft_clampable = is_project cfg.clamp;
  stopped = f.stopped;
  chunk_boundary = delivered_of inp.chunk;
  chunk_ok = f.chunk_ok;
  ack = inp.ack;
}
