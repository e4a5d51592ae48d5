-- The tally's maxima (request 2): after any list of calls from a reset on, or from the settings on,
-- each is the largest score of the ticks that it takes in, or minus infinity; and under accepted
-- settings every clamp to the box is the Rust's.
-- Proved in proofs/Maxima, `maxima_told` and `box_told`.
use Rattle.std.specs.Prelude.{◌≡◌, Bool, true, false, not, ◌&&◌, List, ℕ, min, T, eqb, ltb, length, get_or, Float}
use Rattle.std.specs.Float.{inf, nan}
use Rattle.fmath.specs.Larger.{rust_clamp}
use Rattle.fmath.specs.Most.{Largest}
use Rattle.lictor_core.specs.declared.envelope.FuseConfig.{FuseConfig}
use Rattle.lictor_core.specs.declared.envelope.Settings.{Settings}
use Rattle.lictor_core.specs.declared.fuse.FuseRt.{FuseRt}
use Rattle.lictor_core.specs.declared.verdict.SafetyVerdict.{SafetyVerdict}
use Rattle.lictor_core.specs.Initial.{new_of, reset_of, zeros}
use Rattle.lictor_core.specs.Rows.{row_to}
use Rattle.lictor_core.specs.Sizes.{features, max_d, max_pos}
use Rattle.lictor_settings.specs.Settings.{check_of, config_of}
use Rattle.lictor_detect.specs.Brake.{component, boxed_action}
use Rattle.lictor_table.specs.Helpers.{latched_of}
use Rattle.lictor_tally.specs.History.{Maximum, of_s, of_z, maximum_in, score_in}
use Rattle.lictor_tally.specs.Tally.{bit_of}
use Rattle.lictor_fuse.specs.declared.Ticked.{Ticked}
use Rattle.lictor_fuse.specs.Tick.{is_accepted}
use Rattle.claims.specs.Runs.{course}
use Rattle.claims.specs.Calls.{Call, tick_answer, settings_pass, guard_bits, step_of, left_by}

-- ---- the scores of a list of calls

-- the verdict of a tick, and the calibration mask under which it was given
pub record Scored : Type 0 where
  pub mask : ℕ
  pub verdict : SafetyVerdict

abbrev pub scored_by : FuseRt → Call → Ticked → Scored
scored_by r c a = record { mask = c.settings.calib.mask; verdict = a.verdict }

abbrev pub scored_from : FuseRt → List Call → List Scored
scored_from r cs = course (step_of scored_by) r cs

-- which ticks a maximum takes in: s of all, and z where the channel is live, in the mask and valid
abbrev pub takes_of : Maximum → Scored → Bool
takes_of of_s x = true
takes_of (of_z j) x = ltb j features && (bit_of x.mask j && bit_of x.verdict.scores.valid j)

abbrev pub taken_score : Maximum → Scored → Float
taken_score m x = score_in m x.verdict

-- ---- the claim

-- one statement over the maximum: no NaN, minus infinity or a score that it takes in, none greater
abbrev pub MaximaOf : FuseRt → List Call → Type 0
MaximaOf r cs = (m : Maximum) → Largest (takes_of m) (taken_score m) (scored_from r cs) (maximum_in m (left_by r cs).tally)

-- a fault tick: minus infinity as s, and no channel is live
pub record FaultScore (x : Scored) : Type 0 where
  pub s : taken_score of_s x ≡ inf true
  pub z : (j : ℕ) → takes_of (of_z j) x ≡ false

-- after any calls, whatever their settings, refused ones among them
pub record MaximaTold : Type 0 where
  pub from_reset : (r : FuseRt) (cs : List Call) → MaximaOf (reset_of r) cs
  pub from_new : (cs : List Call) → MaximaOf new_of cs
  pub faults : (r : FuseRt) (c : Call) → T (settings_pass c) → T (not (eqb (guard_bits r c) 0)) → FaultScore (scored_by r c (tick_answer r c))

-- ---- the box, where the settings are accepted

-- a row, and the hold, clamped by the Rust's clamp
unfoldable pub rust_boxed : FuseConfig → List Float → List Float
rust_boxed cfg row =
    row_to (λ c. rust_clamp (component row cfg.pos_dim c) (get_or cfg.box_lo c nan) (get_or cfg.box_hi c nan)) (zeros max_d)
    (min cfg.dim max_d)

unfoldable pub rust_latched : List Float → List Float → List Float → List Float → ℕ → List Float
rust_latched pos lo hi hold n = row_to (λ k. rust_clamp (get_or pos k nan) (get_or lo k nan) (get_or hi k nan)) hold n

-- braking and holding rows of position kinds, and the point that is latched, are the Rust's
pub record BoxAsRust (cfg : FuseConfig) : Type 0 where
  pub rows : (row : List Float) → boxed_action cfg row ≡ rust_boxed cfg row
  pub latch : (pos hold : List Float)
      → latched_of pos cfg.box_lo cfg.box_hi hold (min cfg.pos_dim max_pos)
      ≡ rust_latched pos cfg.box_lo cfg.box_hi hold (min cfg.pos_dim max_pos)

-- of settings that pass the check, with as many upper ends as their type has
abbrev pub BoxTold : Type 0
BoxTold = (s : Settings) → T (is_accepted (check_of s)) → length s.box_hi ≡ max_pos → BoxAsRust (config_of s)
