-- The brake factor: the proofs of specs/Factor. Assumes nothing.
use mathlib.Core.Path.{◌≡◌, refl, ◌∙◌, ap}
use mathlib.Core.Bool.{Bool, false, true≢false}
use mathlib.Core.List.{List}
use Prim.Native.Nat.{ℕ, ◌*◌}
use native.Mathlib.Nat.{zero-mul, mul-pos}
use native.Mathlib.Omega.{arith}
use borrow.Author.Tests.{lt-ltb}
use lib.ListN.{get_or}
use lib.IntN.{ℤ, pos}
use lib.Ieee.{Float, nan, inf, fin, binary64, up, down, unlike, round, mul, is_nan}
use lib.Ieee.Fits.{down_pos}
use lib.Ieee.Scale.{finite, round_same}
use Rattle.fmath.specs.Float.{max_of}
use Rattle.fmath.specs.Rank.{Number}
use Rattle.fmath.proofs.Order.{max_nan, max_as_rust, max_above_first, max_number_first}
use Rattle.lictor_core.specs.declared.chunk.ActionKind.TheVariants.{EeDelta, JointVelocity}
use Rattle.lictor_core.specs.declared.envelope.FuseConfig.{FuseConfig}
use Rattle.lictor_core.specs.Initial.{zero_float}
use Rattle.lictor_detect.specs.Brake.{scaled_component, scaled_action, share_left, brake_factor, brake_action}
use Rattle.lictor_detect.specs.Factor.{KeepsNan, WithoutShare, FactorTold}

zero_number : Number zero_float
unfolding is_nan
zero_number = tt

-- a NaN or an infinity times 0, and times 0 x dt, is a NaN
times_zero : (x : Float) → finite x ≡ false → mul binary64 x zero_float ≡ nan
unfolding mul
times_zero nan e = refl
times_zero (inf s) e = refl
times_zero (fin s m d) e = absurd (true≢false e)

times_nan : (x : Float) → mul binary64 x nan ≡ nan
unfolding mul
times_nan nan = refl
times_nan (inf s) = refl
times_nan (fin s m d) = refl

-- 0 times a finite number is a zero
zero_times : (s : Bool) (m : ℕ) (d : ℤ) → mul binary64 zero_float (fin s m d) ≡ fin (unlike false s) 0 (pos 0)
unfolding mul round
zero_times s m d =
    round_same binary64 (unlike false s) (0 * up (pos 0) * (m * up d)) (down (pos 0) * down d) 0 1 (mul-pos (down_pos (pos 0)) (down_pos d)) (omega arith) (simp zero-mul)

times_zero_step : (x dt : Float) → finite x ≡ false → mul binary64 x (mul binary64 zero_float dt) ≡ nan
unfolding mul
times_zero_step x nan e = times_nan x
times_zero_step x (inf s) e = times_nan x
times_zero_step nan (fin s m d) e = refl
times_zero_step (inf t) (fin s m d) e = ap (mul binary64 (inf t)) (zero_times s m d)
times_zero_step (fin t n c) (fin s m d) e = absurd (true≢false e)

keeps_nan : (k : Float) (vel : List Float) → ((x : Float) → finite x ≡ false → mul binary64 x k ≡ nan) → KeepsNan k vel
unfolding scaled_component
keeps_nan k vel f live c l e = rw (lt-ltb c live l) (f (get_or vel c nan) e)

-- ---- where the share is a NaN
no_factor : (cfg : FuseConfig) (vel : List Float) → share_left cfg vel ≡ nan → brake_factor cfg vel ≡ zero_float
unfolding brake_factor
no_factor cfg vel e = ap (max_of zero_float) e ∙ max_nan zero_float

on_velocity : (cfg : FuseConfig) (p vel : List Float) → cfg.kind ≡ JointVelocity → brake_action cfg p vel ≡ scaled_action cfg vel (brake_factor cfg vel)
unfolding brake_action
on_velocity cfg p vel k = rw k

on_delta : (cfg : FuseConfig) (p vel : List Float) → cfg.kind ≡ EeDelta → brake_action cfg p vel ≡ scaled_action cfg vel (mul binary64 (brake_factor cfg vel) cfg.dt)
unfolding brake_action
on_delta cfg p vel k = rw k

without_share : (cfg : FuseConfig) (vel : List Float) → share_left cfg vel ≡ nan → WithoutShare cfg vel
without_share cfg vel e = record {
  factor = no_factor cfg vel e;
  velocity = λ p k. on_velocity cfg p vel k ∙ ap (scaled_action cfg vel) (no_factor cfg vel e);
  delta = λ p k. on_delta cfg p vel k ∙ ap (λ x. scaled_action cfg vel (mul binary64 x cfg.dt)) (no_factor cfg vel e);
  velocity_nan = keeps_nan zero_float vel times_zero;
  delta_nan = keeps_nan (mul binary64 zero_float cfg.dt) vel (λ x. times_zero_step x cfg.dt);
}

-- ---- the claim
pub factor_told : (cfg : FuseConfig) (vel : List Float) → FactorTold cfg vel
unfolding brake_factor
factor_told cfg vel = record {
  number = max_number_first zero_float (share_left cfg vel) zero_number;
  not_below_lem = max_above_first zero_float (share_left cfg vel);
  as_rust = max_as_rust zero_float (share_left cfg vel);
  without = without_share cfg vel;
}
