-- The brake factor is a number, whatever the velocity and the settings are (request 2).
-- Proved in proofs/Factor, `factor_told`.
use Rattle.std.specs.Prelude.{◌≡◌, false, List, ℕ, ◌<◌, get_or, Float}
use Rattle.std.specs.Float.{nan, binary64}
use Rattle.std.specs.Float.Ieee.{mul, lt}
use Rattle.std.specs.Float.Ieee.Scale.{finite}
use Rattle.fmath.specs.Rank.{Number}
use Rattle.fmath.specs.Larger.{rust_max}
use Rattle.lictor_core.specs.declared.chunk.ActionKind.TheVariants.{EeDelta, JointVelocity}
use Rattle.lictor_core.specs.declared.envelope.FuseConfig.{FuseConfig}
use Rattle.lictor_core.specs.Initial.{zero_float}
use Rattle.lictor_detect.specs.Brake.{scaled_component, scaled_action, share_left, brake_factor, brake_action}

-- with the factor k, a component of the velocity that is a NaN or infinite gives a NaN
abbrev pub KeepsNan : Float → List Float → Type 0
KeepsNan k vel = (live c : ℕ) → c < live → finite (get_or vel c nan) ≡ false → scaled_component vel k live c ≡ nan

-- where the share is a NaN: the velocity times 0, and for EeDelta times 0 x dt
pub record WithoutShare (cfg : FuseConfig) (vel : List Float) : Type 0 where
  pub factor : brake_factor cfg vel ≡ zero_float
  pub velocity : (p : List Float) → cfg.kind ≡ JointVelocity → brake_action cfg p vel ≡ scaled_action cfg vel zero_float
  pub delta : (p : List Float) → cfg.kind ≡ EeDelta → brake_action cfg p vel ≡ scaled_action cfg vel (mul binary64 zero_float cfg.dt)
  pub velocity_nan : KeepsNan zero_float vel
  pub delta_nan : KeepsNan (mul binary64 zero_float cfg.dt) vel

-- ---- the claim

pub record FactorTold (cfg : FuseConfig) (vel : List Float) : Type 0 where
  -- a number, and not below 0
  pub number : Number (brake_factor cfg vel)
  pub not_below_lem : lt (brake_factor cfg vel) zero_float ≡ false
  -- the Rust's where the share is a number, and 0 where it is a NaN
  pub as_rust : Number (share_left cfg vel) → brake_factor cfg vel ≡ rust_max zero_float (share_left cfg vel)
  pub without : share_left cfg vel ≡ nan → WithoutShare cfg vel
