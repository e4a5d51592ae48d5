-- The brake and the hold action (01-scope.md, Modules 5; brake.rs). A row has max_d places; the
-- action's components are the first dim, the position's and the velocity's the first pos_dim, and
-- the two numbers need not agree.
use Rattle.std.specs.Prelude.{false, cond, List, ℕ, min, ◌^◌, ltb, get_or, Float}
use Rattle.std.specs.Float.{nan, binary64}
use Rattle.std.specs.Float.Ieee.{round, add, sub, mul, div}
use Rattle.fmath.specs.Float.{max_of, clamp_of, norm_of}
use Rattle.lictor_core.specs.declared.envelope.FuseConfig.{FuseConfig}
use Rattle.lictor_core.specs.Cases.{by_kind}
use Rattle.lictor_core.specs.Initial.{zero_float, one_float, zeros}
use Rattle.lictor_core.specs.Rows.{row_to}
use Rattle.lictor_core.specs.Sizes.{max_d}

-- component c of a row of which the first `live` count; 0 past them
unfoldable pub component : List Float → ℕ → ℕ → Float
component row live c = cond (ltb c live) (get_or row c nan) zero_float

-- component c clamped to its side of the box
unfoldable pub boxed_component : List Float → List Float → List Float → ℕ → ℕ → Float
boxed_component row lo hi live c = clamp_of (component row live c) (get_or lo c nan) (get_or hi c nan)

-- the first n components, each clamped to its side of the box; 0 past them
unfoldable pub boxed_row : List Float → List Float → List Float → ℕ → ℕ → List Float
boxed_row row lo hi live n = row_to (boxed_component row lo hi live) (zeros max_d) n

-- component c times k, for the components that count
unfoldable pub scaled_component : List Float → Float → ℕ → ℕ → Float
scaled_component row k live c = cond (ltb c live) (mul binary64 (get_or row c nan) k) zero_float

-- the first n components times k; 0 past them
unfoldable pub scaled_row : List Float → Float → ℕ → ℕ → List Float
scaled_row row k live n = row_to (scaled_component row k live) (zeros max_d) n

-- a row clamped to the box, over the live components (brake.rs)
unfoldable pub boxed_action : FuseConfig → List Float → List Float
boxed_action cfg row = boxed_row row cfg.box_lo cfg.box_hi cfg.pos_dim (min cfg.dim max_d)

-- the velocity times a factor, over the live components (brake.rs)
unfoldable pub scaled_action : FuseConfig → List Float → Float → List Float
scaled_action cfg vel k = scaled_row vel k cfg.pos_dim (min cfg.dim max_d)

-- 1e-9, rounded to the nearest double
unfoldable pub eps : Float
eps = round binary64 false 1 (10 ^ 9)

-- 1 - a_max * dt / (norm + 1e-9), rounded at each operation: the share of the velocity that is left
-- after a tick; the norm is over the components that both the action and the velocity have
unfoldable pub share_left : FuseConfig → List Float → Float
share_left cfg vel =
    sub binary64 one_float
    (div binary64 (mul binary64 cfg.a_max cfg.dt) (add binary64 (norm_of vel (min (min cfg.dim max_d) cfg.pos_dim)) eps))

-- the larger of 0 and that share; 0 where the share is a NaN
unfoldable pub brake_factor : FuseConfig → List Float → Float
brake_factor cfg vel = max_of zero_float (share_left cfg vel)

-- brake_action: EePosition, JointPosition and Other stay at the position; JointVelocity ramps the
-- velocity down; EeDelta too, as a step of dt
unfoldable pub brake_action : FuseConfig → List Float → List Float → List Float
brake_action cfg p vel =
    by_kind cfg.kind (boxed_action cfg p) (scaled_action cfg vel (mul binary64 (brake_factor cfg vel) cfg.dt)) (boxed_action cfg p)
    (scaled_action cfg vel (brake_factor cfg vel)) (boxed_action cfg p)

-- hold_action: position kinds hold the latched point, clamped again; velocity kinds command zero
unfoldable pub hold_action : FuseConfig → List Float → List Float
hold_action cfg hold = by_kind cfg.kind (boxed_action cfg hold) (zeros max_d) (boxed_action cfg hold) (zeros max_d) (boxed_action cfg hold)
