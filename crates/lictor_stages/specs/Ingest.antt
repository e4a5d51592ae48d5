-- Stage 1 (01-scope.md, One tick; fuse.rs, INGEST): the position and the velocity that a tick
-- takes.
use Rattle.std.specs.Prelude.{Bool, true, cond, List, ℕ, min, get_or, Float}
use Rattle.std.specs.Float.{nan, binary64}
use Rattle.std.specs.Float.Ieee.{sub, mul}
use Rattle.lictor_core.specs.declared.envelope.FuseConfig.{FuseConfig}
use Rattle.lictor_core.specs.declared.fuse.Motion.{Motion}
use Rattle.lictor_core.specs.Initial.{zero_float}
use Rattle.lictor_core.specs.Rows.{row_to, taken_row}
use Rattle.lictor_core.specs.Sizes.{max_pos}

-- (position - position taken last) * inv_dt, a rounding each
unfoldable pub step_rate : List Float → List Float → Float → ℕ → Float
step_rate p q inv c = mul binary64 (sub binary64 (get_or p c nan) (get_or q c nan)) inv

-- the live components by their steps, the others as they were (fuse.rs, ingest)
unfoldable pub rates_row : FuseConfig → List Float → List Float → List Float → List Float
rates_row cfg p q old = row_to (step_rate p q cfg.inv_dt) old (min cfg.pos_dim max_pos)

abbrev pub at_rest : ℕ → Float
at_rest c = zero_float

-- the live components zero, the others as they were
unfoldable pub still_row : FuseConfig → List Float → List Float
still_row cfg old = row_to at_rest old (min cfg.pos_dim max_pos)

-- the velocity: as supplied; else from the position p and the one taken last, q; else, on the first
-- clean tick, zero
unfoldable pub velocity_of : FuseConfig → Bool → Bool → List Float → List Float → List Float → List Float → List Float
velocity_of cfg has_vel have p q old vel = cond has_vel (taken_row vel old cfg.pos_dim) (cond have (rates_row cfg p q old) (still_row cfg old))

-- a clean tick's motion
unfoldable pub ingest_of : FuseConfig → Motion → Bool → List Float → List Float → Motion
ingest_of cfg m has_vel pos vel = record {
  pos = taken_row pos m.pos cfg.pos_dim;
  prev_pos = m.pos;
  vel = velocity_of cfg has_vel m.have_prev_pos (taken_row pos m.pos cfg.pos_dim) m.pos m.vel vel;
  have_prev_pos = true;
  last_cmd = m.last_cmd;
}
