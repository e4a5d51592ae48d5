-- Every setter of specs/Fields changes its field and no other (specs/Setters). Assumes nothing.
use mathlib.Core.Path.{refl}
use Rattle.lictor_table.specs.Setters.{Setters}

pub setters : Setters
setters = record {
  window = record { got = λ x r. refl; kept = λ r. refl; last = λ x y r. refl };
  state = record { got = λ x r. refl; kept = λ r. refl; last = λ x y r. refl };
  hold = record { got = λ x r. refl; kept = λ r. refl; last = λ x y r. refl };
  clean_run = record { got = λ x r. refl; kept = λ r. refl; last = λ x y r. refl };
  clamp_streak = record { got = λ x r. refl; kept = λ r. refl; last = λ x y r. refl };
  clamps = record { got = λ x r. refl; kept = λ r. refl; last = λ x y r. refl };
  brake_ticks = record { got = λ x r. refl; kept = λ r. refl; last = λ x y r. refl };
  stopped_ticks = record { got = λ x r. refl; kept = λ r. refl; last = λ x y r. refl };
  held_ticks = record { got = λ x r. refl; kept = λ r. refl; last = λ x y r. refl };
  held_clean = record { got = λ x r. refl; kept = λ r. refl; last = λ x y r. refl };
  escalated_ticks = record { got = λ x r. refl; kept = λ r. refl; last = λ x y r. refl };
  rearms = record { got = λ x r. refl; kept = λ r. refl; last = λ x y r. refl };
  handoff_seq = record { got = λ x r. refl; kept = λ r. refl; last = λ x y r. refl };
  handoff_pending = record { got = λ x r. refl; kept = λ r. refl; last = λ x y r. refl };
  nonces = record { got = λ x r. refl; kept = λ r. refl; last = λ x y r. refl };
}
