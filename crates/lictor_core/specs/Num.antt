-- Counts of a given width (01-scope.md, Rust forms that need another form): saturating_add and
-- wrapping_add in fsm.rs, fuse.rs and tally.rs.
use Rattle.std.specs.Prelude.{ℕ, ◌+◌, ◌-◌, ◌%◌, ◌^◌, min}

-- one more, up to the largest number of k bits (saturating_add)
abbrev pub sat_up : ℕ → ℕ → ℕ
sat_up k x = min (x + 1) (2 ^ k - 1)

-- one more, from the largest number of k bits to 0 (wrapping_add)
abbrev pub wrap_up : ℕ → ℕ → ℕ
wrap_up k x = (x + 1) % 2 ^ k
