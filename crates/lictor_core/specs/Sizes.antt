-- The sizes of the port (01-scope.md, the first paragraph), each said once; the constants of the
-- code are in chunk, envelope, scores and verdict.
use Rattle.std.specs.Prelude.{ℕ}

-- components of an action, at most (MAX_D)
abbrev pub max_d : ℕ
max_d = 8

-- components of a position, at most (MAX_POS): as many, so that a row of either has one type
abbrev pub max_pos : ℕ
max_pos = max_d

-- rows of a chunk, at most (MAX_H)
abbrev pub max_horizon : ℕ
max_horizon = 64

-- auxiliary values, at most (MAX_AUX)
abbrev pub max_aux : ℕ
max_aux = 8

-- external values, at most (MAX_EXT)
abbrev pub max_ext : ℕ
max_ext = 4

-- operator slots (MAX_OPERATORS)
abbrev pub operators : ℕ
operators = 8

-- features that are scored (NFEAT)
abbrev pub features : ℕ
features = 12

-- trip bits (TRIP_BITS)
abbrev pub trip_bits : ℕ
trip_bits = 16
