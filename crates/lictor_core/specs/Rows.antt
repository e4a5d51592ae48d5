-- A row of which the first places are given by their index: what each loop over an array of the
-- fuse makes.
-- It is in place of the loops by zip and iter_mut of the Rust (01-scope.md, Rust forms that need
-- another form).
use Rattle.std.specs.Prelude.{◌≡◌, ℕ, zero, suc, min, List, length, slice_index_or, slice_set, Float}
use Rattle.std.specs.Float.{nan}
use Rattle.lictor_core.specs.Sizes.{max_pos}

-- `old` with its first n places f 0, f 1, .. f (n - 1)
unfoldable pub row_to : (ℕ → Float) → List Float → ℕ → List Float
row_to f old zero = old
row_to f old (suc k) = slice_set (row_to f old k) k (f k)

-- The same, where `gives i y` says that y may stand at place i: what a call of a function gives.
abbrev pub RowBy : (ℕ → Float → Type 0) → List Float → ℕ → List Float → Type 0
RowBy gives old zero r = r ≡ old
RowBy gives old (suc k) r = (before : List Float) × (y : Float) × RowBy gives old k before × gives k y × (r ≡ slice_set before k y)

abbrev pub place_of : List Float → ℕ → Float
place_of s c = slice_index_or s c nan

-- copy_row: `old` with its first n places from s, as far as s goes and there is room
unfoldable pub taken_row : List Float → List Float → ℕ → List Float
taken_row s old n = row_to (place_of s) old (min (min n max_pos) (length s))
