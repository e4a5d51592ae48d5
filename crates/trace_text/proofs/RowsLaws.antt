-- A name, a value and a newline, pushed one after the other, are a line.
use Prim.Native.Nat.{ℕ}
use mathlib.Core.Path.{◌≡◌, ap}
use mathlib.Core.List.{List, [], ◌∷◌, ◌++◌, append_assoc}
use Rattle.text.specs.Line.{line_of, push_of}
use Rattle.text.proofs.Lines.{push_line}
use Rattle.trace_text.specs.Row.{row}

pub is_row : (name value : List ℕ) → push_of (push_of (push_of (line_of []) name) value) (10 ∷ []) ≡ line_of (row name value)
unfolding row
is_row name value = rw (push_line [] name, push_line name value, push_line (name ++ value) (10 ∷ [])) (ap line_of (append_assoc name value (10 ∷ [])))
