-- The two forms of a journal (01-scope.md, Journal; 02-change-requests.md, Ask 9): the wide form
-- has binary64 for each float, the narrow one binary32, and all else is the same bytes. How long the
-- bodies of each form are, and where their floats are, are tables.
use Rattle.std.specs.Prelude.{cond, List, [], ◌∷◌, ℕ, eqb}
use Rattle.std.specs.Float.{Format, binary32, binary64}
use Rattle.journal_records.specs.Kinds.{journal_kinds, settings_kind, value_kind, outcome_kind, width_kind}
use Rattle.journal_forms.specs.declared.Form.{Form}
use Rattle.journal_forms.specs.declared.Form.TheVariants.{Wide, Narrow}
use Rattle.journal_forms.specs.declared.body.Run.{Run}

abbrev pub other : Form → Form
other Wide = Narrow
other Narrow = Wide

-- the format of its floats, and how many bytes each has
abbrev pub format_of : Form → Format
format_of Wide = binary64
format_of Narrow = binary32

abbrev pub float_bytes : Form → ℕ
float_bytes Wide = 8
float_bytes Narrow = 4

-- ---- how long the bodies are

-- settings, reset, ack, chunk head, value, outcome, tick, width
abbrev pub narrow_kinds : List ℕ
narrow_kinds = 132 ∷ 0 ∷ 14 ∷ 14 ∷ 5 ∷ 137 ∷ 9 ∷ 4 ∷ []

abbrev pub kinds_of : Form → List ℕ
kinds_of Wide = journal_kinds
kinds_of Narrow = narrow_kinds

-- no record of either form, kind byte and body, has more bytes than this
abbrev pub record_most : ℕ
record_most = 258

-- ---- where their floats are

-- so many bytes that are no float, and then so many floats
abbrev pub run : ℕ → ℕ → Run
run copied floats = record { copied = copied; floats = floats }

-- A body is two runs, and after them bytes that are no float. Settings have 44 bytes before their
-- floats, a value its list's code; an outcome has trips, clamped_dims and the feasible flag before
-- margin and s, and valid and fired before z and the two rows; a width is a float. The other kinds
-- have none.
unfoldable pub runs_of : ℕ → List Run
runs_of k =
    cond (eqb k settings_kind) (run 44 22 ∷ run 0 0 ∷ [])
    (cond (eqb k value_kind) (run 1 1 ∷ run 0 0 ∷ [])
    (cond (eqb k outcome_kind) (run 9 2 ∷ run 8 28 ∷ [])
    (cond (eqb k width_kind) (run 0 1 ∷ run 0 0 ∷ [])
    (run 0 0 ∷ run 0 0 ∷ []))))
