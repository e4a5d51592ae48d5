-- The kinds of a journal (01-scope.md, Journal; kind 8: 02-change-requests.md, Ask 7), and how long
-- their bodies are. The framing takes any such list (journal_frames, specs/Frames); this is the one
-- of the papers.
use Rattle.std.specs.Prelude.{List, [], ◌∷◌, ℕ, cond, eqb, Result, Ok, Err}
use Rattle.journal_records.specs.declared.Kind.{Kind}
use Rattle.journal_records.specs.declared.Kind.TheVariants.{Settings, Reset, Ack, Head, Value, Outcome, Tick, Width}
use Rattle.lictor_core.specs.declared.code.Unlisted.{Unlisted}

-- settings, reset, ack, chunk head, value, outcome, tick, width
abbrev pub journal_kinds : List ℕ
journal_kinds = 220 ∷ 0 ∷ 14 ∷ 14 ∷ 9 ∷ 257 ∷ 9 ∷ 8 ∷ []

abbrev pub settings_kind : ℕ
settings_kind = 1

abbrev pub reset_kind : ℕ
reset_kind = 2

abbrev pub ack_kind : ℕ
ack_kind = 3

abbrev pub head_kind : ℕ
head_kind = 4

abbrev pub value_kind : ℕ
value_kind = 5

abbrev pub outcome_kind : ℕ
outcome_kind = 6

abbrev pub tick_kind : ℕ
tick_kind = 7

abbrev pub width_kind : ℕ
width_kind = 8

-- the kind of a number
unfoldable pub kind_of : ℕ → Result Kind Unlisted
kind_of k =
    cond (eqb k settings_kind) (Ok Settings)
    (cond (eqb k reset_kind) (Ok Reset)
    (cond (eqb k ack_kind) (Ok Ack)
    (cond (eqb k head_kind) (Ok Head)
    (cond (eqb k value_kind) (Ok Value)
    (cond (eqb k outcome_kind) (Ok Outcome)
    (cond (eqb k tick_kind) (Ok Tick)
    (cond (eqb k width_kind) (Ok Width)
    (Err (record { 0 = k })))))))))
