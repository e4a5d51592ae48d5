-- The lines of a page (02-change-requests.md, Ask 1): a row of six columns for each tick, and the
-- line with the page's number.
use Rattle.std.specs.Prelude.{ℕ, ◌^◌, ◌<◌, List, [], ◌∷◌, ◌++◌, ◌≡◌, length}
use Rattle.text.specs.Ascii.{ascii}
use Rattle.text.specs.Line.{line_room}
use Rattle.text.specs.Memory.{place_with, memory_with}
use Rattle.text.specs.Number.{decimal_of}
use Rattle.text.specs.Column.{Side, at_right, at_left, Column, right, left, row_of, cut, unblanked}
use Rattle.text.specs.Words.{word_at}
use Rattle.lictor_core.specs.Codes.{state_code, reason_code}
use Rattle.lictor_core.specs.declared.verdict.SafetyVerdict.{SafetyVerdict}
use Rattle.margin.specs.Margin.{margin_of}
use Rattle.report.specs.Lines.{margin_text, tick_text}
use Rattle.page_text.specs.Names.{state_name, state_named}

-- the characters of each line of a page, without its newline
abbrev pub page_width : ℕ
page_width = 55

abbrev pub column : ℕ → Side → List ℕ → Column
column w a s = record { width = w; side = a; text = s }

-- seq, t, state, reason, trips, margin
abbrev pub tick_columns : SafetyVerdict → List Column
tick_columns v =
    column 10 at_right (decimal_of v.seq)
    ∷ column 10 at_right (decimal_of v.t)
    ∷ column 10 at_left (state_name v.state)
    ∷ column 2 at_right (decimal_of (reason_code v.reason))
    ∷ column 10 at_right (decimal_of v.trips)
    ∷ column 8 at_right (margin_text (margin_of v.brake_margin))
    ∷ []

unfoldable pub tick_row : SafetyVerdict → List ℕ
tick_row v = row_of (tick_columns v)

-- `page ` and the number at the right of 10, padded with blanks
unfoldable pub page_row : ℕ → List ℕ
page_row n = left page_width (ascii "page " ++ right 10 (decimal_of n))

-- a row as a line, with its newline
abbrev pub as_line : List ℕ → List ℕ
as_line row = row ++ ascii "\n"

-- the numbers of a verdict fit their types, as those of each verdict that the code holds
pub record Fitting (v : SafetyVerdict) : Type 0 where
  pub seq : v.seq < 2 ^ 32
  pub t : v.t < 2 ^ 32
  pub trips : v.trips < 2 ^ 32

-- ---- reading back

-- what is in a column of a tick's row, without blanks
abbrev pub field_at : ℕ → ℕ → SafetyVerdict → List ℕ
field_at i n v = unblanked (cut i n (tick_row v))

-- each field of the row is a word of the line that `fuse` prints: tick, seq, t, state, reason,
-- trips, action source, margin
pub record ReadBack (v : SafetyVerdict) : Type 0 where
  pub seq : field_at 0 10 v ≡ word_at 1 (tick_text v)
  pub t : field_at 11 10 v ≡ word_at 2 (tick_text v)
  pub state : decimal_of (state_code (state_named (field_at 22 10 v))) ≡ word_at 3 (tick_text v)
  pub reason : field_at 33 2 v ≡ word_at 4 (tick_text v)
  pub trips : field_at 36 10 v ≡ word_at 5 (tick_text v)
  pub margin : field_at 47 8 v ≡ word_at 7 (tick_text v)

-- ---- in memory

-- the row of a tick, put after the first n bytes: where it ends, the bytes then, and its width
pub record RowShown (v : SafetyVerdict) (out : List ℕ) (n r : ℕ) (out' : List ℕ) : Type 0 where
  pub ends : r ≡ place_with line_room (length out) n (as_line (tick_row v))
  pub memory : out' ≡ memory_with line_room out n (as_line (tick_row v))
  pub width : length (tick_row v) ≡ page_width

-- the same of the line with a page's number
pub record PageShown (number : ℕ) (out : List ℕ) (n r : ℕ) (out' : List ℕ) : Type 0 where
  pub ends : r ≡ place_with line_room (length out) n (as_line (page_row number))
  pub memory : out' ≡ memory_with line_room out n (as_line (page_row number))
