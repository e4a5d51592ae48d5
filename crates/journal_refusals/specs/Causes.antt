-- The causes that refuse a record (01-scope.md, Journal, the table, in its order; of a width
-- 02-change-requests.md, Ask 7). A cause looks at what has been seen, at the record's kind and at
-- its body as far as it came, and at nothing else: at no run state, at no value of a list (at their
-- counts only) and at no byte after the record.
use Rattle.std.specs.Prelude.{Bool, false, cond, not, ◌&&◌, ◌||◌, List, [], ◌∷◌, ℕ, eqb, ltb, leb, length, get_or, Float}
use Rattle.std.specs.Float.Ieee.{lt}
use Rattle.std.specs.Float.Ieee.Scale.{finite}
use Rattle.lictor_core.specs.Codes.{decisions, flags}
use Rattle.lictor_core.specs.Initial.{zero_float}
use Rattle.journal_records.specs.Little.{byte_at, float_at}
use Rattle.lictor_settings.specs.Settings.{bad_code, bad_size, bad_float, bad_box}
use Rattle.journal_frames.specs.Frames.{is_known, body_len}
use Rattle.journal_records.specs.Kinds.{settings_kind, ack_kind, head_kind, value_kind, outcome_kind, tick_kind, width_kind}
use Rattle.journal_records.specs.Long.{settings_of}
use Rattle.journal_refusals.specs.declared.Seen.{Seen}

-- the lists of values, by their codes
abbrev pub chunk_list : ℕ
chunk_list = 0

abbrev pub pos_list : ℕ
pos_list = 1

abbrev pub vel_list : ℕ
vel_list = 2

abbrev pub aux_list : ℕ
aux_list = 3

abbrev pub ext_list : ℕ
ext_list = 4

-- how many values the chunk's list can hold, and each of the others
abbrev pub chunk_room : ℕ
chunk_room = 512

abbrev pub list_room : ℕ
list_room = 16

abbrev pub capacities : List ℕ
capacities = chunk_room ∷ list_room ∷ list_room ∷ list_room ∷ list_room ∷ []

-- how many values of list c wait
abbrev pub count_of : Seen → ℕ → ℕ
count_of seen c = get_or seen.counts c 0

-- n is no number from 0 to count - 1: a code or flag of so many cases that is not listed
abbrev pub not_below : ℕ → ℕ → Bool
not_below count n = leb count n

-- a kind that is not listed
unfoldable pub unknown_kind : List ℕ → Seen → ℕ → List ℕ → Bool
unknown_kind kinds seen k b = not (is_known kinds k)

-- a body that the end cuts
unfoldable pub body_cut : List ℕ → Seen → ℕ → List ℕ → Bool
body_cut kinds seen k b = ltb (length b) (body_len kinds k)

-- a record of another kind comes before the settings
unfoldable pub before_settings : Seen → ℕ → List ℕ → Bool
before_settings seen k b = not (eqb k settings_kind) && not seen.settings

-- a second settings record, or a second acknowledgement, head or outcome while one waits; a second
-- width, or one that comes after a reset or a tick
unfoldable pub again : Seen → ℕ → List ℕ → Bool
again seen k b =
    cond (eqb k settings_kind) seen.settings
    (cond (eqb k ack_kind) seen.ack
    (cond (eqb k head_kind) seen.head
    (cond (eqb k outcome_kind) seen.outcome
    (cond (eqb k width_kind) (seen.width || seen.underway)
    false))))

-- a code or flag that is not listed: those of the settings, the decision, the list, the
-- feasible flag, the schema and the velocity flag
unfoldable pub code_not_listed : Seen → ℕ → List ℕ → Bool
code_not_listed seen k b =
    cond (eqb k settings_kind) (bad_code (settings_of b))
    (cond (eqb k ack_kind) (not_below decisions (byte_at b 0))
    (cond (eqb k value_kind) (not_below (length capacities) (byte_at b 0))
    (cond (eqb k outcome_kind) (not_below flags (byte_at b 8))
    (cond (eqb k tick_kind) (not_below flags (byte_at b 7) || not_below flags (byte_at b 8))
    false))))

-- of settings: a size outside its range
unfoldable pub size_outside : Seen → ℕ → List ℕ → Bool
size_outside seen k b = cond (eqb k settings_kind) (bad_size (settings_of b)) false

-- a width that is not finite or below zero; -0 is not below zero
unfoldable pub bad_width : Float → Bool
bad_width w = not (finite w) || lt w zero_float

-- of settings: an infinity or a NaN among the floats, where tau may be infinite; of a width: the
-- same, or a number below zero
unfoldable pub float_outside : Seen → ℕ → List ℕ → Bool
float_outside seen k b =
    cond (eqb k settings_kind) (bad_float (settings_of b))
    (cond (eqb k width_kind) (bad_width (float_at b 0))
    false)

-- of settings: one of the 8 pairs of the box is crossed
unfoldable pub box_crossed : Seen → ℕ → List ℕ → Bool
box_crossed seen k b = cond (eqb k settings_kind) (bad_box (settings_of b)) false

-- a value whose list has no room left
unfoldable pub list_full : Seen → ℕ → List ℕ → Bool
list_full seen k b = cond (eqb k value_kind) (leb (get_or capacities (byte_at b 0) 0) (count_of seen (byte_at b 0))) false

-- of a tick: no outcome waits for it, or values wait that it cannot take (a chunk's with no
-- head, a velocity's with its flag off)
unfoldable pub not_ready : Seen → ℕ → List ℕ → Bool
not_ready seen k b =
    cond (eqb k tick_kind)
    (not seen.outcome || ((ltb 0 (count_of seen chunk_list) && not seen.head) || (ltb 0 (count_of seen vel_list) && eqb (byte_at b 8) 0)))
    false
