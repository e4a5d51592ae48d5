-- The refusal table, in the order of 01-scope.md, Journal; the first row that applies decides.
use Rattle.std.specs.Prelude.{Bool, List, [], ◌∷◌, ◌++◌, ℕ, take, Result, Ok, Err}
use Rattle.lictor_core.specs.FirstThat as First
use Rattle.lictor_core.specs.FirstThat.{refuse◌when◌, first_that}
use Rattle.journal_frames.specs.declared.Frame.{Frame}
use Rattle.journal_frames.specs.declared.Frame.TheVariants.{Waits, Unknown, Whole}
use Rattle.lictor_settings.specs.declared.SettingsFault.{SettingsFault}
use Rattle.lictor_settings.specs.declared.SettingsFault.TheVariants as S
use Rattle.journal_refusals.specs.declared.Seen.{Seen}
use Rattle.journal_refusals.specs.declared.Refusal.{Refusal}
use Rattle.journal_refusals.specs.declared.Refusal.TheVariants.{UnknownKind, CutBody, BeforeSettings, Again, BadCode, BadSize, BadFloat, BoxCrossed, ListFull, NotReady}
use Rattle.journal_refusals.specs.Causes.{unknown_kind, body_cut, before_settings, again, code_not_listed, size_outside, float_outside, box_crossed, list_full, not_ready}

-- the paper's number of each refusal
abbrev pub number_of : Refusal → ℕ
number_of UnknownKind = 5
number_of CutBody = 6
number_of BeforeSettings = 8
number_of Again = 9
number_of BadCode = 1
number_of BadSize = 2
number_of BadFloat = 3
number_of BoxCrossed = 4
number_of ListFull = 7
number_of NotReady = 10

-- they go from 1 to this
abbrev pub last_number : ℕ
last_number = 10

-- of settings that their check refuses
abbrev pub refusal_for : SettingsFault → Refusal
refusal_for S.BadCode = BadCode
refusal_for S.BadSize = BadSize
refusal_for S.NotFinite = BadFloat
refusal_for S.BoxCrossed = BoxCrossed

-- what becomes of a record: it is accepted, or refused for a reason
abbrev pub Judged : Type 0
Judged = Result (Unit {0}) Refusal

abbrev pub Accepted : Judged
Accepted = Ok tt

abbrev pub Refused : Refusal → Judged
Refused r = Err r

-- a row: a cause goes by what has been seen, the kind, and the body as far as it came
abbrev pub Row : Type 0
Row = First.Row Refusal (Seen → ℕ → List ℕ → Bool)

-- the rows about the frame, over the kinds that are listed
unfoldable pub framing_rows : List ℕ → List Row
framing_rows kinds = refuse UnknownKind when unknown_kind kinds ∷ refuse CutBody when body_cut kinds ∷ []

-- those about the order of the records
unfoldable pub order_rows : List Row
order_rows = refuse BeforeSettings when before_settings ∷ refuse Again when again ∷ []

-- and those about what a body holds
unfoldable pub content_rows : List Row
content_rows =
    refuse BadCode when code_not_listed
    ∷ refuse BadSize when size_outside
    ∷ refuse BadFloat when float_outside
    ∷ refuse BoxCrossed when box_crossed
    ∷ refuse ListFull when list_full
    ∷ refuse NotReady when not_ready
    ∷ []

-- the rows about a record of a listed kind that is there whole
unfoldable pub whole_rows : List Row
whole_rows = order_rows ++ content_rows

-- the table
unfoldable pub refusal_table : List ℕ → List Row
refusal_table kinds = framing_rows kinds ++ whole_rows

-- the first row whose cause is there
abbrev pub first_row : List Row → Seen → ℕ → List ℕ → Judged
first_row ws seen k b = first_that (λ w. w.cause seen k b) (λ w. Refused w.answer) Accepted ws

-- what becomes of a record of kind k with body b
unfoldable pub judged_of : List ℕ → Seen → ℕ → List ℕ → Judged
judged_of kinds seen k b = first_row (refusal_table kinds) seen k b

-- the same of a record of a listed kind that is there whole (proofs/Framing: `judged_framed`)
unfoldable pub whole_of : Seen → ℕ → List ℕ → Judged
whole_of seen k b = first_row whole_rows seen k b

-- and of one that is in its order too
unfoldable pub contents_of : Seen → ℕ → List ℕ → Judged
contents_of seen k b = first_row content_rows seen k b

-- ---- by the frame

-- what becomes of a record with these bytes after its kind byte, by what its frame is
abbrev pub framed_as : Seen → List ℕ → Frame → Judged
framed_as seen u Waits = Refused CutBody
framed_as seen u Unknown = Refused UnknownKind
framed_as seen u (Whole k n) = whole_of seen k (take n u)
