-- A journal in the other form (02-change-requests.md, Ask 9): record by record, kinds and order
-- kept, to the end of the bytes or the first refusal. Only kinds, lengths and what the other form can
-- hold are judged. `conversion_of Narrow Wide` is what `widen` writes, `conversion_of Wide Narrow` what
-- `narrow` does; from a form to itself it makes each NaN quiet and changes nothing else.
use Rattle.std.specs.Prelude.{Bool, cond, not, List, [], ◌∷◌, ◌++◌, ℕ, ◌+◌, ◌-◌, ltb, length, get_or, take, drop, Float}
use Rattle.lictor_core.specs.FirstThat as First
use Rattle.lictor_core.specs.FirstThat.{refuse◌when◌, first_that}
use Rattle.stream.specs.Stream.{Next, halt, tell, End, awaits, halted, settled}
use Rattle.journal_frames.specs.Frames.{is_known, body_len, OnWhole, by_frames, Framed, on_frames, bytes_of}
use Rattle.journal_forms.specs.declared.Form.{Form}
use Rattle.journal_forms.specs.declared.Form.TheVariants.{Wide, Narrow}
use Rattle.journal_forms.specs.declared.Cause.{Cause}
use Rattle.journal_forms.specs.declared.Cause.TheVariants.{UnknownKind, CutBody, NotHeld}
use Rattle.journal_forms.specs.Forms.{kinds_of, runs_of}
use Rattle.journal_forms.specs.Body.{body_floats, body_to, body_held}

-- ---- one record

-- a record of form a in form b
abbrev pub turned : Form → Form → Framed → Framed
turned a b f = record { kind = f.kind; body = body_to a b (runs_of f.kind) f.body }

-- a whole record is told in form b, where that holds its floats
unfoldable pub turns : Form → Form → OnWhole (Unit {0}) Framed Cause
turns a b r k body n =
    cond (body_held a b (runs_of k) body) (tell r n (turned a b (record { kind = k; body = body }))) (halt NotHeld)

unfoldable pub on_form : Form → Form → Unit {0} → List ℕ → Next (Unit {0}) Framed Cause
on_form a b = by_frames (kinds_of a) UnknownKind (turns a b)

-- ---- a whole journal

-- how it ends: at the end of the input, or with a refusal, at the place of its record's kind byte
pub data Ending : Type 0 where
  ended : Ending
  refused : Cause → ℕ → Ending

-- at place p, with these bytes left: a record whose body the end cuts is refused too
abbrev pub ending_of : ℕ → List ℕ → End Cause → Ending
ending_of p [] awaits = ended
ending_of p (k ∷ s) awaits = refused CutBody p
ending_of p s (halted c) = refused c p

pub record Conversion : Type 0 where
  pub records : List Framed
  pub ending : Ending

unfoldable pub conversion_of : Form → Form → List ℕ → Conversion
conversion_of a b s =
    let m = settled (on_form a b) tt s in
    record { records = m.told; ending = ending_of (length s - length m.rest) m.rest m.end }

-- the bytes that are written
abbrev pub converted_bytes : Form → Form → List ℕ → List ℕ
converted_bytes a b s = bytes_of (conversion_of a b s).records

-- ---- the refusals

abbrev pub number_of : Cause → ℕ
number_of UnknownKind = 5
number_of CutBody = 6
number_of NotHeld = 11

-- the numbers that the conversion from a form to the other can give: only `narrow` has 11
abbrev pub numbers_from : Form → List ℕ
numbers_from Wide = 5 ∷ 6 ∷ 11 ∷ []
numbers_from Narrow = 5 ∷ 6 ∷ []

-- a cause goes by the kind and by the body as far as it came
abbrev pub Row : Type 0
Row = First.Row Cause (ℕ → List ℕ → Bool)

-- the table, in the order of the tests; the first row that applies decides
unfoldable pub causes : Form → Form → List Row
causes a b =
    refuse UnknownKind when (λ k body. not (is_known (kinds_of a) k))
    ∷ refuse CutBody when (λ k body. ltb (length body) (body_len (kinds_of a) k))
    ∷ refuse NotHeld when (λ k body. not (body_held a b (runs_of k) body))
    ∷ []

-- nothing, or why the record is refused
pub data Judged : Type 0 where
  taken : Judged
  refused_for : Cause → Judged

unfoldable pub judged_of : Form → Form → ℕ → List ℕ → Judged
judged_of a b k body = first_that (λ w. w.cause k body) (λ w. refused_for w.answer) taken (causes a b)

-- of the record whose kind byte is at place p
abbrev pub judged_at : Form → Form → List ℕ → ℕ → Judged
judged_at a b s p = let k = get_or s p 0 in judged_of a b k (take (body_len (kinds_of a) k) (drop (p + 1) s))

-- ---- the floats of a journal: those of its whole records

unfoldable pub records_floats : Form → List Framed → List Float
records_floats a [] = []
records_floats a (f ∷ fs) = body_floats a (runs_of f.kind) f.body ++ records_floats a fs

abbrev pub records_in : Form → List ℕ → List Framed
records_in a s = (settled (on_frames (kinds_of a)) tt s).told

abbrev pub floats_of : Form → List ℕ → List Float
floats_of a s = records_floats a (records_in a s)
