-- What the reader does with a wide record whose NaNs are quiet: what it does with the record. By
-- kind: settings, value, outcome, width; the others have no floats.
use Rattle.std.proofs.Common.{Ok, Err}
use Prim.Native.Nat.{ℕ, ◌≤◌}
use mathlib.Core.Path.{◌≡◌, refl, sym, ap, subst, ◌∙◌}
use mathlib.Core.Bool.{Bool, true, false}
use mathlib.Core.List.{List, [], ◌∷◌}
use native.Mathlib.Omega.{arith}
use lib.Dec.{eqb}
use lib.ListN.{length}
use lib.Ieee.{Float}
use borrow.Author.Tests.{eqb-true, eqb-false}
use Rattle.lictor_core.specs.FirstThat.{first_that}
use Rattle.lictor_core.specs.declared.envelope.Settings.{Settings}
use Rattle.lictor_core.specs.declared.outcome.Outcome.{Outcome}
use Rattle.journal_records.specs.Kinds.{settings_kind, value_kind, outcome_kind, width_kind}
use Rattle.journal_records.specs.Little.{byte_at, float_at}
use Rattle.journal_records.specs.Body.{decode_of}
use Rattle.journal_records.specs.Long.{limits_of, calibration_of, settings_of, scores_in, outcome_of}
use Rattle.journal_refusals.specs.declared.Seen.{Seen}
use Rattle.journal_refusals.specs.Causes.{before_settings, again, code_not_listed, size_outside, float_outside, box_crossed, list_full, not_ready}
use Rattle.journal_refusals.specs.Table.{Judged, order_rows, content_rows, whole_rows, whole_of}
use Rattle.journal_reader.specs.State.{State, seen_in}
use Rattle.journal_reader.specs.Reading.{on_record, on_judged, on_whole}
use Rattle.journal_forms.specs.declared.Form.TheVariants.{Wide}
use Rattle.journal_forms.specs.declared.body.Run.{Run}
use Rattle.journal_forms.specs.Forms.{run, runs_of}
use Rattle.journal_forms.specs.Body.{floats_in, floats_to, runs_bytes, body_to}
use Rattle.journal_forms.proofs.Tables.{NoFloats, no_floats}
use Rattle.form_claims.proofs.Places.{quiet, is_copied, are_copied, is_float, are_floats, SamePlaces, same_places}

-- ---- the long bodies

settings_same : (s t : List ℕ) → SamePlaces (runs_of settings_kind) s t → settings_of t ≡ settings_of s
unfolding settings_of limits_of calibration_of runs_of is_copied are_copied is_float are_floats
settings_same s t e =
    rw (
      e.byte 0 refl,
      e.byte 1 refl,
      e.byte 2 refl,
      e.byte 3 refl,
      e.byte 4 refl,
      e.byte 5 refl,
      e.byte 6 refl,
      e.byte 7 refl,
      e.byte 8 refl,
      e.byte 9 refl,
      e.byte 10 refl,
      e.byte 11 refl,
      e.number 12 2 refl,
      e.number 14 2 refl,
      e.number 16 2 refl,
      e.number 18 2 refl,
      e.number 20 2 refl,
      e.number 22 2 refl,
      e.number 24 4 refl,
      e.number 28 4 refl,
      e.number 32 4 refl,
      e.number 36 8 refl,
      e.float 44 refl,
      e.float 52 refl,
      e.float 60 refl,
      e.float 68 refl,
      e.float 76 refl,
      e.float 84 refl,
      e.floats 92 8 refl,
      e.floats 156 8 refl,
    )
    refl

outcome_same : (s t : List ℕ) → SamePlaces (runs_of outcome_kind) s t → outcome_of t ≡ outcome_of s
unfolding outcome_of scores_in runs_of is_copied are_copied is_float are_floats
outcome_same s t e =
    rw (
      e.number 0 4 refl,
      e.number 4 4 refl,
      e.byte 8 refl,
      e.float 9 refl,
      e.float 17 refl,
      e.number 25 4 refl,
      e.number 29 4 refl,
      e.floats 33 12 refl,
      e.floats 129 8 refl,
      e.floats 193 8 refl,
    )
    refl

-- ---- by kind

-- what the table says, by all that it looks at
module _ (seen : Seen) (s t : List ℕ) where
  settings_judged : settings_of t ≡ settings_of s → whole_of seen settings_kind t ≡ whole_of seen settings_kind s
  unfolding whole_of whole_rows order_rows content_rows first_that before_settings again code_not_listed size_outside float_outside box_crossed list_full not_ready
  settings_judged e = rw e refl

  value_judged : byte_at t 0 ≡ byte_at s 0 → whole_of seen value_kind t ≡ whole_of seen value_kind s
  unfolding whole_of whole_rows order_rows content_rows first_that before_settings again code_not_listed size_outside float_outside box_crossed list_full not_ready
  value_judged e = rw e refl

  outcome_judged : byte_at t 8 ≡ byte_at s 8 → whole_of seen outcome_kind t ≡ whole_of seen outcome_kind s
  unfolding whole_of whole_rows order_rows content_rows first_that before_settings again code_not_listed size_outside float_outside box_crossed list_full not_ready
  outcome_judged e = rw e refl

  width_judged : float_at t 0 ≡ float_at s 0 → whole_of seen width_kind t ≡ whole_of seen width_kind s
  unfolding whole_of whole_rows order_rows content_rows first_that before_settings again code_not_listed size_outside float_outside box_crossed list_full not_ready
  width_judged e = rw e refl

-- what the reader does, by that, by what the record decodes to, and by what it does with that
module _ (st : State) (n : ℕ) (s t : List ℕ) where
  read_by : (k : ℕ) → whole_of (seen_in st) k t ≡ whole_of (seen_in st) k s → decode_of k t ≡ decode_of k s → on_record st t n (decode_of k s) ≡ on_record st s n (decode_of k s) → on_whole st k t n ≡ on_whole st k s n
  unfolding on_whole
  read_by k w d r = rw (w, d) (by (whole_of (seen_in st) k s))
    where
      by : (j : Judged) → on_judged st t n (decode_of k s) j ≡ on_judged st s n (decode_of k s) j
      by (Err x) = refl
      by (Ok _) = r

  read_settings : settings_of t ≡ settings_of s → on_whole st settings_kind t n ≡ on_whole st settings_kind s n
  unfolding decode_of on_record
  read_settings e = read_by settings_kind (settings_judged (seen_in st) s t e) refl (rw e refl)

  read_value : byte_at t 0 ≡ byte_at s 0 → float_at t 1 ≡ float_at s 1 → on_whole st value_kind t n ≡ on_whole st value_kind s n
  unfolding decode_of on_record
  read_value e f = read_by value_kind (value_judged (seen_in st) s t e) (rw (e, f) refl) refl

  read_outcome : byte_at t 8 ≡ byte_at s 8 → outcome_of t ≡ outcome_of s → on_whole st outcome_kind t n ≡ on_whole st outcome_kind s n
  unfolding decode_of on_record
  read_outcome e f = read_by outcome_kind (outcome_judged (seen_in st) s t e) refl (rw f refl)

  read_width : float_at t 0 ≡ float_at s 0 → on_whole st width_kind t n ≡ on_whole st width_kind s n
  unfolding decode_of on_record
  read_width e = read_by width_kind (width_judged (seen_in st) s t e) (rw e refl) refl

-- without floats nothing changes
all_copied : (s : List ℕ) → quiet (run 0 0 ∷ run 0 0 ∷ []) s ≡ s
unfolding body_to floats_in floats_to
all_copied s = refl

-- a record of kind k is read as before
abbrev ReadAs : ℕ → Type 0
ReadAs k = (st : State) (s : List ℕ) (n : ℕ) → runs_bytes Wide (runs_of k) ≤ length s → on_whole st k (quiet (runs_of k) s) n ≡ on_whole st k s n

settings_read : ReadAs settings_kind
settings_read st s n h = read_settings st n s (quiet (runs_of settings_kind) s) (settings_same s (quiet (runs_of settings_kind) s) (same_places (runs_of settings_kind) s h))

value_read : ReadAs value_kind
unfolding is_copied is_float runs_of
value_read st s n h = let e = same_places (runs_of value_kind) s h in read_value st n s (quiet (runs_of value_kind) s) (e.byte 0 refl) (e.float 1 refl)

outcome_read : ReadAs outcome_kind
unfolding is_copied runs_of
outcome_read st s n h =
    let e = same_places (runs_of outcome_kind) s h in
    read_outcome st n s (quiet (runs_of outcome_kind) s) (e.byte 8 refl) (outcome_same s (quiet (runs_of outcome_kind) s) e)

width_read : ReadAs width_kind
unfolding is_float runs_of
width_read st s n h = let e = same_places (runs_of width_kind) s h in read_width st n s (quiet (runs_of width_kind) s) (e.float 0 refl)

-- ---- of every kind

pub read_as : (k : ℕ) → ReadAs k
read_as k = by_settings (eqb k settings_kind) refl
  where
    at : (kind : ℕ) → eqb k kind ≡ true → ReadAs kind → ReadAs k
    at kind e r = subst ReadAs (sym (eqb-true k kind e)) r

    none : NoFloats k → ReadAs k
    none f st s n h = ap (λ (rs : List Run). on_whole st k (quiet rs s) n) (sym (no_floats k f)) ∙ ap (λ (t : List ℕ). on_whole st k t n) (all_copied s)

    by_width : (x : Bool) → eqb k width_kind ≡ x → (k ≡ settings_kind → ⊥) → (k ≡ value_kind → ⊥) → (k ≡ outcome_kind → ⊥) → ReadAs k
    by_width true e a b c = at width_kind e width_read
    by_width false e a b c = none (record { settings = a; value = b; outcome = c; width = eqb-false k width_kind e })

    by_outcome : (x : Bool) → eqb k outcome_kind ≡ x → (k ≡ settings_kind → ⊥) → (k ≡ value_kind → ⊥) → ReadAs k
    by_outcome true e a b = at outcome_kind e outcome_read
    by_outcome false e a b = by_width (eqb k width_kind) refl a b (eqb-false k outcome_kind e)

    by_value : (x : Bool) → eqb k value_kind ≡ x → (k ≡ settings_kind → ⊥) → ReadAs k
    by_value true e a = at value_kind e value_read
    by_value false e a = by_outcome (eqb k outcome_kind) refl a (eqb-false k value_kind e)

    by_settings : (x : Bool) → eqb k settings_kind ≡ x → ReadAs k
    by_settings true e = at settings_kind e settings_read
    by_settings false e = by_value (eqb k value_kind) refl (eqb-false k settings_kind e)
