-- The rows about a body's contents, kind by kind: at a given kind the other kinds' causes are not
-- there.
use Prim.Native.Nat.{ℕ}
use mathlib.Core.Path.{◌≡◌, refl, sym}
use mathlib.Core.Bool.{Bool, true, false, cond, ◌||◌}
use mathlib.Core.List.{List}
use borrow.Author.Tests.{ne_eqb}
use lib.ListN.{length}
use Rattle.lictor_core.specs.Codes.{decisions, flags}
use Rattle.journal_records.specs.Little.{byte_at, float_at}
use Rattle.journal_records.specs.Kinds.{settings_kind, ack_kind, value_kind, outcome_kind, tick_kind, width_kind, kind_of}
use Rattle.std.proofs.Common.{Result, Ok, Err}
use Rattle.journal_records.specs.declared.Kind.{Kind}
use Rattle.journal_records.specs.declared.Kind.TheVariants as K
use Rattle.lictor_core.specs.declared.code.Unlisted.{Unlisted}
use Rattle.journal_records.proofs.Numbered.{KindOf, kind_told}
use Rattle.lictor_settings.specs.declared.SettingsFault.{SettingsFault}
use Rattle.lictor_settings.specs.declared.SettingsFault.TheVariants as S
use Rattle.lictor_core.specs.FirstThat.{first_that}
use Rattle.lictor_settings.specs.Settings.{bad_code, bad_size, bad_float, bad_box, settings_table, check_of}
use Rattle.journal_records.specs.Long.{settings_of}
use Rattle.journal_refusals.specs.declared.Seen.{Seen}
use Rattle.journal_refusals.specs.declared.Refusal.TheVariants.{BeforeSettings, Again, BadCode, BadSize, BadFloat, BoxCrossed, ListFull, NotReady}
use Rattle.journal_refusals.specs.Causes.{before_settings, again, capacities, not_below, code_not_listed, size_outside, bad_width, float_outside, box_crossed, list_full, not_ready}
use Rattle.journal_refusals.specs.Table.{refusal_for, order_rows, whole_rows, whole_of, Accepted, Judged, Refused, content_rows, contents_of}

-- what the check of the settings answers, as a judgement
abbrev pub judged_by : Result (Unit {0}) SettingsFault → Judged
judged_by (Ok _) = Accepted
judged_by (Err f) = Refused (refusal_for f)

-- four causes in order, in the one table and in the other
same_order : (p q r s : Bool)
    → judged_by (cond p (Err S.BadCode) (cond q (Err S.BadSize) (cond r (Err S.NotFinite) (cond s (Err S.BoxCrossed) (Ok tt)))))
    ≡ cond p (Refused BadCode) (cond q (Refused BadSize) (cond r (Refused BadFloat) (cond s (Refused BoxCrossed) Accepted)))
same_order true q r s = refl
same_order false true r s = refl
same_order false false true s = refl
same_order false false false true = refl
same_order false false false false = refl

-- to unfold this is to unfold every row about contents
unfoldable opened : Seen → ℕ → List ℕ → Judged
unfolding contents_of content_rows first_that code_not_listed size_outside float_outside box_crossed list_full not_ready
opened seen k b = contents_of seen k b

module _ (seen : Seen) (b : List ℕ) where
  -- settings: causes 1 to 4, as their own check has them
  pub contents_settings : contents_of seen settings_kind b ≡ judged_by (check_of (settings_of b))
  unfolding opened settings_table check_of
  contents_settings = sym (same_order (bad_code (settings_of b)) (bad_size (settings_of b)) (bad_float (settings_of b)) (bad_box (settings_of b)))

  pub contents_ack : contents_of seen ack_kind b ≡ cond (not_below decisions (byte_at b 0)) (Refused BadCode) Accepted
  unfolding opened
  contents_ack = refl

  pub contents_value : contents_of seen value_kind b ≡ cond (not_below (length capacities) (byte_at b 0)) (Refused BadCode) (cond (list_full seen value_kind b) (Refused ListFull) Accepted)
  unfolding opened
  contents_value = refl

  pub contents_outcome : contents_of seen outcome_kind b ≡ cond (not_below flags (byte_at b 8)) (Refused BadCode) Accepted
  unfolding opened
  contents_outcome = refl

  pub contents_tick : contents_of seen tick_kind b ≡ cond (not_below flags (byte_at b 7) || not_below flags (byte_at b 8)) (Refused BadCode) (cond (not_ready seen tick_kind b) (Refused NotReady) Accepted)
  unfolding opened
  contents_tick = refl

  pub contents_width : contents_of seen width_kind b ≡ cond (bad_width (float_at b 0)) (Refused BadFloat) Accepted
  unfolding opened
  contents_width = refl

  -- the others have none
  abbrev pub contents_by : Result Kind Unlisted → Judged
  contents_by (Ok K.Settings) = contents_of seen settings_kind b
  contents_by (Ok K.Reset) = Accepted
  contents_by (Ok K.Ack) = contents_of seen ack_kind b
  contents_by (Ok K.Head) = Accepted
  contents_by (Ok K.Value) = contents_of seen value_kind b
  contents_by (Ok K.Outcome) = contents_of seen outcome_kind b
  contents_by (Ok K.Tick) = contents_of seen tick_kind b
  contents_by (Ok K.Width) = contents_of seen width_kind b
  contents_by (Err u) = Accepted

  by : (k : ℕ) (r : Result Kind Unlisted) → KindOf k r → contents_of seen k b ≡ contents_by r
  unfolding opened
  by k (Ok K.Settings) e = rw e refl
  by k (Ok K.Reset) e = rw e refl
  by k (Ok K.Ack) e = rw e refl
  by k (Ok K.Head) e = rw e refl
  by k (Ok K.Value) e = rw e refl
  by k (Ok K.Outcome) e = rw e refl
  by k (Ok K.Tick) e = rw e refl
  by k (Ok K.Width) e = rw e refl
  by k (Err u) n =
      simp (
        ne_eqb k settings_kind (n K.Settings),
        ne_eqb k ack_kind (n K.Ack),
        ne_eqb k value_kind (n K.Value),
        ne_eqb k outcome_kind (n K.Outcome),
        ne_eqb k tick_kind (n K.Tick),
        ne_eqb k width_kind (n K.Width),
      )

module _ (seen : Seen) (k : ℕ) (b : List ℕ) where
  pub contents_as : contents_of seen k b ≡ contents_by seen b (kind_of k)
  contents_as = by seen b k (kind_of k) (kind_told k)

  pub whole_as : whole_of seen k b ≡ cond (before_settings seen k b) (Refused BeforeSettings) (cond (again seen k b) (Refused Again) (contents_of seen k b))
  unfolding whole_of whole_rows order_rows contents_of first_that
  whole_as = refl
