-- What comes before the settings, and what comes a second time, by the kind.
use Prim.Native.Nat.{ℕ}
use mathlib.Core.Bool.{Bool, false, not, ◌||◌}
use mathlib.Core.List.{List}
use mathlib.Core.Path.{◌≡◌, refl}
use borrow.Author.Tests.{ne_eqb}
use Rattle.std.proofs.Common.{Result, Ok, Err}
use Rattle.journal_records.specs.declared.Kind.{Kind}
use Rattle.journal_records.specs.declared.Kind.TheVariants as K
use Rattle.lictor_core.specs.declared.code.Unlisted.{Unlisted}
use Rattle.journal_records.specs.Kinds.{settings_kind, ack_kind, head_kind, outcome_kind, width_kind, kind_of}
use Rattle.journal_records.proofs.Numbered.{KindOf, kind_told}
use Rattle.journal_refusals.specs.declared.Seen.{Seen}
use Rattle.journal_refusals.specs.Causes.{before_settings, again}

abbrev pub again_by : Seen → Result Kind Unlisted → Bool
again_by seen (Ok K.Settings) = seen.settings
again_by seen (Ok K.Reset) = false
again_by seen (Ok K.Ack) = seen.ack
again_by seen (Ok K.Head) = seen.head
again_by seen (Ok K.Value) = false
again_by seen (Ok K.Outcome) = seen.outcome
again_by seen (Ok K.Tick) = false
again_by seen (Ok K.Width) = seen.width || seen.underway
again_by seen (Err u) = false

abbrev pub early_by : Seen → Result Kind Unlisted → Bool
early_by seen (Ok K.Settings) = false
early_by seen _ = not seen.settings

module _ (seen : Seen) (k : ℕ) (b : List ℕ) where
  early : (r : Result Kind Unlisted) → KindOf k r → before_settings seen k b ≡ early_by seen r
  unfolding before_settings
  early (Ok K.Settings) e = rw e refl
  early (Ok K.Reset) e = rw e refl
  early (Ok K.Ack) e = rw e refl
  early (Ok K.Head) e = rw e refl
  early (Ok K.Value) e = rw e refl
  early (Ok K.Outcome) e = rw e refl
  early (Ok K.Tick) e = rw e refl
  early (Ok K.Width) e = rw e refl
  early (Err u) n = simp (ne_eqb k settings_kind (n K.Settings))

  pub early_as : before_settings seen k b ≡ early_by seen (kind_of k)
  early_as = early (kind_of k) (kind_told k)

  by : (r : Result Kind Unlisted) → KindOf k r → again seen k b ≡ again_by seen r
  unfolding again
  by (Ok K.Settings) e = rw e refl
  by (Ok K.Reset) e = rw e refl
  by (Ok K.Ack) e = rw e refl
  by (Ok K.Head) e = rw e refl
  by (Ok K.Value) e = rw e refl
  by (Ok K.Outcome) e = rw e refl
  by (Ok K.Tick) e = rw e refl
  by (Ok K.Width) e = rw e refl
  by (Err u) n =
      simp (
        ne_eqb k settings_kind (n K.Settings),
        ne_eqb k ack_kind (n K.Ack),
        ne_eqb k head_kind (n K.Head),
        ne_eqb k outcome_kind (n K.Outcome),
        ne_eqb k width_kind (n K.Width),
      )

  pub again_as : again seen k b ≡ again_by seen (kind_of k)
  again_as = by (kind_of k) (kind_told k)
