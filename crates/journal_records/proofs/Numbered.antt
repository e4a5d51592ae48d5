-- Which numbers the kinds have.
use Prim.Native.Nat.{ℕ}
use mathlib.Core.Bool.{Bool, true, false, cond}
use mathlib.Core.Path.{◌≡◌, refl}
use borrow.Author.Tests.{eqb-true, eqb-false}
use lib.Dec.{eqb}
use Rattle.std.proofs.Common.{Result, Ok, Err}
use Rattle.journal_records.specs.Kinds.{settings_kind, reset_kind, ack_kind, head_kind, value_kind, outcome_kind, tick_kind, width_kind, kind_of}
use Rattle.journal_records.specs.declared.Kind.{Kind}
use Rattle.journal_records.specs.declared.Kind.TheVariants.{Settings, Reset, Ack, Head, Value, Outcome, Tick, Width}
use Rattle.lictor_core.specs.declared.code.Unlisted.{Unlisted}

abbrev pub number_of : Kind → ℕ
number_of Settings = settings_kind
number_of Reset = reset_kind
number_of Ack = ack_kind
number_of Head = head_kind
number_of Value = value_kind
number_of Outcome = outcome_kind
number_of Tick = tick_kind
number_of Width = width_kind

-- what is known of a number by the kind that was found
abbrev pub KindOf : ℕ → Result Kind Unlisted → Type 0
KindOf k (Ok kind) = k ≡ number_of kind
KindOf k (Err u) = (kind : Kind) → k ≡ number_of kind → ⊥

this_or : (P : Result Kind Unlisted → Type 0) (k j : ℕ) (x y : Result Kind Unlisted) (t : Bool) → eqb k j ≡ t → (k ≡ j → P x) → ((k ≡ j → ⊥) → P y) → P (cond t x y)
this_or P k j x y true e p q = p (eqb-true k j e)
this_or P k j x y false e p q = q (eqb-false k j e)

pub kind_told : (k : ℕ) → KindOf k (kind_of k)
unfolding kind_of
kind_told k =
    this_or (KindOf k) k settings_kind _ _ _ refl (λ e. e)
    (λ n1. this_or (KindOf k) k reset_kind _ _ _ refl (λ e. e)
    (λ n2. this_or (KindOf k) k ack_kind _ _ _ refl (λ e. e)
    (λ n3. this_or (KindOf k) k head_kind _ _ _ refl (λ e. e)
    (λ n4. this_or (KindOf k) k value_kind _ _ _ refl (λ e. e)
    (λ n5. this_or (KindOf k) k outcome_kind _ _ _ refl (λ e. e)
    (λ n6. this_or (KindOf k) k tick_kind _ _ _ refl (λ e. e)
    (λ n7. this_or (KindOf k) k width_kind _ _ _ refl (λ e. e)
    (λ n8 kind. elim kind as (λ j. k ≡ number_of j → ⊥) [ Settings ↦ n1 | Reset ↦ n2 | Ack ↦ n3 | Head ↦ n4 | Value ↦ n5 | Outcome ↦ n6 | Tick ↦ n7 | Width ↦ n8 ]))))))))
