-- What holds of the record of each kind holds of the record that is decoded.
use Prim.Native.Nat.{ℕ}
use mathlib.Core.Bool.{Bool, true, false, cond, true≢false}
use mathlib.Core.List.{List}
use mathlib.Core.Path.{◌≡◌, refl, sym, ap, ◌∙◌}
use borrow.Author.Tests.{eqb-true, ne_eqb}
use denote.Enum.Declared.{tag_of}
use lib.Dec.{eqb}
use lib.Ieee.{Float, nan}
use Rattle.journal_records.specs.Little.{byte_at, float_at}
use Rattle.std.proofs.Common.{Result, Ok, Err}
use Rattle.std.specs.Result.{result_unwrap_or}
use Rattle.journal_records.specs.Kinds.{settings_kind, reset_kind, ack_kind, head_kind, value_kind, outcome_kind, width_kind, kind_of}
use Rattle.journal_records.proofs.Numbered.{KindOf, kind_told}
use Rattle.journal_records.specs.Body.{ack_of, head_of, tick_numbers, decode_of}
use Rattle.journal_records.specs.contracts.Record as R
use Rattle.journal_records.specs.declared.Kind.{Kind}
use Rattle.journal_records.specs.declared.Kind.TheVariants as K
use Rattle.lictor_core.specs.declared.code.Unlisted.{Unlisted}
use Rattle.journal_records.specs.declared.Record.{Record}
use Rattle.journal_records.specs.declared.Record.TheVariants.{Settings, Reset, Ack, Head, Value, Outcome, Tick, Width}

pub record OfEachKind (k : ℕ) (b : List ℕ) (P : Record → Type 0) : Type 0 where
  pub settings : k ≡ settings_kind → P Settings
  pub reset : k ≡ reset_kind → P Reset
  pub ack : k ≡ ack_kind → P (Ack (ack_of b))
  pub head : k ≡ head_kind → P (Head (head_of b))
  pub value : k ≡ value_kind → P (Value (byte_at b 0) (float_at b 1))
  pub outcome : k ≡ outcome_kind → P Outcome
  pub width : k ≡ width_kind → P (Width (float_at b 0))
  pub tick : P (Tick (tick_numbers b))

this_or : (P : Record → Type 0) (k j : ℕ) (x y : Record) (t : Bool) → eqb k j ≡ t → (k ≡ j → P x) → P y → P (cond t x y)
this_or P k j x y true e p q = p (eqb-true k j e)
this_or P k j x y false e p q = q

pub decoded : (k : ℕ) (b : List ℕ) (P : Record → Type 0) → OfEachKind k b P → P (decode_of k b)
unfolding decode_of
decoded k b P c =
    this_or P k settings_kind _ _ _ refl c.settings
    (this_or P k reset_kind _ _ _ refl c.reset
    (this_or P k ack_kind _ _ _ refl c.ack
    (this_or P k head_kind _ _ _ refl c.head
    (this_or P k value_kind _ _ _ refl c.value
    (this_or P k outcome_kind _ _ _ refl c.outcome
    (this_or P k width_kind _ _ _ refl c.width c.tick))))))

-- ---- a value

-- whether a record is a value, by the numbers of the cases
abbrev is_value : Record → Bool
is_value r = eqb (tag_of R.the_type r) (tag_of R.the_type (Value 0 nan))

cond_is_value : (t : Bool) (x y : Record) → is_value (cond t x y) ≡ cond t (is_value x) (is_value y)
cond_is_value true x y = refl
cond_is_value false x y = refl

cond_false : (t : Bool) → cond t false false ≡ false
cond_false true = refl
cond_false false = refl

-- a record of another kind is none
no_value : (k : ℕ) (b : List ℕ) → eqb k value_kind ≡ false → is_value (decode_of k b) ≡ false
unfolding decode_of
no_value k b e = simp (e, cond_is_value, cond_false)

value_by : (k : ℕ) (b : List ℕ) (c : ℕ) (x : Float) (t : Bool) → eqb k value_kind ≡ t → decode_of k b ≡ Value c x → (k ≡ value_kind) × (c ≡ byte_at b 0)
unfolding decode_of
value_by k b c x true e d = let z = eqb-true k value_kind e in (z, let f : Value (byte_at b 0) (float_at b 1) ≡ Value c x = rw z at d in cc)
value_by k b c x false e d = absurd (true≢false (sym (ap is_value d) ∙ no_value k b e))

-- where a value is decoded, the record is of its kind, and the list is the first byte
pub decoded_value : (k : ℕ) (b : List ℕ) (c : ℕ) (x : Float) → decode_of k b ≡ Value c x → (k ≡ value_kind) × (c ≡ byte_at b 0)
decoded_value k b c x = value_by k b c x (eqb k value_kind) refl

-- ---- what is decoded, by the kind of the number

-- a number that is of no kind is taken for a tick's
abbrev pub record_of : List ℕ → Kind → Record
record_of b K.Settings = Settings
record_of b K.Reset = Reset
record_of b K.Ack = Ack (ack_of b)
record_of b K.Head = Head (head_of b)
record_of b K.Value = Value (byte_at b 0) (float_at b 1)
record_of b K.Outcome = Outcome
record_of b K.Tick = Tick (tick_numbers b)
record_of b K.Width = Width (float_at b 0)

decoded_by : (k : ℕ) (b : List ℕ) (r : Result Kind Unlisted) → KindOf k r → decode_of k b ≡ record_of b (result_unwrap_or r K.Tick)
unfolding decode_of
decoded_by k b (Ok K.Settings) e = rw e refl
decoded_by k b (Ok K.Reset) e = rw e refl
decoded_by k b (Ok K.Ack) e = rw e refl
decoded_by k b (Ok K.Head) e = rw e refl
decoded_by k b (Ok K.Value) e = rw e refl
decoded_by k b (Ok K.Outcome) e = rw e refl
decoded_by k b (Ok K.Tick) e = rw e refl
decoded_by k b (Ok K.Width) e = rw e refl
decoded_by k b (Err u) n =
    simp (
      ne_eqb k settings_kind (n K.Settings),
      ne_eqb k reset_kind (n K.Reset),
      ne_eqb k ack_kind (n K.Ack),
      ne_eqb k head_kind (n K.Head),
      ne_eqb k value_kind (n K.Value),
      ne_eqb k outcome_kind (n K.Outcome),
      ne_eqb k width_kind (n K.Width),
    )

pub decoded_as : (k : ℕ) (b : List ℕ) → decode_of k b ≡ record_of b (result_unwrap_or (kind_of k) K.Tick)
decoded_as k b = decoded_by k b (kind_of k) (kind_told k)
