-- Exactly the causes of the table refuse a record, in its order.
use mathlib.Core.Bool.{Bool, true, false, cond}
use mathlib.Core.List.{List, [], ◌∷◌}
use mathlib.Core.Path.{◌≡◌, refl, sym, ◌∙◌, subst}
use Prim.Native.Nat.{ℕ, ◌≤◌}
use native.Mathlib.Omega.{arith}
use lib.Dec.{eqb}
use Rattle.lictor_core.specs.FirstThat.{first_that}
use Rattle.lictor_core.proofs.FirstThat.{first_is}
use Rattle.stream.proofs.Stream.{impossible}
use Rattle.journal_refusals.specs.declared.Seen.{Seen}
use Rattle.journal_refusals.specs.declared.Refusal.{Refusal}
use Rattle.journal_refusals.specs.declared.Refusal.TheVariants.{UnknownKind, CutBody, BeforeSettings, Again, BadCode, BadSize, BadFloat, BoxCrossed, ListFull, NotReady}
use Rattle.journal_refusals.specs.Table.{Accepted, Refused, Row, number_of, last_number, first_row}
use Rattle.journal_refusals.specs.Exactly.{Decides, this_row, later_row, Passes, no_row, not_this_row}

module _ (seen : Seen) (k : ℕ) (b : List ℕ) where
  first : (w : Row) (ws : List Row) (t : Bool) → w.cause seen k b ≡ t → first_row (w ∷ ws) seen k b ≡ cond t (Refused w.answer) (first_row ws seen k b)
  first w ws t e = first_is (λ v. v.cause seen k b) (λ v. Refused v.answer) Accepted w ws t e

  decides_by : (w : Row) (ws : List Row) (r : Refusal) → (first_row ws seen k b ≡ Refused r → Decides seen k b ws r) → (t : Bool) → w.cause seen k b ≡ t
      → first_row (w ∷ ws) seen k b ≡ Refused r → Decides seen k b (w ∷ ws) r
  decides_by w ws r ih true c e = let q : w.answer ≡ r = cc (first w ws true c) in subst (Decides seen k b (w ∷ ws)) q (this_row c)
  decides_by w ws r ih false c e = later_row c (ih (sym (first w ws false c) ∙ e))

  -- refused for r: the first row that applies answers r
  pub refused_so : (t : List Row) (r : Refusal) → first_row t seen k b ≡ Refused r → Decides seen k b t r
  unfolding first_that
  refused_so [] r e = impossible cc
  refused_so (w ∷ ws) r e = decides_by w ws r (refused_so ws r) (w.cause seen k b) refl e

  -- and the other way round
  pub so_refused : {t : List Row} {r : Refusal} → Decides seen k b t r → first_row t seen k b ≡ Refused r
  so_refused (this_row {w = w} {ws = ws} c) = first w ws true c
  so_refused (later_row {w = w} {ws = ws} c d) = first w ws false c ∙ so_refused d

  passes_by : (w : Row) (ws : List Row) → (first_row ws seen k b ≡ Accepted → Passes seen k b ws) → (t : Bool) → w.cause seen k b ≡ t
      → first_row (w ∷ ws) seen k b ≡ Accepted → Passes seen k b (w ∷ ws)
  passes_by w ws ih true c e = impossible (cc (first w ws true c))
  passes_by w ws ih false c e = not_this_row c (ih (sym (first w ws false c) ∙ e))

  -- accepted: no row applies
  pub accepted_so : (t : List Row) → first_row t seen k b ≡ Accepted → Passes seen k b t
  accepted_so [] e = no_row
  accepted_so (w ∷ ws) e = passes_by w ws (accepted_so ws) (w.cause seen k b) refl e

  pub so_accepted : {t : List Row} → Passes seen k b t → first_row t seen k b ≡ Accepted
  unfolding first_that
  so_accepted no_row = refl
  so_accepted (not_this_row {w = w} {ws = ws} c p) = first w ws false c ∙ so_accepted p

-- ---- what an accepted record says of a row, by its name

-- the cause of the first row that answers r
unfoldable pub cause_of : Refusal → List Row → Seen → ℕ → List ℕ → Bool
cause_of r [] seen k b = false
cause_of r (w ∷ ws) seen k b = cond (eqb (number_of w.answer) (number_of r)) (w.cause seen k b) (cause_of r ws seen k b)

module _ (seen : Seen) (k : ℕ) (b : List ℕ) where
  neither : (t x y : Bool) → x ≡ false → y ≡ false → cond t x y ≡ false
  neither true x y p q = p
  neither false x y p q = q

  passes_cause : {t : List Row} → Passes seen k b t → (r : Refusal) → cause_of r t seen k b ≡ false
  unfolding cause_of
  passes_cause no_row r = refl
  passes_cause (not_this_row {w = w} {ws = ws} c p) r = neither (eqb (number_of w.answer) (number_of r)) (w.cause seen k b) (cause_of r ws seen k b) c (passes_cause p r)

  -- where a record is accepted, no row's cause is there
  pub no_cause : (t : List Row) → first_row t seen k b ≡ Accepted → (r : Refusal) → cause_of r t seen k b ≡ false
  no_cause t e r = passes_cause (accepted_so seen k b t e) r

-- the numbers go from 1 to the last
pub numbers : (r : Refusal) → (1 ≤ number_of r) × (number_of r ≤ last_number)
numbers UnknownKind = (omega arith, omega arith)
numbers CutBody = (omega arith, omega arith)
numbers BeforeSettings = (omega arith, omega arith)
numbers Again = (omega arith, omega arith)
numbers BadCode = (omega arith, omega arith)
numbers BadSize = (omega arith, omega arith)
numbers BadFloat = (omega arith, omega arith)
numbers BoxCrossed = (omega arith, omega arith)
numbers ListFull = (omega arith, omega arith)
numbers NotReady = (omega arith, omega arith)
