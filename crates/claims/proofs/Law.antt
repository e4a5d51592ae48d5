-- What demand 3 needs of one tick, and no more: a law of the arm and a law of the stored nonces;
-- and what they say of a list of ticks.
use Rattle.std.proofs.Common.{Option}
use Rattle.lictor_core.specs.declared.ack.VerifiedAck.{VerifiedAck}
use mathlib.Core.Bool.{Bool, not}
use mathlib.Core.Logic.{◌⊎◌, inl, inr}
use mathlib.Core.List.{List}
use Prim.Native.Nat.{ℕ, ◌+◌, ◌≤◌, ◌<◌}
use lib.Dec.{T}
use Rattle.lictor_core.specs.declared.envelope.Settings.{Settings}
use Rattle.lictor_core.specs.declared.state.FuseState.TheVariants.{Fault}
use Rattle.claims.specs.Runs.{total}
use Rattle.claims.specs.Calls.{TickSeen}
use Rattle.claims.specs.Demand3.{begins, closes, ends_in, rearms_alone, Is, Consumes, limit, Stops, Faults, Acks}
use Rattle.claims.proofs.Runs.{Run, answered, latched, within, once}

-- ---- the arm

-- as demand 3 sees it: whether it is in Fault; how many ticks an open stop has left (zero: none is
-- open); how many rearms of its own are left
pub record Arm : Type 0 where
  pub faulted : Bool
  pub left : ℕ
  pub budget : ℕ

pub record ArmLaw (s : Settings) (c : Arm) (x : TickSeen) (c' : Arm) : Type 0 where
  pub opens : T (begins x) → (0 < c'.left) × (c'.left ≤ limit s)
  pub falls : 0 < c.left → T (not (closes x)) → (0 < c'.left) × (c'.left < c.left)
  pub latches : T (ends_in Fault x) → T c'.faulted
  pub stays : T c.faulted → T (ends_in Fault x)
  pub spends : rearms_alone x + c'.budget ≤ c.budget

closed_or : (b : Bool) {P : Type 0} → (T (not b) → P) → T b ⊎ P
closed_or Bool.true f = inl tt
closed_or Bool.false f = inr (f tt)

module _ (s : Settings) {c : Arm} {l : List TickSeen} (r : Run (ArmLaw s) c l) where
  pub stops_by : Stops s l
  stops_by =
      answered (ArmLaw s) (λ c. c.left) (λ x. T (closes x)) (λ c x c' h p. closed_or (closes x) (h.falls p))
      (λ x. T (begins x)) (limit s) (λ c x c' h. h.opens) r

  pub faults_by : Faults l
  faults_by = latched (ArmLaw s) (λ c. T c.faulted) (λ x. T (ends_in Fault x)) (λ c x c' h. h.stays) (λ c x c' h. h.latches) r

  pub rearms_by : total rearms_alone l ≤ c.budget
  rearms_by = within (ArmLaw s) (λ c. c.budget) rearms_alone (λ c x c' h. h.spends) r

-- ---- the stored nonces, by slot: none falls, and one that is consumed lies above its slot's and
-- is stored; of a tick only what it takes matters

pub record NonceLaw (f : ℕ → ℕ) (taken : Option VerifiedAck) (f' : ℕ → ℕ) : Type 0 where
  pub kept : (slot : ℕ) → f slot ≤ f' slot
  pub fresh : (slot nonce : ℕ) → Is taken slot nonce → (f slot < nonce) × (nonce ≤ f' slot)

abbrev pub Spends : (ℕ → ℕ) → TickSeen → (ℕ → ℕ) → Type 0
Spends f x f' = NonceLaw f x.took f'

pub acks_by : {f : ℕ → ℕ} {l : List TickSeen} → Run Spends f l → Acks l
acks_by r slot nonce = once Spends (λ f. f) Consumes (λ f x f' h. h.kept) (λ f x f' h. h.fresh) slot nonce r
