-- The stored nonces: every tick stores what it consumes and meets the law of `Law`, a reset changes
-- none of them, so of every list of calls and resets the claim on acknowledgements holds
-- (specs/Nonces; specs/Demand3, AcksOnce).
use Rattle.std.proofs.Common.{None, Some, Option}
use Rattle.lictor_core.specs.declared.ack.VerifiedAck.{VerifiedAck}
use mathlib.Core.Path.{◌≡◌, refl, ◌∙◌}
use mathlib.Core.Bool.{Bool, true, false, cond, not, ◌||◌}
use mathlib.Core.List.{List, [], ◌∷◌}
use Prim.Native.Nat.{ℕ, ◌≤◌, ◌<◌}
use native.Mathlib.Omega.{arith}
use native.Mathlib.Decide.{ℕ_discrete}
use lib.Dec.{T, T_not, eqb}
use lib.ListN.{get_or, set, length-set}
use lib.Seq.{get_or-set_same, get_or-set_other}
use Rattle.lictor_core.specs.declared.fuse.FuseRt.{FuseRt}
use Rattle.lictor_core.specs.Initial.{no_nonces, fresh_control, new_of, reset_of}
use Rattle.lictor_core.specs.Masks.{any_of, fault_bits}
use Rattle.lictor_settings.specs.Settings.{config_of}
use Rattle.lictor_stages.specs.Findings.{findings_of, machine_input}
use Rattle.lictor_table.specs.Consumed.{taken_in}
use Rattle.lictor_table.proofs.Stops.{Fresh, consumed_of, nonce_law, fresh_law}
use Rattle.lictor_fuse.specs.declared.decide.Decided.{Decided}
use Rattle.lictor_fuse.specs.declared.Ticked.{Ticked}
use Rattle.lictor_fuse.specs.CleanTick.{ready_of, close_clean, clean_tick}
use Rattle.lictor_fuse.specs.FaultTick.{fault_motion, fault_input, close_fault, fault_tick}
use Rattle.lictor_fuse.specs.Closed.{closed_of}
use Rattle.lictor_fuse.specs.Tick.{given_of}
use Rattle.claims.specs.Runs.{All, Step}
use Rattle.claims.specs.Calls.{Call, settings_pass, tick_answer, trips_of, guard_bits, bits_of, ack_accepted, took_of, TickSeen, seen_of, Entry, of_tick, of_reset, entry_step, ticks_among}
use Rattle.claims.specs.Nonces.{nonces_of, Eight, stored_in, NoncesTold}
use Rattle.claims.specs.Demand3.{Is, Acks, AcksOnce}
use Rattle.claims.proofs.Runs.{Meets, runs}
use Rattle.claims.proofs.Law.{NonceLaw, Spends, acks_by}
use Rattle.claims.proofs.Tick.{by_call, by_step, refused_keeps, by_guard, guard_faults, holds_true, decided, found_of, clean_turn, fault_turn}

-- ---- any eight nonces, and what is stored among them

-- slots beyond the list count as 0
abbrev pub floor_in : List ℕ → ℕ → ℕ
floor_in l slot = get_or l slot 0

module _ (l : List ℕ) (eight : Eight l) where
  pub stored_law : (taken : Option VerifiedAck) → Fresh l taken → NonceLaw (floor_in l) taken (floor_in (stored_in l taken))
  stored_law None f = record { kept = λ slot. omega arith; fresh = λ slot nonce u. absurd u }
  stored_law (Some a) f = record { kept = λ slot. kept slot (ℕ_discrete slot a.operator_slot); fresh = fresh }
    where
      kept : (slot : ℕ) → Dec (slot ≡ a.operator_slot) → floor_in l slot ≤ floor_in (set l a.operator_slot a.nonce) slot
      kept slot (yes e) = rw e (rw (get_or-set_same l a.operator_slot a.nonce 0 (omega arith)) (omega arith))
      kept slot (no e) = rw (get_or-set_other l a.operator_slot slot a.nonce 0 e) (omega arith)

      fresh : (slot nonce : ℕ) → Is (Some a) slot nonce → (floor_in l slot < nonce) × (nonce ≤ floor_in (set l a.operator_slot a.nonce) slot)
      fresh slot nonce e =
          rw (← e.0, ← e.1) (f.1, rw (get_or-set_same l a.operator_slot a.nonce 0 (omega arith)) (omega arith))

  pub still_eight : (taken : Option VerifiedAck) → Eight (stored_in l taken)
  still_eight None = eight
  still_eight (Some a) = length-set l a.operator_slot a.nonce ∙ eight

-- ---- a tick stores what it consumes, and that was not stored before

-- what it consumes, by the guard's test
abbrev took_by : FuseRt → Call → Bool → Option VerifiedAck
took_by r c clean = cond (not clean || any_of (trips_of c) fault_bits) None (taken_in r.control.state (ack_accepted r c))

module _ (r : FuseRt) (c : Call) where
  abbrev Stored : Bool → List ℕ → Type 0
  Stored clean after = (after ≡ stored_in (nonces_of r) (took_by r c clean)) × Fresh (nonces_of r) (took_by r c clean)

  clean_stored : Stored true (clean_turn r c).rt.last_nonce
  unfolding ready_of machine_input findings_of trips_of ack_accepted config_of consumed_of
  clean_stored =
      let cfg = config_of c.settings in
      let start = ready_of r.control (found_of r c) in
      let inp = machine_input cfg c.input (found_of r c) in
      (nonce_law cfg start _ inp, fresh_law start inp)

  fault_stored : any_of (guard_bits r c) fault_bits ≡ true → Stored false (fault_turn r c).rt.last_nonce
  unfolding fault_input consumed_of
  fault_stored e =
      let cfg = config_of c.settings in
      (rw e at (nonce_law cfg r.control (fault_motion cfg r.motion c.pos).pos (fault_input cfg c.input (guard_bits r c))), tt)

  tick_stored : (nonces_of (decided r c).rt ≡ stored_in (nonces_of r) (took_of r c)) × Fresh (nonces_of r) (took_of r c)
  unfolding took_of bits_of clean_tick close_clean fault_tick close_fault closed_of
  tick_stored =
      by_guard (λ b (d : Decided). Stored b d.rt.control.last_nonce) r c
      (λ h. clean_stored) (λ h. fault_stored (guard_faults r c ∙ holds_true (not (eqb (guard_bits r c) 0)) h))

-- ---- of every call

tick_told : (r : FuseRt) (c : Call) → T (settings_pass c) → nonces_of (tick_answer r c).rt ≡ stored_in (nonces_of r) (took_of r c)
unfolding given_of
tick_told r c h =
    by_call (λ (a : Ticked). nonces_of a.rt ≡ stored_in (nonces_of r) (took_of r c)) r c (λ k. (tick_stored r c).0) (λ k. absurd (T_not (settings_pass c) k h))

refused_told : (r : FuseRt) (c : Call) → T (not (settings_pass c)) → nonces_of (tick_answer r c).rt ≡ nonces_of r
refused_told r c h = rw (refused_keeps r c h) refl

reset_told : (r : FuseRt) → nonces_of (reset_of r) ≡ nonces_of r
unfolding reset_of fresh_control
reset_told r = refl

settings_told : nonces_of new_of ≡ no_nonces
unfolding new_of fresh_control
settings_told = refl

pub nonces_told : NoncesTold
nonces_told = record { tick = tick_told; refused = refused_told; reset = reset_told; settings = settings_told }

-- ---- lists of calls and resets

abbrev pub floor_of : FuseRt → ℕ → ℕ
floor_of r = floor_in (nonces_of r)

abbrev EightIn : FuseRt → Type 0
EightIn r = Eight (nonces_of r)

nonce_ticks : (r : FuseRt) (c : Call) → EightIn r → EightIn (decided r c).rt × NonceLaw (floor_of r) (took_of r c) (floor_of (decided r c).rt)
nonce_ticks r c o =
    rw (tick_stored r c).0 (still_eight (nonces_of r) o (took_of r c), stored_law (nonces_of r) o (took_of r c) (tick_stored r c).1)

abbrev Entries : Entry → Type 0
Entries e = Unit {0}

abbrev Nonces : FuseRt → Step FuseRt TickSeen → Type 0
Nonces = Meets (entry_step seen_of) floor_of EightIn Entries Spends

nonce_meets : (r : FuseRt) (e : Entry) → EightIn r → Unit {0} → Nonces r (entry_step seen_of r e)
unfolding reset_of fresh_control
nonce_meets r (of_tick c) o u = by_step seen_of (λ r'. Nonces r) r c (λ h. nonce_ticks r c o) (λ h. (o, refl))
nonce_meets r of_reset o u = (o, refl)

every : (es : List Entry) → All Entries es
every [] = tt
every (e ∷ es) = (tt, every es)

pub acks_from : (r : FuseRt) → Eight (nonces_of r) → (es : List Entry) → Acks (ticks_among r es)
acks_from r o es = acks_by (runs (entry_step seen_of) floor_of EightIn Entries Spends nonce_meets es (every es) r o)

new_eight : Eight (nonces_of new_of)
unfolding new_of fresh_control no_nonces
new_eight = refl

pub acks_once : AcksOnce
acks_once = record { from_settings = acks_from new_of new_eight; from_any = acks_from }
