-- What a tick does to the state and to the counts that limit a stop, and to the nonces: read off
-- the table, state by state.
use Rattle.std.proofs.Common.{None, Some, Option}
use Rattle.lictor_core.specs.declared.ack.VerifiedAck.{VerifiedAck}
use mathlib.Core.Path.{◌≡◌, refl}
use mathlib.Core.Bool.{Bool, true, false, cond, not, ◌&&◌, ◌||◌}
use mathlib.Core.List.{List}
use Prim.Native.Nat.{ℕ, ◌≤◌, ◌<◌, min}
use native.Mathlib.Omega.{arith}
use lib.Dec.{T, leb, ltb, leb→le, nleb→lt, ltb→lt, eqb→eq}
use lib.ListN.{set, get_or}
use lib.Ieee.{Float}
use Rattle.lictor_core.specs.declared.state.FuseState.{FuseState}
use Rattle.lictor_core.specs.declared.state.FuseState.TheVariants.{Idle, Armed, Watching, Clamped, Braking, Held, Escalated, Fault, Terminated}
use Rattle.lictor_core.specs.declared.reason.ReasonCode.TheVariants as R
use Rattle.lictor_core.specs.declared.ack.AckDecision.{AckDecision}
use Rattle.lictor_core.specs.declared.ack.AckDecision.TheVariants.{Resume, Abort, Retune}
use Rattle.lictor_core.specs.declared.envelope.FuseConfig.{FuseConfig}
use Rattle.lictor_core.specs.declared.fuse.Control.{Control}
use Rattle.lictor_core.specs.Cases.{by_state, by_option, by_decision}
use Rattle.lictor_core.specs.Codes.{is_state, is_auto, rearm_code}
use Rattle.lictor_core.specs.Masks.{any_of, fault_bits, brake_bit, tier0_soft}
use Rattle.lictor_core.specs.Num.{sat_up}
use Rattle.lictor_core.specs.FirstThat.{first_that}
use Rattle.lictor_table.specs.declared.FsmInput.{FsmInput}
use Rattle.lictor_table.specs.declared.Turn.{Turn}
use Rattle.lictor_table.specs.Helpers.{accepted_by, accepted_ack, consume_nonce, latch_hold, clean_of, count_run, to, settled_of}
use Rattle.lictor_table.specs.Table.{Facts, Test, first_of, table, next_from, next_of, running, ◌at_least◌, ◌above◌, ◌below◌, ◌and◌, ◌or◌, ◌+1, B, H, E, confirm, rearm_hold, max_rearms, clear_ticks, streak_limit, clamp_limit, brake_ticks, stopped_ticks, held_ticks, held_clean, escalated_ticks, rearms, clamp_streak, clamps, clean_run, hits, one, trip, clamping_off, predictive, warned, stopped, chunk_ok, policy_auto}
use Rattle.lictor_table.specs.Rows.{holding_of, may_rearm, rearm_row, escalate_row, hold_row}
use Rattle.lictor_table.specs.Consumed.{taken_in}
use Rattle.lictor_table.proofs.Lines.{by_test, by_bool}

-- the states that a tick can end in, by the one that it starts from; a fault bit leads to Fault
-- from each
abbrev pub may_end : FuseState → FuseState → Bool
may_end from q =
    is_state Fault q
    || by_state from
    false
    (running q || is_state Braking q)
    (running q || is_state Braking q)
    (running q || is_state Braking q)
    (is_state Braking q || is_state Held q)
    (is_state Held q || is_state Armed q || is_state Escalated q || is_state Terminated q)
    (is_state Escalated q || is_state Armed q || is_state Terminated q)
    false
    (is_state Terminated q)

abbrev pub none? : Option VerifiedAck → Bool
none? ack = by_option ack true (λ a. false)

-- A tick from the state q with the run state r ends in t; `bits`: a fault bit came; `ack`: the
-- acknowledgement that is accepted.
pub record StopLaw (cfg : FuseConfig) (q : FuseState) (bits : Bool) (ack : Option VerifiedAck) (r : Control) (t : Turn) : Type 0 where
  pub ends : T (may_end q t.state)
  pub faults : T bits → T (is_state Fault t.state)
  -- Braking: its count starts at 0 and goes up; below B it goes on or Held begins, at B the tick
  -- faults
  pub brake_begins : T (is_state Braking t.state) → T (not (is_state Braking q)) → t.rt.brake_ticks ≡ 0
  pub brake_counts : T (is_state Braking t.state) → T (is_state Braking q) → t.rt.brake_ticks ≡ sat_up 16 r.brake_ticks
  pub brake_below : T (is_state Braking q) → T (not (is_state Fault t.state)) → r.brake_ticks < cfg.hyst.brake_timeout_ticks
  pub brake_ends : T (is_state Braking q) → T (is_state Fault t.state) → T (not bits) → cfg.hyst.brake_timeout_ticks ≤ r.brake_ticks
  -- Held: its count starts at 0 and goes up below H; at H it escalates, and the count of Escalated
  -- starts
  pub hold_begins : T (is_state Held t.state) → T (not (is_state Held q)) → t.rt.held_ticks ≡ 0
  pub hold_counts : T (is_state Held t.state) → T (is_state Held q)
      → (r.held_ticks < cfg.hyst.escalate_after_hold_ticks) × (t.rt.held_ticks ≡ sat_up 16 r.held_ticks)
  pub escalates : T (is_state Escalated t.state) → T (is_state Held q)
      → (cfg.hyst.escalate_after_hold_ticks ≤ r.held_ticks) × (t.rt.escalated_ticks ≡ 0)
  -- Escalated: its count goes up below E
  pub wait_counts : T (is_state Escalated t.state) → T (is_state Escalated q)
      → (r.escalated_ticks < cfg.hyst.handoff_timeout_ticks) × (t.rt.escalated_ticks ≡ sat_up 32 r.escalated_ticks)
  -- with neither a fault bit nor an accepted acknowledgement a tick leaves Held, under AckOnly, for
  -- Escalated alone, and Escalated only at E
  pub held_calm : T (is_state Held q) → T (not bits) → T (none? ack) → rearm_code cfg.rearm ≡ 1 → T (is_state Held t.state || is_state Escalated t.state)
  pub wait_calm : T (is_state Escalated q) → T (not bits) → T (none? ack) → T (is_state Escalated t.state || is_state Terminated t.state)
  pub wait_ends : T (is_state Escalated q) → T (is_state Terminated t.state) → T (none? ack) → cfg.hyst.handoff_timeout_ticks ≤ r.escalated_ticks
  -- the rearm count never falls (it is a number of 8 bits), and a rearm that consumes no
  -- acknowledgement is below the limit and counted
  pub rearms_kept : min r.rearms 255 ≤ t.rt.rearms
  pub rearms_self : T (is_state Armed t.state) → T (is_state Held q) → T (none? (taken_in q ack))
      → (r.rearms < cfg.hyst.max_rearms) × (t.rt.rearms ≡ sat_up 8 r.rearms)

-- what a turn consumes (specs/Consumed): a fault bit decides it before the lines for Held and
-- Escalated
unfoldable pub consumed_of : Control → FsmInput → Option VerifiedAck
consumed_of rt inp =
    cond (any_of inp.trips fault_bits) None (taken_in rt.state (accepted_ack rt.handoff_seq rt.last_nonce inp.ack))

-- the stored nonces afterwards: changed in the one place of the acknowledgement that is consumed
abbrev pub Stores : Option VerifiedAck → List ℕ → List ℕ → Type 0
Stores taken before after = after ≡ by_option taken before (λ a. set before a.operator_slot a.nonce)

-- an acknowledgement, if there is one, has one of the eight slots and a nonce above its slot's
abbrev pub Fresh : List ℕ → Option VerifiedAck → Type 0
Fresh nonces None = Unit {0}
Fresh nonces (Some a) = (a.operator_slot < 8) × (get_or nonces a.operator_slot 0 < a.nonce)

ruleset tests = (arith, leb→le, nleb→lt, ltb→lt, eqb→eq)

and_l : (a b : Bool) → T (a && b) → T a
and_l true b h = tt
and_l false b h = absurd h

and_r : (a b : Bool) → T (a && b) → T b
and_r true b h = h
and_r false b h = absurd h

module _ (cfg : FuseConfig) (rt : Control) (pos : List Float) (inp : FsmInput) where
  abbrev facts_in : FuseState → Option VerifiedAck → Facts
  facts_in q ack = record { cfg = cfg; rt = count_run (clean_of inp) rt; pos = pos; from = q; clean = clean_of inp; ack = ack; inp = inp }

  abbrev Law : FuseState → Option VerifiedAck → Bool → Turn → Type 0
  Law q ack bits t =
      StopLaw cfg q bits ack rt (settled_of t) × Stores (cond bits None (taken_in q ack)) rt.last_nonce (settled_of t).rt.last_nonce

  abbrev Says : FuseState → Option VerifiedAck → Type 0
  Says q ack = Law q ack (any_of inp.trips fault_bits) (first_of (to Fault 0 R.FaultInternal rt) table (facts_in q ack))

  -- the fault line, or the lines after it
  first : (q : FuseState) (ack : Option VerifiedAck) (s t : Turn) → Law q ack true s → Law q ack false t
      → Law q ack (any_of inp.trips fault_bits) (cond (any_of inp.trips fault_bits) s t)
  first q ack s t f g = by_bool (Law q ack) (any_of inp.trips fault_bits) s t f g

  -- a line with this test, or the lines after it
  line : (q : FuseState) (ack : Option VerifiedAck) (b : Test) (s t : Turn)
      → (T (b (facts_in q ack)) → Law q ack false s) → (T (not (b (facts_in q ack))) → Law q ack false t)
      → Law q ack false (cond (b (facts_in q ack)) s t)
  line q ack b s t f g = by_test (Law q ack false) (b (facts_in q ack)) s t f g

  -- rows 17 to 20, or the lines after them
  runs : (q : FuseState) (ack : Option VerifiedAck) (a b c d e t : Turn)
      → Law q ack false a → Law q ack false b → Law q ack false c → Law q ack false d → Law q ack false e → Law q ack false t
      → Law q ack false
      (cond (trip brake_bit (facts_in q ack)) a
      (cond ((trip tier0_soft and clamping_off) (facts_in q ack)) b
      (cond (predictive (facts_in q ack)) c
      (cond ((clamp_streak at_least streak_limit or clamps above clamp_limit) (facts_in q ack)) d
      (cond (trip tier0_soft (facts_in q ack)) e t)))))
  runs q ack a b c d e t f g h i j k =
      line q ack (trip brake_bit) a _ (λ _. f)
      (λ _. line q ack (trip tier0_soft and clamping_off) b _ (λ _. g)
      (λ _. line q ack predictive c _ (λ _. h)
      (λ _. line q ack (clamp_streak at_least streak_limit or clamps above clamp_limit) d _ (λ _. i)
      (λ _. line q ack (trip tier0_soft) e t (λ _. j) (λ _. k)))))

  -- rows 11 to 13, where no acknowledgement is consumed
  holding : (ack : Option VerifiedAck) → taken_in Held ack ≡ None → Law Held ack false (holding_of cfg (count_run (clean_of inp) rt) (clean_of inp) inp)
  unfolding settled_of count_run holding_of may_rearm rearm_row escalate_row hold_row
  holding m k =
      line Held m (policy_auto and held_clean at_least rearm_hold and chunk_ok and rearms below max_rearms) _ _
      (λ h.
      let a : T (is_auto cfg.rearm) = search and_l in
      let g : T (ltb rt.rearms cfg.hyst.max_rearms) = search (and_l, and_r) in
      (omega tests, rw k)) (λ h.
      line Held m (held_ticks at_least H and rearms at_least max_rearms) _ _
      (λ h. let g : T (leb cfg.hyst.escalate_after_hold_ticks rt.held_ticks) = search and_l in (omega tests, rw k)) (λ h.
      line Held m (held_ticks at_least H and predictive) _ _
      (λ h. let g : T (leb cfg.hyst.escalate_after_hold_ticks rt.held_ticks) = search and_l in (omega tests, rw k)) (λ h.
      line Held m (held_ticks at_least H) _ _ (λ h. (omega tests, rw k)) (λ h. (omega tests, rw k)))))

  held : (d : AckDecision) (slot nonce seq : ℕ) → Says Held (Some (record { decision = d; operator_slot = slot; nonce = nonce; handoff_seq = seq }))
  unfolding first_that table settled_of count_run latch_hold consume_nonce holding_of may_rearm rearm_row escalate_row hold_row
  held Resume slot nonce seq = first Held _ _ _ (omega tests, refl) (omega tests, refl)
  held Abort slot nonce seq = first Held _ _ _ (omega tests, refl) (omega tests, refl)
  held Retune slot nonce seq = first Held _ _ _ (omega tests, refl) (holding _ refl)

  escalated : (d : AckDecision) (slot nonce seq : ℕ) → Says Escalated (Some (record { decision = d; operator_slot = slot; nonce = nonce; handoff_seq = seq }))
  unfolding first_that table settled_of count_run latch_hold consume_nonce
  escalated Resume slot nonce seq = first Escalated _ _ _ (omega tests, refl) (omega tests, refl)
  escalated Abort slot nonce seq = first Escalated _ _ _ (omega tests, refl) (omega tests, refl)
  escalated Retune slot nonce seq = first Escalated _ _ _ (omega tests, refl) (omega tests, refl)

  by_from_lem : (q : FuseState) (ack : Option VerifiedAck) → Says q ack
  unfolding first_that table settled_of count_run latch_hold holding_of may_rearm rearm_row escalate_row hold_row
  by_from_lem Idle m = first Idle m _ _ (omega tests, refl) (omega tests, refl)
  by_from_lem Armed m =
      first Armed m _ _ (omega tests, refl)
      (runs Armed m _ _ _ _ _ _ (omega tests, refl) (omega tests, refl) (omega tests, refl) (omega tests, refl) (omega tests, refl)
      (line Armed m (warned or hits at_least one) _ _ (λ h. (omega tests, refl)) (λ h. (omega tests, refl))))
  by_from_lem Watching m =
      first Watching m _ _ (omega tests, refl)
      (runs Watching m _ _ _ _ _ _ (omega tests, refl) (omega tests, refl) (omega tests, refl) (omega tests, refl) (omega tests, refl)
      (line Watching m (clean_run at_least clear_ticks) _ _ (λ h. (omega tests, refl)) (λ h.
      line Watching m (warned or hits at_least one) _ _ (λ h. (omega tests, refl)) (λ h. (omega tests, refl)))))
  by_from_lem Clamped m =
      first Clamped m _ _ (omega tests, refl)
      (runs Clamped m _ _ _ _ _ _ (omega tests, refl) (omega tests, refl) (omega tests, refl) (omega tests, refl) (omega tests, refl)
      (line Clamped m (clean_run at_least clear_ticks) _ _ (λ h. (omega tests, refl)) (λ h.
      line Clamped m (warned or hits at_least one) _ _ (λ h. (omega tests, refl)) (λ h. (omega tests, refl)))))
  by_from_lem Braking m =
      first Braking m _ _ (omega tests, refl)
      (line Braking m (brake_ticks at_least B) _ _ (λ h. (omega tests, refl)) (λ h.
      line Braking m (stopped and stopped_ticks +1 at_least confirm) _ _ (λ i. (omega tests, refl)) (λ i. (omega tests, refl))))
  by_from_lem Held None = first Held None _ _ (omega tests, refl) (holding None refl)
  by_from_lem Held (Some a) = held a.decision a.operator_slot a.nonce a.handoff_seq
  by_from_lem Escalated None =
      first Escalated None _ _ (omega tests, refl)
      (line Escalated None (escalated_ticks at_least E) _ _ (λ h. (omega tests, refl)) (λ h. (omega tests, refl)))
  by_from_lem Escalated (Some a) = escalated a.decision a.operator_slot a.nonce a.handoff_seq
  by_from_lem Fault m = first Fault m _ _ (omega tests, refl) (omega tests, refl)
  by_from_lem Terminated m = first Terminated m _ _ (omega tests, refl) (omega tests, refl)

  pub stop_law : StopLaw cfg rt.state (any_of inp.trips fault_bits) (accepted_ack rt.handoff_seq rt.last_nonce inp.ack) rt (next_of cfg rt pos inp)
  unfolding next_of next_from
  stop_law = (by_from_lem rt.state (accepted_ack rt.handoff_seq rt.last_nonce inp.ack)).0

  pub nonce_law : Stores (consumed_of rt inp) rt.last_nonce (next_of cfg rt pos inp).rt.last_nonce
  unfolding next_of next_from consumed_of
  nonce_law = (by_from_lem rt.state (accepted_ack rt.handoff_seq rt.last_nonce inp.ack)).1

-- what is accepted has a slot and a nonce above it
accepted_fresh : (handoff : ℕ) (nonces : List ℕ) (ack : Option VerifiedAck) → Fresh nonces (accepted_ack handoff nonces ack)
unfolding accepted_ack accepted_by
accepted_fresh handoff nonces None = tt
accepted_fresh handoff nonces (Some a) =
    by_test (Fresh nonces) (accepted_by handoff nonces a) (Some a) None
    (λ h.
    let s : T (ltb a.operator_slot 8) = search and_l in
    let g : T (ltb (get_or nonces a.operator_slot 0) a.nonce) = search (and_l, and_r) in
    omega tests)
    (λ h. tt)

decided_fresh : (nonces : List ℕ) (d : AckDecision) (ack : Option VerifiedAck) → Fresh nonces ack → Fresh nonces (by_decision d ack ack None)
decided_fresh nonces Resume ack f = f
decided_fresh nonces Abort ack f = f
decided_fresh nonces Retune ack f = tt

taken_fresh : (nonces : List ℕ) (q : FuseState) (ack : Option VerifiedAck) → Fresh nonces ack → Fresh nonces (taken_in q ack)
taken_fresh nonces Idle ack f = tt
taken_fresh nonces Armed ack f = tt
taken_fresh nonces Watching ack f = tt
taken_fresh nonces Clamped ack f = tt
taken_fresh nonces Braking ack f = tt
taken_fresh nonces Held None f = tt
taken_fresh nonces Held (Some a) f = decided_fresh nonces a.decision (Some a) f
taken_fresh nonces Escalated ack f = f
taken_fresh nonces Fault ack f = tt
taken_fresh nonces Terminated ack f = tt

-- so has what a tick consumes
pub fresh_law : (rt : Control) (inp : FsmInput) → Fresh rt.last_nonce (consumed_of rt inp)
unfolding consumed_of
fresh_law rt inp =
    by_test (Fresh rt.last_nonce) (any_of inp.trips fault_bits) None _ (λ h. tt)
    (λ h.
    taken_fresh rt.last_nonce rt.state (accepted_ack rt.handoff_seq rt.last_nonce inp.ack)
    (accepted_fresh rt.handoff_seq rt.last_nonce inp.ack))
