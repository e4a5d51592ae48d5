-- A tick by the transition table (lictor_table, proofs/Stops) meets the law of the arm.
use Rattle.std.proofs.Common.{None, Option}
use Rattle.lictor_core.specs.declared.ack.VerifiedAck.{VerifiedAck}
use mathlib.Core.Path.{◌≡◌}
use mathlib.Core.Bool.{Bool, true, false, cond, not, ◌&&◌, ◌||◌}
use Prim.Native.Nat.{ℕ, ◌+◌, ◌-◌, ◌≤◌, ◌<◌}
use native.Mathlib.Omega.{arith}
use lib.Dec.{T, not_T, leb→le, nleb→lt, ltb→lt, eqb→eq}
use lib.Ieee.Fits.{and_l, and_r}
use Rattle.lictor_core.specs.declared.envelope.Settings.{Settings}
use Rattle.lictor_core.specs.declared.fuse.Control.{Control}
use Rattle.lictor_core.specs.declared.reason.ReasonCode.{ReasonCode}
use Rattle.lictor_core.specs.declared.state.FuseState.{FuseState}
use Rattle.lictor_core.specs.declared.state.FuseState.TheVariants.{Idle, Armed, Watching, Clamped, Braking, Held, Escalated, Fault, Terminated}
use Rattle.lictor_core.specs.Cases.{by_state}
use Rattle.lictor_core.specs.Codes.{is_state}
use Rattle.lictor_settings.specs.Settings.{config_of}
use Rattle.lictor_table.specs.Helpers.{to}
use Rattle.lictor_table.specs.Consumed.{taken_in}
use Rattle.lictor_table.proofs.Lines.{by_test}
use Rattle.lictor_table.proofs.Stops.{StopLaw}
use Rattle.claims.specs.Demand3.{B, H, E, max_rearms, Sized, none?, limit}
use Rattle.claims.proofs.Law.{Arm, ArmLaw}

ruleset tests = (arith, leb→le, nleb→lt, ltb→lt, eqb→eq)

-- ---- the arm

-- how many ticks an open stop has left, by the state and its counts
abbrev pub left_in : Settings → FuseState → ℕ → ℕ → ℕ → ℕ
left_in s q brake held wait =
    by_state q 0 0 0 0 ((B s - brake) + H s + E s + 2) ((H s - held) + E s + 2) ((E s - wait) + 1) 0 0

-- the arm in the state q, with the counts of c
abbrev pub arm_in : Settings → FuseState → Control → Arm
arm_in s q c =
    record { faulted = is_state Fault q; left = left_in s q c.brake_ticks c.held_ticks c.escalated_ticks; budget = max_rearms s - c.rearms }

or_false : (b : Bool) → T (b || false) → T b
or_false true h = tt
or_false false h = h

-- what is consumed unless a fault bit comes
unless : (b : Bool) (m : Option VerifiedAck) → T (none? (cond b None m)) → T (not b) → T (none? m)
unless b m h n = grind arith

-- A tick from q to p, with the run state r before it and r' after it; `bits`: a fault bit came;
-- `ack`: the acknowledgement that is accepted.
module _ (s : Settings) (z : Sized s) (bits : Bool) (ack : Option VerifiedAck) (r r' : Control) (extra : ℕ) (reason : ReasonCode) where
  abbrev Law : FuseState → FuseState → Type 0
  Law q p = StopLaw (config_of s) q bits ack r (to p extra reason r')

  -- from a state of an open stop: below each limit its count rises, at the limit the next state's
  -- count starts
  falls : (q p : FuseState) → Law q p → 0 < (arm_in s q r).left → T (not (is_state Armed p || (is_state Fault p || is_state Terminated p)))
      → (0 < (arm_in s p r').left) × ((arm_in s p r').left < (arm_in s q r).left)
  unfolding config_of
  falls Idle p l h c = omega arith
  falls Armed p l h c = omega arith
  falls Watching p l h c = omega arith
  falls Clamped p l h c = omega arith
  falls Braking Idle l h c = absurd l.ends
  falls Braking Armed l h c = absurd c
  falls Braking Watching l h c = absurd l.ends
  falls Braking Clamped l h c = absurd l.ends
  falls Braking Braking l h c = omega (arith, l.brake_below tt tt, l.brake_counts tt tt)
  falls Braking Held l h c = omega (arith, l.brake_below tt tt, l.hold_begins tt tt)
  falls Braking Escalated l h c = absurd l.ends
  falls Braking Fault l h c = absurd c
  falls Braking Terminated l h c = absurd c
  falls Held Idle l h c = absurd l.ends
  falls Held Armed l h c = absurd c
  falls Held Watching l h c = absurd l.ends
  falls Held Clamped l h c = absurd l.ends
  falls Held Braking l h c = absurd l.ends
  falls Held Held l h c = omega (arith, l.hold_counts tt tt)
  falls Held Escalated l h c = omega (arith, l.escalates tt tt)
  falls Held Fault l h c = absurd c
  falls Held Terminated l h c = absurd c
  falls Escalated Idle l h c = absurd l.ends
  falls Escalated Armed l h c = absurd c
  falls Escalated Watching l h c = absurd l.ends
  falls Escalated Clamped l h c = absurd l.ends
  falls Escalated Braking l h c = absurd l.ends
  falls Escalated Held l h c = absurd l.ends
  falls Escalated Escalated l h c = omega (arith, l.wait_counts tt tt)
  falls Escalated Fault l h c = absurd c
  falls Escalated Terminated l h c = absurd c
  falls Fault p l h c = omega arith
  falls Terminated p l h c = omega arith

  opens : (q p : FuseState) → Law q p → T (is_state Braking p && not (is_state Braking q)) → (0 < (arm_in s p r').left) × ((arm_in s p r').left ≤ limit s)
  unfolding config_of
  opens q Idle l h = absurd h
  opens q Armed l h = absurd h
  opens q Watching l h = absurd h
  opens q Clamped l h = absurd h
  opens q Braking l h = omega (arith, l.brake_begins tt h)
  opens q Held l h = absurd h
  opens q Escalated l h = absurd h
  opens q Fault l h = absurd h
  opens q Terminated l h = absurd h

  -- Fault leads to Fault alone
  stays : (q p : FuseState) → Law q p → T (is_state Fault q) → T (is_state Fault p)
  unfolding config_of
  stays Idle p l h = absurd h
  stays Armed p l h = absurd h
  stays Watching p l h = absurd h
  stays Clamped p l h = absurd h
  stays Braking p l h = absurd h
  stays Held p l h = absurd h
  stays Escalated p l h = absurd h
  stays Fault p l h = or_false (is_state Fault p) l.ends
  stays Terminated p l h = absurd h

  -- a rearm that consumes no acknowledgement is below the limit and counted; no other tick lowers
  -- the count
  spends : (q p : FuseState) (took : Option VerifiedAck) → took ≡ cond bits None (taken_in q ack) → Law q p
      → cond (is_state Armed p && (is_state Held q && none? took)) 1 0 + (arm_in s p r').budget ≤ (arm_in s q r).budget
  unfolding config_of
  spends q p took e l =
      by_test (λ (n : ℕ). n + (arm_in s p r').budget ≤ (arm_in s q r).budget) (is_state Armed p && (is_state Held q && none? took)) 1 0
      (λ h.
      let a : T (is_state Armed p) = search and_l in
      let d : T (is_state Held q) = search (and_l, and_r) in
      let n : T (none? (cond bits None (taken_in q ack))) = rw e at (and_r (is_state Held q) (none? took) (and_r (is_state Armed p) (is_state Held q && none? took) h)) in
      let b : T (not bits) = not_T bits (λ f. let g : T (is_state Fault p) = l.faults f in omega tests) in
      omega (arith, l.rearms_self a d (unless bits (taken_in q ack) n b)))
      (λ h. omega (arith, l.rearms_kept))

  -- `shown`: the acknowledgement that is seen
  pub arm_law : (q p : FuseState) (took shown : Option VerifiedAck) → took ≡ cond bits None (taken_in q ack) → Law q p
      → ArmLaw s (arm_in s q r) (record { from = q; to = p; took = took; bits = bits; ack = shown }) (arm_in s p r')
  arm_law q p took shown e l = record { opens = opens q p l; falls = falls q p l; latches = λ h. h; stays = stays q p l; spends = spends q p took e l }
