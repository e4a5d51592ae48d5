-- Demand 3: every tick meets the law of the arm, so every list of calls meets the claim
-- (specs/Demand3); the part on acknowledgements is from Nonces.
use Rattle.std.proofs.Common.{None, Option}
use Rattle.lictor_core.specs.declared.ack.VerifiedAck.{VerifiedAck}
use mathlib.Core.Path.{◌≡◌, refl, sym, subst, ◌∙◌}
use mathlib.Core.Bool.{Bool, true, false, cond, not, ◌||◌}
use mathlib.Core.List.{List}
use Prim.Native.Nat.{◌-◌, ◌≤◌}
use native.Mathlib.Omega.{arith}
use lib.Dec.{eqb}
use lib.Ieee.{Float}
use Rattle.lictor_core.specs.declared.envelope.FuseConfig.{FuseConfig}
use Rattle.lictor_core.specs.declared.envelope.Settings.{Settings}
use Rattle.lictor_core.specs.declared.fuse.Control.{Control}
use Rattle.lictor_core.specs.declared.fuse.FuseRt.{FuseRt}
use Rattle.lictor_core.specs.declared.state.FuseState.{FuseState}
use Rattle.lictor_core.specs.Initial.{fresh_control, reset_of}
use Rattle.lictor_core.specs.Masks.{any_of, fault_bits}
use Rattle.lictor_settings.specs.Settings.{config_of}
use Rattle.lictor_stages.specs.Findings.{findings_of, machine_input}
use Rattle.lictor_stages.specs.Verdict.{verdict_of}
use Rattle.lictor_table.specs.declared.FsmInput.{FsmInput}
use Rattle.lictor_table.specs.Consumed.{taken_in}
use Rattle.lictor_table.specs.Helpers.{accepted_ack, settled_of}
use Rattle.lictor_table.specs.Table.{next_from, next_of}
use Rattle.lictor_table.proofs.Stops.{StopLaw, stop_law}
use Rattle.lictor_fuse.specs.declared.decide.Decided.{Decided}
use Rattle.lictor_fuse.specs.CleanTick.{ready_of, close_clean, clean_tick}
use Rattle.lictor_fuse.specs.FaultTick.{fault_input, fault_verdict, close_fault, fault_tick}
use Rattle.lictor_fuse.specs.Closed.{closed_of}
use Rattle.lictor_fuse.specs.Tick.{given_of}
use Rattle.claims.specs.Runs.{All, total, Step}
use Rattle.claims.specs.Calls.{Call, Under, guard_bits, trips_of, bits_of, ack_accepted, took_of, TickSeen, seen_of, step_of, ticks_from}
use Rattle.claims.specs.Demand3.{max_rearms, Sized, rearms_alone, Stops, Faults, StopsCloseUnder}
use Rattle.claims.proofs.Runs.{Run, Meets, runs}
use Rattle.claims.proofs.Law.{Arm, ArmLaw, stops_by, faults_by, rearms_by}
use Rattle.claims.proofs.Rows.{arm_in, arm_law}
use Rattle.claims.proofs.Tick.{by_step, by_guard, guard_faults, holds_true, decided, found_of, clean_turn, fault_turn}
use Rattle.claims.proofs.Nonces.{acks_once}

-- the state that the machine answers is the one that it stores
pub state_agrees : (cfg : FuseConfig) (rt : Control) (pos : List Float) (inp : FsmInput) → (next_of cfg rt pos inp).rt.state ≡ (next_of cfg rt pos inp).state
unfolding next_of next_from settled_of
state_agrees cfg rt pos inp = refl

-- ---- the arm

abbrev pub arm_of : Settings → FuseRt → Arm
arm_of s r = arm_in s r.control.state r.control

module _ (s : Settings) (z : Sized s) where
  -- a turn of the machine from `start`, with the bits of its input's trips
  turns : (start : Control) (pos : List Float) (inp : FsmInput) (bits : Bool) (took shown : Option VerifiedAck) → any_of inp.trips fault_bits ≡ bits
      → took ≡ cond bits None (taken_in start.state (accepted_ack start.handoff_seq start.last_nonce inp.ack))
      → let t = next_of (config_of s) start pos inp in
      ArmLaw s (arm_in s start.state start) (record { from = start.state; to = t.state; took = took; bits = bits; ack = shown }) (arm_in s t.rt.state t.rt)
  turns start pos inp bits took shown e u =
      let t = next_of (config_of s) start pos inp in
      let ack = accepted_ack start.handoff_seq start.last_nonce inp.ack in
      let l : StopLaw (config_of s) start.state bits ack start t = rw e at (stop_law (config_of s) start pos inp) in
      rw (state_agrees (config_of s) start pos inp) (arm_law s z bits ack start t.rt t.extra t.reason start.state t.state took shown u l)

-- what is seen of a tick, by the guard's test and its verdict's state
abbrev seen_by : FuseRt → Call → Bool → FuseState → TickSeen
seen_by r c clean p =
    let bits = not clean || any_of (trips_of c) fault_bits in
    record { from = r.control.state; to = p; took = cond bits None (taken_in r.control.state (ack_accepted r c)); bits = bits; ack = ack_accepted r c }

module _ (r : FuseRt) (c : Call) (z : Sized c.settings) where
  -- the law of the arm, for a tick under the call's own settings that ends in p and leaves r'
  abbrev Holds : Bool → FuseState → Control → Type 0
  Holds clean p r' = ArmLaw c.settings (arm_of c.settings r) (seen_by r c clean p) (arm_in c.settings r'.state r')

  clean_turns : Holds true (clean_turn r c).state (clean_turn r c).rt
  unfolding ready_of machine_input findings_of trips_of ack_accepted config_of
  clean_turns = turns c.settings z (ready_of r.control (found_of r c)) _ _ _ _ _ refl refl

  fault_turns : any_of (guard_bits r c) fault_bits ≡ true → Holds false (fault_turn r c).state (fault_turn r c).rt
  unfolding fault_input
  fault_turns e = turns c.settings z r.control _ (fault_input (config_of c.settings) c.input (guard_bits r c)) true None _ e refl

  arm_ticks : ArmLaw c.settings (arm_of c.settings r) (seen_of r c (given_of (decided r c))) (arm_of c.settings (decided r c).rt)
  unfolding given_of took_of bits_of clean_tick close_clean fault_tick close_fault closed_of verdict_of fault_verdict
  arm_ticks =
      by_guard (λ b (d : Decided). Holds b d.verdict.state d.rt.control) r c
      (λ h. clean_turns) (λ h. fault_turns (guard_faults r c ∙ holds_true (not (eqb (guard_bits r c) 0)) h))

module _ (s : Settings) (z : Sized s) where
  abbrev Any : FuseRt → Type 0
  Any r = Unit {0}

  abbrev Arms : FuseRt → Step FuseRt TickSeen → Type 0
  Arms = Meets (step_of seen_of) (arm_of s) Any (Under s) (ArmLaw s)

  -- a call under s meets the law, and a refused one changes nothing that is seen
  arm_meets : (r : FuseRt) (c : Call) → Unit {0} → Under s c → Arms r (step_of seen_of r c)
  arm_meets r c o u =
      by_step seen_of (λ r'. Arms r) r c
      (λ h. (
        tt,
        subst (λ (s' : Settings). ArmLaw s' (arm_of s' r) (seen_of r c (given_of (decided r c))) (arm_of s' (decided r c).rt)) (u h)
            (arm_ticks r c (subst Sized (sym (u h)) z)),
      ))
      (λ h. (tt, refl))

  pub arm_runs : (r : FuseRt) (cs : List Call) → All (Under s) cs → Run (ArmLaw s) (arm_of s r) (ticks_from r cs)
  arm_runs r cs u = runs (step_of seen_of) (arm_of s) Any (Under s) (ArmLaw s) arm_meets cs u r tt

-- ---- the parts that begin with a reset, from any run state

module _ (s : Settings) (z : Sized s) (r : FuseRt) (cs : List Call) (u : All (Under s) cs) where
  pub stops_from : Stops s (ticks_from r cs)
  stops_from = stops_by s (arm_runs s z r cs u)

  pub faults_from : Faults (ticks_from r cs)
  faults_from = faults_by s (arm_runs s z r cs u)

  -- what is left of the limit
  pub rearms_from : total rearms_alone (ticks_from r cs) ≤ max_rearms s - r.control.rearms
  rearms_from = rearms_by s (arm_runs s z r cs u)

-- ---- the claim

-- of settings whose limits their fields can hold, as those of the code are (stops_close)
pub stops_close : (s : Settings) → Sized s → StopsCloseUnder s
unfolding reset_of fresh_control
stops_close s z =
    record {
      from_reset = λ r cs u. record {
        stops = stops_from s z (reset_of r) cs u;
        faults = faults_from s z (reset_of r) cs u;
        rearms = omega (arith, rearms_from s z (reset_of r) cs u);
      };
      acks = acks_once;
    }
