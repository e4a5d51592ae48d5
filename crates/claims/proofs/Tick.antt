-- A call is refused and changes nothing, or it is a tick by the transition table: a clean tick, or
-- a fault tick, which the guard makes.
use mathlib.Core.Path.{◌≡◌, refl}
use mathlib.Core.Bool.{Bool, true, false, cond, not}
use lib.Dec.{T, T_not, eqb}
use lib.Bits.{bit_or}
use Rattle.lictor_core.specs.declared.fuse.FuseRt.{FuseRt}
use Rattle.lictor_core.specs.Masks as M
use Rattle.lictor_settings.specs.Settings.{check_of, config_of}
use Rattle.lictor_guard.specs.Delivery.{delivered_of}
use Rattle.lictor_guard.specs.Guard.{bit_if, guard_of}
use Rattle.lictor_stages.specs.declared.findings.Findings.{Findings}
use Rattle.lictor_stages.specs.Ingest.{ingest_of}
use Rattle.lictor_stages.specs.Findings.{findings_of, machine_input}
use Rattle.lictor_table.specs.declared.Turn.{Turn}
use Rattle.lictor_table.specs.Table.{next_of}
use Rattle.lictor_table.proofs.Lines.{by_test}
use Rattle.lictor_fuse.specs.declared.decide.Decided.{Decided}
use Rattle.lictor_fuse.specs.declared.Ticked.{Ticked}
use Rattle.lictor_fuse.specs.Decide.{decide_by, decide_of}
use Rattle.lictor_fuse.specs.CleanTick.{ready_of, clean_tick}
use Rattle.lictor_fuse.specs.FaultTick.{fault_motion, fault_input, fault_tick}
use Rattle.lictor_fuse.specs.Tick.{given_of, accepted_tick, refused_tick, tick_by, tick_of}
use Rattle.claims.specs.Runs.{Step, silent, event}
use Rattle.claims.specs.Calls.{Call, tick_answer, settings_pass, guard_bits, step_by, step_of}

-- ---- a call

-- what `decide` answers to it
abbrev pub decided : FuseRt → Call → Decided
decided r c = decide_of (config_of c.settings) r c.input c.outcome c.pos c.vel c.aux c.ext c.chunk

-- what holds of a tick and of a refusal holds of the call
pub by_call : (P : Ticked → Type 0) (r : FuseRt) (c : Call)
    → (T (settings_pass c) → P (given_of (decided r c))) → (T (not (settings_pass c)) → P (refused_tick (check_of c.settings) r)) → P (tick_answer r c)
unfolding tick_of tick_by accepted_tick
by_call P r c f g = by_test P (settings_pass c) _ _ f g

-- a refused call leaves the run state as it was
pub refused_keeps : (r : FuseRt) (c : Call) → T (not (settings_pass c)) → (tick_answer r c).rt ≡ r
unfolding refused_tick
refused_keeps r c h = by_call (λ (a : Ticked). a.rt ≡ r) r c (λ f. absurd (T_not (settings_pass c) h f)) (λ g. refl)

module _ {A : Type 0} (see : FuseRt → Call → Ticked → A) where
  -- what holds of the event of a tick and the run state that it leaves, and of silence that leaves
  -- the run state as it was, holds of the step
  pub by_step : (P : FuseRt → Step FuseRt A → Type 0) (r : FuseRt) (c : Call)
      → (T (settings_pass c) → P (decided r c).rt (event (see r c (given_of (decided r c))) (decided r c).rt)) → (T (not (settings_pass c)) → P r (silent r))
      → P (tick_answer r c).rt (step_of see r c)
  unfolding given_of refused_tick
  by_step P r c f g =
      by_call (λ (a : Ticked). P a.rt (step_by see r c a)) r c f
      (λ h. by_test (P r) (settings_pass c) _ (silent r) (λ k. absurd (T_not (settings_pass c) h k)) (λ k. g h))

-- ---- a tick

module _ {A : Type 0} where
  by_both : (P : Bool → A → Type 0) (b : Bool) (x y : A) → (T b → P true x) → (T (not b) → P false y) → P b (cond b x y)
  by_both P true x y f g = f tt
  by_both P false x y f g = g tt

-- what holds of a clean tick where the guard finds no bit, and of a fault tick where it finds one,
-- holds of the tick
pub by_guard : (P : Bool → Decided → Type 0) (r : FuseRt) (c : Call)
    → (T (eqb (guard_bits r c) 0) → P true (clean_tick (config_of c.settings) r c.input c.outcome c.pos c.vel))
    → (T (not (eqb (guard_bits r c) 0)) → P false (fault_tick (config_of c.settings) r c.input (guard_bits r c) c.pos))
    → P (eqb (guard_bits r c) 0) (decided r c)
unfolding decide_of decide_by guard_bits
by_guard P r c f g = by_both P (eqb (guard_bits r c) 0) _ _ f g

pub holds_true : (b : Bool) → T b → b ≡ true
holds_true true h = refl
holds_true false h = absurd h

-- every bit that the guard finds is a fault bit
three_bits : (a b d : Bool) → M.any_of (bit_or (bit_or (bit_if a M.nonfinite) (bit_if b M.schema)) (bit_if d M.watchdog)) M.fault_bits
    ≡ not (eqb (bit_or (bit_or (bit_if a M.nonfinite) (bit_if b M.schema)) (bit_if d M.watchdog)) 0)
unfolding M.any_of bit_if
three_bits true true true = refl
three_bits true true false = refl
three_bits true false true = refl
three_bits true false false = refl
three_bits false true true = refl
three_bits false true false = refl
three_bits false false true = refl
three_bits false false false = refl

pub guard_faults : (r : FuseRt) (c : Call) → M.any_of (guard_bits r c) M.fault_bits ≡ not (eqb (guard_bits r c) 0)
unfolding guard_bits guard_of
guard_faults r c = three_bits _ _ _

-- what the state machine is asked, and what it answers: in a clean tick, and in a fault tick

abbrev pub found_of : FuseRt → Call → Findings
found_of r c =
    findings_of (config_of c.settings) (delivered_of c.input.chunk) c.outcome r.control.window
    (ingest_of (config_of c.settings) r.motion c.input.has_vel c.pos c.vel).vel

abbrev pub clean_turn : FuseRt → Call → Turn
clean_turn r c =
    next_of (config_of c.settings) (ready_of r.control (found_of r c))
    (ingest_of (config_of c.settings) r.motion c.input.has_vel c.pos c.vel).pos
    (machine_input (config_of c.settings) c.input (found_of r c))

abbrev pub fault_turn : FuseRt → Call → Turn
fault_turn r c =
    next_of (config_of c.settings) r.control (fault_motion (config_of c.settings) r.motion c.pos).pos
    (fault_input (config_of c.settings) c.input (guard_bits r c))
