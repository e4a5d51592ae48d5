-- The ticks that stop the arm (request 8): the tally's count `stop_actions`, which the line `end`
-- prints as `stopped`, after any list of calls from a reset on, or from the settings on.
-- Proved in proofs/StopActions, `stop_actions_told`.
use Rattle.std.specs.Prelude.{◌≡◌, false, not, List, ℕ, ◌+◌, ◌-◌, ◌^◌, ◌<◌, min, T, eqb, length}
use Rattle.lictor_core.specs.declared.fuse.FuseRt.{FuseRt}
use Rattle.lictor_core.specs.declared.state.FuseMode.{FuseMode}
use Rattle.lictor_core.specs.declared.state.FuseMode.TheVariants.{Observe, Enforce}
use Rattle.lictor_core.specs.declared.tally.Tally.{Tally}
use Rattle.lictor_core.specs.declared.verdict.SafetyVerdict.{SafetyVerdict}
use Rattle.lictor_core.specs.Codes.{mode_of, is_stop}
use Rattle.lictor_core.specs.Initial.{new_of, reset_of}
use Rattle.lictor_tally.specs.Tally.{stops_arm}
use Rattle.claims.specs.Runs.{All}
use Rattle.claims.specs.Calls.{Call, tick_answer, settings_pass, guard_bits, left_by}
use Rattle.claims.specs.Tallies.{how_many, verdicts_from}

-- the call's settings, if they pass the check, have this mode
abbrev pub InMode : FuseMode → Call → Type 0
InMode m c = T (settings_pass c) → mode_of c.settings.mode ≡ m

-- the ticks that ended in one of the five stop states, whatever their action: what `end` printed
-- before the request
abbrev pub stop_states : Tally → ℕ
stop_states t = t.braking + t.held + t.escalated + t.fault + t.terminated

-- ---- one tick

-- the verdict that a call is answered with
abbrev pub verdict_on : FuseRt → Call → SafetyVerdict
verdict_on r c = (tick_answer r c).verdict

pub record TickStops (r : FuseRt) (c : Call) : Type 0 where
  -- a fault tick of the guard counts, in both modes
  pub guard : T (not (eqb (guard_bits r c) 0)) → T (stops_arm (verdict_on r c))
  -- a clean tick does not count in Observe, whatever state it ends in
  pub observe : T (eqb (guard_bits r c) 0) → InMode Observe c → stops_arm (verdict_on r c) ≡ false
  -- in Enforce a tick counts where it ends in a stop state
  pub enforce : InMode Enforce c → stops_arm (verdict_on r c) ≡ is_stop (verdict_on r c).state

-- ---- the claim

pub record StopActionsOf (r : FuseRt) (cs : List Call) : Type 0 where
  -- of whatever length: the number of verdicts that stop the arm, cut at the count's ceiling
  pub cut : (left_by r cs).tally.stop_actions ≡ min (how_many stops_arm (verdicts_from r cs)) (2 ^ 32 - 1)
  -- in Enforce, below 2^32 ticks: the sum of the five state counts, as before the request
  pub enforce : All (InMode Enforce) cs → length (verdicts_from r cs) < 2 ^ 32
      → (left_by r cs).tally.stop_actions ≡ stop_states (left_by r cs).tally

pub record StopActionsTold : Type 0 where
  -- from a reset on
  pub from_reset : (r : FuseRt) (cs : List Call) → StopActionsOf (reset_of r) cs
  -- from the settings on, where no reset came
  pub from_new : (cs : List Call) → StopActionsOf new_of cs
  -- of each tick, on any run state
  pub each : (r : FuseRt) (c : Call) → T (settings_pass c) → TickStops r c
