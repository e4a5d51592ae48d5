-- Stage 7 (01-scope.md, One tick; fuse.rs, status_of, source_of, ACTION).
use Rattle.std.specs.Prelude.{true, false, not, cond, List, Float}
use Rattle.lictor_core.specs.declared.envelope.FuseConfig.{FuseConfig}
use Rattle.lictor_core.specs.declared.fuse.Motion.{Motion}
use Rattle.lictor_core.specs.declared.outcome.Outcome.{Outcome}
use Rattle.lictor_core.specs.declared.state.FuseState.{FuseState}
use Rattle.lictor_core.specs.declared.verdict.ActionSource.{ActionSource}
use Rattle.lictor_core.specs.declared.verdict.ActionSource.TheVariants as A
use Rattle.lictor_core.specs.declared.verdict.Status.{Status}
use Rattle.lictor_core.specs.declared.verdict.Status.TheVariants as Q
use Rattle.lictor_core.specs.Cases.{by_state, by_source}
use Rattle.lictor_core.specs.Codes.{is_observe, is_policy}
use Rattle.lictor_core.specs.Initial.{zeros}
use Rattle.lictor_core.specs.Rows.{taken_row}
use Rattle.lictor_core.specs.Sizes.{max_d}
use Rattle.lictor_detect.specs.Brake.{brake_action, hold_action}
use Rattle.lictor_stages.specs.declared.act.Acted.{Acted}

-- status_of: Idle and Armed are both Nominal
unfoldable pub status_of : FuseState → Status
status_of s = by_state s Q.Nominal Q.Nominal Q.Watching Q.Clamped Q.Braking Q.Held Q.Escalated Q.Fault Q.Terminated

-- source_of: Armed and Watching pass the policy's row, Clamped the clamped one,
-- Braking brakes, all others hold
unfoldable pub source_of : FuseState → ActionSource
source_of s = by_state s A.Hold A.Policy A.Policy A.Clamped A.Brake A.Hold A.Hold A.Hold A.Hold

-- an outcome's row, with zeros from place dim on
unfoldable pub cut_row : FuseConfig → List Float → List Float
cut_row cfg row = taken_row row (zeros max_d) cfg.dim

-- the policy's row as it is; a violation where the source would have been another
unfoldable pub passed_of : FuseConfig → ActionSource → List Float → Acted
passed_of cfg would policy = record { action = cut_row cfg policy; src = A.Policy; substituted = false; violation = not (is_policy would) }

-- another row than the policy's
unfoldable pub instead_of : ActionSource → List Float → Acted
instead_of s row = record { action = row; src = s; substituted = true; violation = false }

-- Enforce: by the source
unfoldable pub enforced_of : FuseConfig → ActionSource → Motion → List Float → List Float → List Float → Acted
enforced_of cfg would m hold policy clamped =
    by_source would (passed_of cfg A.Policy policy) (instead_of A.Clamped (cut_row cfg clamped)) (instead_of A.Brake (brake_action cfg m.pos m.vel))
    (instead_of A.Hold (hold_action cfg hold))

-- Observe: the policy's row always
unfoldable pub by_mode : FuseConfig → ActionSource → Motion → List Float → List Float → List Float → Acted
by_mode cfg would m hold policy clamped = cond (is_observe cfg.mode) (passed_of cfg would policy) (enforced_of cfg would m hold policy clamped)

-- the action of a clean tick that ends in state s, with the latched hold
unfoldable pub act_of : FuseConfig → FuseState → Motion → List Float → Outcome → Acted
act_of cfg s m hold out = by_mode cfg (source_of s) m hold out.policy out.clamped
