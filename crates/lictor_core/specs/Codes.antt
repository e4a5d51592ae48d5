-- The paper's number of each case of each enum, from 0 in the order of the source (01-scope.md,
-- Modules 1 and Journal kinds 1 and 3): one definition an enum, which promises and printing use.
-- For codes that come in, the case of each number too, which undoes the first (proofs/Codes). A
-- number that is not listed is refused before: in settings by their check, in an acknowledgement by
-- the journal's refusal table or, of a host's call, as none. Its case here is the last.
use Rattle.std.specs.Prelude.{ℕ, Bool, cond, ◌||◌, ◌==◌, nat_le, nat_lt, Result, Ok, Err}
use Rattle.lictor_core.specs.declared.code.Unlisted.{Unlisted}
use Rattle.lictor_core.specs.declared.state.FuseState.{FuseState}
use Rattle.lictor_core.specs.declared.state.FuseState.TheVariants as S
use Rattle.lictor_core.specs.declared.state.FuseMode.{FuseMode}
use Rattle.lictor_core.specs.declared.state.FuseMode.TheVariants.{Observe, Enforce}
use Rattle.lictor_core.specs.declared.reason.ReasonCode.{ReasonCode}
use Rattle.lictor_core.specs.declared.reason.ReasonCode.TheVariants as R
use Rattle.lictor_core.specs.declared.verdict.Status.{Status}
use Rattle.lictor_core.specs.declared.verdict.Status.TheVariants as Q
use Rattle.lictor_core.specs.declared.verdict.ActionSource.{ActionSource}
use Rattle.lictor_core.specs.declared.verdict.ActionSource.TheVariants as A
use Rattle.lictor_core.specs.declared.ack.AckDecision.{AckDecision}
use Rattle.lictor_core.specs.declared.ack.AckDecision.TheVariants.{Resume, Abort, Retune}
use Rattle.lictor_core.specs.declared.chunk.ActionKind.{ActionKind}
use Rattle.lictor_core.specs.declared.chunk.ActionKind.TheVariants.{EePosition, EeDelta, JointPosition, JointVelocity, Other}
use Rattle.lictor_core.specs.declared.envelope.ClampMode.{ClampMode}
use Rattle.lictor_core.specs.declared.envelope.ClampMode.TheVariants.{Off, Project}
use Rattle.lictor_core.specs.declared.envelope.RearmPolicy.{RearmPolicy}
use Rattle.lictor_core.specs.declared.envelope.RearmPolicy.TheVariants.{Auto, AckOnly}

-- state.rs
abbrev pub state_code : FuseState → ℕ
state_code S.Idle = 0
state_code S.Armed = 1
state_code S.Watching = 2
state_code S.Clamped = 3
state_code S.Braking = 4
state_code S.Held = 5
state_code S.Escalated = 6
state_code S.Fault = 7
state_code S.Terminated = 8

-- reason.rs
abbrev pub reason_code : ReasonCode → ℕ
reason_code R.Ok = 0
reason_code R.ObserveOnly = 1
reason_code R.WatchBand = 2
reason_code R.ClampWorkspace = 3
reason_code R.ClampSpeed = 4
reason_code R.ClampAccel = 5
reason_code R.ClampJerk = 6
reason_code R.ClampReach = 7
reason_code R.ClampContact = 8
reason_code R.BrakeInfeasible = 9
reason_code R.BrakeTier1Cp = 10
reason_code R.BrakeClampBudget = 11
reason_code R.Stopping = 12
reason_code R.HeldStandstill = 13
reason_code R.EscalateHoldTimeout = 14
reason_code R.EscalateRearmBudget = 15
reason_code R.EscalateTier1Persistent = 16
reason_code R.FaultNonFinite = 17
reason_code R.FaultSchema = 18
reason_code R.FaultWatchdog = 19
reason_code R.FaultBrakeTimeout = 20
reason_code R.FaultInternal = 21
reason_code R.RearmedAuto = 22
reason_code R.RearmedAck = 23
reason_code R.TerminatedAbort = 24
reason_code R.TerminatedTimeout = 25
reason_code R.TerminatedRetune = 26
reason_code R.EpisodeEnd = 27

-- verdict.rs
abbrev pub status_code : Status → ℕ
status_code Q.Nominal = 0
status_code Q.Watching = 1
status_code Q.Clamped = 2
status_code Q.Braking = 3
status_code Q.Held = 4
status_code Q.Escalated = 5
status_code Q.Fault = 6
status_code Q.Terminated = 7

-- verdict.rs
abbrev pub source_code : ActionSource → ℕ
source_code A.Policy = 0
source_code A.Clamped = 1
source_code A.Brake = 2
source_code A.Hold = 3

-- state.rs
abbrev pub mode_code : FuseMode → ℕ
mode_code Observe = 0
mode_code Enforce = 1

unfoldable pub mode_of : ℕ → FuseMode
mode_of n = cond (n == mode_code Observe) Observe Enforce

-- chunk.rs
abbrev pub kind_code : ActionKind → ℕ
kind_code EePosition = 0
kind_code EeDelta = 1
kind_code JointPosition = 2
kind_code JointVelocity = 3
kind_code Other = 4

unfoldable pub kind_of : ℕ → ActionKind
kind_of n =
    cond (n == kind_code EePosition) EePosition
    (cond (n == kind_code EeDelta) EeDelta
    (cond (n == kind_code JointPosition) JointPosition
    (cond (n == kind_code JointVelocity) JointVelocity Other)))

-- envelope.rs
abbrev pub clamp_code : ClampMode → ℕ
clamp_code Off = 0
clamp_code Project = 1

unfoldable pub clamp_mode_of : ℕ → ClampMode
clamp_mode_of n = cond (n == clamp_code Off) Off Project

-- envelope.rs
abbrev pub rearm_code : RearmPolicy → ℕ
rearm_code Auto = 0
rearm_code AckOnly = 1

unfoldable pub rearm_of : ℕ → RearmPolicy
rearm_of n = cond (n == rearm_code Auto) Auto AckOnly

-- ack.rs
abbrev pub decision_code : AckDecision → ℕ
decision_code Resume = 0
decision_code Abort = 1
decision_code Retune = 2

unfoldable pub decision_of : ℕ → AckDecision
decision_of n = cond (n == decision_code Resume) Resume (cond (n == decision_code Abort) Abort Retune)

-- what a number says of an enum of so many cases: its case, or that it is the code of none
abbrev pub listed : {A : Type 0} → ℕ → (ℕ → A) → ℕ → Result A Unlisted
listed cases of n = cond (nat_lt n cases) (Ok (of n)) (Err (record { 0 = n }))

-- how many cases there are of each that comes in by its number
abbrev pub modes : ℕ
modes = 2

abbrev pub kinds : ℕ
kinds = 5

abbrev pub clamp_modes : ℕ
clamp_modes = 2

abbrev pub rearm_policies : ℕ
rearm_policies = 2

abbrev pub decisions : ℕ
decisions = 3

-- a flag is 0 or 1
abbrev pub flags : ℕ
flags = 2

-- the states in which the fuse stops the robot: Braking, Held, Escalated, Fault, Terminated
-- (state.rs, is_stop)
abbrev pub is_stop : FuseState → Bool
is_stop s = nat_le (state_code S.Braking) (state_code s)

abbrev pub is_state : FuseState → FuseState → Bool
is_state q s = state_code q == state_code s

abbrev pub is_reason : ReasonCode → ReasonCode → Bool
is_reason q w = reason_code q == reason_code w

abbrev pub is_policy : ActionSource → Bool
is_policy s = source_code s == source_code A.Policy

abbrev pub is_source : ActionSource → ActionSource → Bool
is_source q s = source_code q == source_code s

-- the actions by which the fuse stops the robot, the brake and the hold one: no row of the outcome
-- (02-change-requests.md, Ask 8)
abbrev pub is_stop_action : ActionSource → Bool
is_stop_action s = is_source s A.Brake || is_source s A.Hold

abbrev pub is_observe : FuseMode → Bool
is_observe m = mode_code m == mode_code Observe

abbrev pub is_project : ClampMode → Bool
is_project c = clamp_code c == clamp_code Project

abbrev pub is_auto : RearmPolicy → Bool
is_auto p = rearm_code p == rearm_code Auto
