-- Of the codes that come in, the case of a case's number is that case.
use Rattle.std.proofs.Common.{◌≡◌, refl}
use Rattle.lictor_core.specs.declared.state.FuseMode.{FuseMode}
use Rattle.lictor_core.specs.declared.state.FuseMode.TheVariants.{Observe, Enforce}
use Rattle.lictor_core.specs.declared.ack.AckDecision.{AckDecision}
use Rattle.lictor_core.specs.declared.ack.AckDecision.TheVariants.{Resume, Abort, Retune}
use Rattle.lictor_core.specs.declared.chunk.ActionKind.{ActionKind}
use Rattle.lictor_core.specs.declared.chunk.ActionKind.TheVariants.{EePosition, EeDelta, JointPosition, JointVelocity, Other}
use Rattle.lictor_core.specs.declared.envelope.ClampMode.{ClampMode}
use Rattle.lictor_core.specs.declared.envelope.ClampMode.TheVariants.{Off, Project}
use Rattle.lictor_core.specs.declared.envelope.RearmPolicy.{RearmPolicy}
use Rattle.lictor_core.specs.declared.envelope.RearmPolicy.TheVariants.{Auto, AckOnly}
use Rattle.lictor_core.specs.Codes.{mode_code, mode_of, kind_code, kind_of, clamp_code, clamp_mode_of, rearm_code, rearm_of, decision_code, decision_of}

pub mode_back : (m : FuseMode) → mode_of (mode_code m) ≡ m
unfolding mode_of
mode_back Observe = refl
mode_back Enforce = refl

pub kind_back : (k : ActionKind) → kind_of (kind_code k) ≡ k
unfolding kind_of
kind_back EePosition = refl
kind_back EeDelta = refl
kind_back JointPosition = refl
kind_back JointVelocity = refl
kind_back Other = refl

pub clamp_back : (c : ClampMode) → clamp_mode_of (clamp_code c) ≡ c
unfolding clamp_mode_of
clamp_back Off = refl
clamp_back Project = refl

pub rearm_back : (p : RearmPolicy) → rearm_of (rearm_code p) ≡ p
unfolding rearm_of
rearm_back Auto = refl
rearm_back AckOnly = refl

pub decision_back : (d : AckDecision) → decision_of (decision_code d) ≡ d
unfolding decision_of
decision_back Resume = refl
decision_back Abort = refl
decision_back Retune = refl
