-- The number of a case, as the machine has it, is the paper's.
use mathlib.Core.Path.{◌≡◌, refl}
use denote.Enum.Declared.{tag_of}
use Rattle.lictor_core.specs.Codes.{state_code, status_code, reason_code, source_code}
use Rattle.lictor_core.specs.contracts.state.FuseState.{the_type as state_type}
use Rattle.lictor_core.specs.declared.state.FuseState.{FuseState}
use Rattle.lictor_core.specs.declared.state.FuseState.TheVariants as F
use Rattle.lictor_core.specs.contracts.verdict.Status.{the_type as status_type}
use Rattle.lictor_core.specs.declared.verdict.Status.{Status}
use Rattle.lictor_core.specs.declared.verdict.Status.TheVariants as Q
use Rattle.lictor_core.specs.contracts.reason.ReasonCode.{the_type as reason_type}
use Rattle.lictor_core.specs.declared.reason.ReasonCode.{ReasonCode}
use Rattle.lictor_core.specs.declared.reason.ReasonCode.TheVariants as R
use Rattle.lictor_core.specs.contracts.verdict.ActionSource.{the_type as source_type}
use Rattle.lictor_core.specs.declared.verdict.ActionSource.{ActionSource}
use Rattle.lictor_core.specs.declared.verdict.ActionSource.TheVariants as A

pub state_is : (x : FuseState) → tag_of state_type x ≡ state_code x
state_is F.Idle = refl
state_is _ = refl

pub status_is : (x : Status) → tag_of status_type x ≡ status_code x
status_is Q.Nominal = refl
status_is _ = refl

pub reason_is : (x : ReasonCode) → tag_of reason_type x ≡ reason_code x
reason_is R.Ok = refl
reason_is _ = refl

pub source_is : (x : ActionSource) → tag_of source_type x ≡ source_code x
source_is A.Policy = refl
source_is _ = refl
