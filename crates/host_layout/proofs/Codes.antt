-- The numbers of a verdict one by one: of its codes, its flags, and the handoff that begins with it.
use Rattle.std.proofs.Common.{rules}
use Rattle.std.specs.Int.{from_bool}
use Rattle.std.specs.Prelude.{◌≡◌, refl, Bool, ℕ, None, Some, Option, is_some, unwrap_or}
use denote.Enum.Declared.{tag_of}
use Rattle.lictor_core.specs.Codes.{state_code, status_code, source_code, reason_code}
use Rattle.lictor_core.specs.contracts.reason.ReasonCode as Reasons
use Rattle.lictor_core.specs.contracts.state.FuseState as States
use Rattle.lictor_core.specs.contracts.verdict.ActionSource as Sources
use Rattle.lictor_core.specs.contracts.verdict.Status as Statuses
use Rattle.lictor_core.specs.declared.reason.ReasonCode.{ReasonCode}
use Rattle.lictor_core.specs.declared.state.FuseState.{FuseState}
use Rattle.lictor_core.specs.declared.verdict.ActionSource.{ActionSource}
use Rattle.lictor_core.specs.declared.verdict.Status.{Status}
use Rattle.host_layout.specs.Flags.{flag_code}
use Rattle.host_layout.specs.Verdict.{handoff_set, handoff_number}

pub reason_by : (w : ReasonCode) → tag_of Reasons.the_type w ≡ reason_code w
reason_by w = search rules

pub state_by : (s : FuseState) → tag_of States.the_type s ≡ state_code s
state_by s = search rules

pub source_by : (s : ActionSource) → tag_of Sources.the_type s ≡ source_code s
source_by s = search rules

pub status_by : (s : Status) → tag_of Statuses.the_type s ≡ status_code s
status_by s = search rules

pub flag_by : (b : Bool) → from_bool b ≡ flag_code b
unfolding flag_code
flag_by b = search rules

pub set_by : (h : Option ℕ) → from_bool (is_some h) ≡ handoff_set h
set_by None = refl
set_by (Some n) = refl

pub number_by : (h : Option ℕ) → unwrap_or h 0 ≡ handoff_number h
number_by None = refl
number_by (Some n) = refl
