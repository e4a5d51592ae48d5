-- What a branch of the code has to do with a definition that goes by cases: a value that is the one
-- arm's is the whole's where the test says so.
-- `search branches` and `search states` close a function that only tests and calls.
use Rattle.std.proofs.Common.{◌≡◌, Bool, true, false, cond, None, Some, Option, not, ◌&&◌, ◌||◌, sym, refl, ◌∙◌, le-ltb, lt-ltb, eq-eqb, ne_eqb, le-leb}
use borrow.Author.Tests.{lt-leb}
use Rattle.lictor_core.specs.declared.state.FuseState.{FuseState}
use Rattle.lictor_core.specs.declared.state.FuseState.TheVariants as S
use Rattle.lictor_core.specs.declared.verdict.ActionSource.{ActionSource}
use Rattle.lictor_core.specs.declared.verdict.ActionSource.TheVariants as A
use Rattle.lictor_core.specs.declared.ack.AckDecision.{AckDecision}
use Rattle.lictor_core.specs.declared.ack.AckDecision.TheVariants.{Resume, Abort, Retune}
use Rattle.lictor_core.specs.declared.chunk.ActionKind.{ActionKind}
use Rattle.lictor_core.specs.declared.chunk.ActionKind.TheVariants.{EePosition, EeDelta, JointPosition, JointVelocity, Other}
use Rattle.lictor_core.specs.Cases.{by_state, by_source, by_decision, by_kind, by_option}

pub on_true : (X : Type 0) (t : Bool) (r a b : X) → t ≡ true → r ≡ a → r ≡ cond t a b
on_true X t r a b e q = rw e q

pub on_false : (X : Type 0) (t : Bool) (r a b : X) → t ≡ false → r ≡ b → r ≡ cond t a b
on_false X t r a b e q = rw e q

-- a test that a call answered
pub told_true : (u t : Bool) → u ≡ t → u ≡ true → t ≡ true
told_true u t p q = sym p ∙ q

pub told_false : (u t : Bool) → u ≡ t → u ≡ false → t ≡ false
told_false u t p q = sym p ∙ q

pub on_idle : (X : Type 0) (s : FuseState) (r i a w c b h e f t : X) → s ≡ S.Idle → r ≡ i → r ≡ by_state s i a w c b h e f t
on_idle X s r i a w c b h e f t p q = rw p q

pub on_armed : (X : Type 0) (s : FuseState) (r i a w c b h e f t : X) → s ≡ S.Armed → r ≡ a → r ≡ by_state s i a w c b h e f t
on_armed X s r i a w c b h e f t p q = rw p q

pub on_watching : (X : Type 0) (s : FuseState) (r i a w c b h e f t : X) → s ≡ S.Watching → r ≡ w → r ≡ by_state s i a w c b h e f t
on_watching X s r i a w c b h e f t p q = rw p q

pub on_clamped : (X : Type 0) (s : FuseState) (r i a w c b h e f t : X) → s ≡ S.Clamped → r ≡ c → r ≡ by_state s i a w c b h e f t
on_clamped X s r i a w c b h e f t p q = rw p q

pub on_braking : (X : Type 0) (s : FuseState) (r i a w c b h e f t : X) → s ≡ S.Braking → r ≡ b → r ≡ by_state s i a w c b h e f t
on_braking X s r i a w c b h e f t p q = rw p q

pub on_held : (X : Type 0) (s : FuseState) (r i a w c b h e f t : X) → s ≡ S.Held → r ≡ h → r ≡ by_state s i a w c b h e f t
on_held X s r i a w c b h e f t p q = rw p q

pub on_escalated : (X : Type 0) (s : FuseState) (r i a w c b h e f t : X) → s ≡ S.Escalated → r ≡ e → r ≡ by_state s i a w c b h e f t
on_escalated X s r i a w c b h e f t p q = rw p q

pub on_fault : (X : Type 0) (s : FuseState) (r i a w c b h e f t : X) → s ≡ S.Fault → r ≡ f → r ≡ by_state s i a w c b h e f t
on_fault X s r i a w c b h e f t p q = rw p q

pub on_terminated : (X : Type 0) (s : FuseState) (r i a w c b h e f t : X) → s ≡ S.Terminated → r ≡ t → r ≡ by_state s i a w c b h e f t
on_terminated X s r i a w c b h e f t p q = rw p q

pub from_policy : (X : Type 0) (s : ActionSource) (r p c b h : X) → s ≡ A.Policy → r ≡ p → r ≡ by_source s p c b h
from_policy X s r p c b h e q = rw e q

pub from_clamped : (X : Type 0) (s : ActionSource) (r p c b h : X) → s ≡ A.Clamped → r ≡ c → r ≡ by_source s p c b h
from_clamped X s r p c b h e q = rw e q

pub from_brake : (X : Type 0) (s : ActionSource) (r p c b h : X) → s ≡ A.Brake → r ≡ b → r ≡ by_source s p c b h
from_brake X s r p c b h e q = rw e q

pub from_hold : (X : Type 0) (s : ActionSource) (r p c b h : X) → s ≡ A.Hold → r ≡ h → r ≡ by_source s p c b h
from_hold X s r p c b h e q = rw e q

pub on_resume : (X : Type 0) (s : AckDecision) (r a b c : X) → s ≡ Resume → r ≡ a → r ≡ by_decision s a b c
on_resume X s r a b c p q = rw p q

pub on_abort : (X : Type 0) (s : AckDecision) (r a b c : X) → s ≡ Abort → r ≡ b → r ≡ by_decision s a b c
on_abort X s r a b c p q = rw p q

pub on_retune : (X : Type 0) (s : AckDecision) (r a b c : X) → s ≡ Retune → r ≡ c → r ≡ by_decision s a b c
on_retune X s r a b c p q = rw p q

pub on_ee_position : (X : Type 0) (s : ActionKind) (r a b c d e : X) → s ≡ EePosition → r ≡ a → r ≡ by_kind s a b c d e
on_ee_position X s r a b c d e p q = rw p q

pub on_ee_delta : (X : Type 0) (s : ActionKind) (r a b c d e : X) → s ≡ EeDelta → r ≡ b → r ≡ by_kind s a b c d e
on_ee_delta X s r a b c d e p q = rw p q

pub on_joint_position : (X : Type 0) (s : ActionKind) (r a b c d e : X) → s ≡ JointPosition → r ≡ c → r ≡ by_kind s a b c d e
on_joint_position X s r a b c d e p q = rw p q

pub on_joint_velocity : (X : Type 0) (s : ActionKind) (r a b c d e : X) → s ≡ JointVelocity → r ≡ d → r ≡ by_kind s a b c d e
on_joint_velocity X s r a b c d e p q = rw p q

pub on_other : (X : Type 0) (s : ActionKind) (r a b c d e : X) → s ≡ Other → r ≡ e → r ≡ by_kind s a b c d e
on_other X s r a b c d e p q = rw p q

-- one law for every Option: an acknowledgement, a chunk, a mark of the tally, a reason
pub on_none : {A : Type 0} (X : Type 0) (k : Option A) (r n : X) (f : A → X) → k ≡ None → r ≡ n → r ≡ by_option k n f
on_none X k r n f e q = rw e q

pub on_some : {A : Type 0} (X : Type 0) (k : Option A) (v : A) (r n : X) (f : A → X) → k ≡ Some v → r ≡ f v → r ≡ by_option k n f
on_some X k v r n f e q = rw e q

-- the value of `&&` and `||`, where that is what is asked
pub and_on : (a b r : Bool) → a ≡ true → r ≡ b → r ≡ (a && b)
and_on a b r e q = rw e q

pub and_off : (a b r : Bool) → a ≡ false → r ≡ false → r ≡ (a && b)
and_off a b r e q = rw e q

pub or_on : (a b r : Bool) → a ≡ true → r ≡ true → r ≡ (a || b)
or_on a b r e q = rw e q

pub or_off : (a b r : Bool) → a ≡ false → r ≡ b → r ≡ (a || b)
or_off a b r e q = rw e q

-- the same as a test
pub and_yes : (a b : Bool) → a ≡ true → b ≡ true → (a && b) ≡ true
and_yes a b e q = rw e q

pub and_no : (a b : Bool) → a ≡ false → (a && b) ≡ false
and_no a b e = rw e

pub and_no_2 : (a b : Bool) → b ≡ false → (a && b) ≡ false
and_no_2 true b e = e
and_no_2 false b e = refl

pub or_yes : (a b : Bool) → a ≡ true → (a || b) ≡ true
or_yes a b e = rw e

pub or_yes_2 : (a b : Bool) → b ≡ true → (a || b) ≡ true
or_yes_2 true b e = refl
or_yes_2 false b e = e

pub or_no : (a b : Bool) → a ≡ false → b ≡ false → (a || b) ≡ false
or_no a b e q = rw e q

pub not_yes : (a : Bool) → a ≡ false → not a ≡ true
not_yes a e = rw e

pub not_no : (a : Bool) → a ≡ true → not a ≡ false
not_no a e = rw e

pub ruleset tests = (told_true, told_false, and_on, and_off, or_on, or_off, and_yes, and_no, and_no_2, or_yes, or_yes_2, or_no, not_yes, not_no, lt-ltb, le-ltb, le-leb, lt-leb, eq-eqb, ne_eqb)

-- a bool, an Option, a decision
pub ruleset branches = (on_true, on_false, on_none, on_some, on_resume, on_abort, on_retune, tests)

-- the state
pub ruleset states = (on_idle, on_armed, on_watching, on_clamped, on_braking, on_held, on_escalated, on_fault, on_terminated, tests)

-- the action source
pub ruleset sources = (from_policy, from_clamped, from_brake, from_hold, tests)

-- the action kind
pub ruleset kinds = (on_true, on_false, on_ee_position, on_ee_delta, on_joint_position, on_joint_velocity, on_other, tests)
