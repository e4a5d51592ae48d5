-- The cases of an enum as a function: definitions go by them where the code has a `match`, so that
-- one law a case (proofs/Branch) joins the two.
-- The enums are those of state.rs, verdict.rs, ack.rs and chunk.rs; an Option has one for any type.
use Rattle.lictor_core.specs.declared.state.FuseState.{FuseState}
use Rattle.lictor_core.specs.declared.state.FuseState.TheVariants as S
use Rattle.lictor_core.specs.declared.verdict.ActionSource.{ActionSource}
use Rattle.lictor_core.specs.declared.verdict.ActionSource.TheVariants as A
use Rattle.lictor_core.specs.declared.ack.AckDecision.{AckDecision}
use Rattle.lictor_core.specs.declared.ack.AckDecision.TheVariants.{Resume, Abort, Retune}
use Rattle.lictor_core.specs.declared.chunk.ActionKind.{ActionKind}
use Rattle.lictor_core.specs.declared.chunk.ActionKind.TheVariants.{EePosition, EeDelta, JointPosition, JointVelocity, Other}
use Rattle.std.specs.Prelude.{None, Some, Option}

abbrev pub by_state : {X : Type 0} → FuseState → X → X → X → X → X → X → X → X → X → X
by_state S.Idle i a w c b h e f t = i
by_state S.Armed i a w c b h e f t = a
by_state S.Watching i a w c b h e f t = w
by_state S.Clamped i a w c b h e f t = c
by_state S.Braking i a w c b h e f t = b
by_state S.Held i a w c b h e f t = h
by_state S.Escalated i a w c b h e f t = e
by_state S.Fault i a w c b h e f t = f
by_state S.Terminated i a w c b h e f t = t

abbrev pub by_source : {X : Type 0} → ActionSource → X → X → X → X → X
by_source A.Policy p c b h = p
by_source A.Clamped p c b h = c
by_source A.Brake p c b h = b
by_source A.Hold p c b h = h

abbrev pub by_decision : {X : Type 0} → AckDecision → X → X → X → X
by_decision Resume a b c = a
by_decision Abort a b c = b
by_decision Retune a b c = c

abbrev pub by_kind : {X : Type 0} → ActionKind → X → X → X → X → X → X
by_kind EePosition a b c d e = a
by_kind EeDelta a b c d e = b
by_kind JointPosition a b c d e = c
by_kind JointVelocity a b c d e = d
by_kind Other a b c d e = e

abbrev pub by_option : {A X : Type 0} → Option A → X → (A → X) → X
by_option None n f = n
by_option (Some a) n f = f a
