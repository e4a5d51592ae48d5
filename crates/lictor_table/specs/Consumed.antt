-- Which acknowledgement a tick consumes (01-scope.md, The list in demand 3).
use Rattle.std.specs.Prelude.{None, Some, Option}
use Rattle.lictor_core.specs.declared.ack.VerifiedAck.{VerifiedAck}
use Rattle.lictor_core.specs.declared.state.FuseState.{FuseState}
use Rattle.lictor_core.specs.Cases.{by_state, by_option, by_decision}

-- of an accepted one: in Escalated any, in Held a Resume or an Abort, elsewhere none
abbrev pub taken_in : FuseState → Option VerifiedAck → Option VerifiedAck
taken_in from ack =
    by_state from None None None None None (by_option ack None (λ a. by_decision a.decision (Some a) (Some a) None)) ack None None
