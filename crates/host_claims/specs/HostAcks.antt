-- The acknowledgements of a host in C or Rust (02-change-requests.md, Ask 6; 00-demands.md,
-- Demand 3): in every list of its calls, with resets and refused calls anywhere among them, no slot
-- and nonce is consumed twice. Proved in proofs/HostAcks, `host_acks`.
use Rattle.std.specs.Prelude.{◌≡◌, List, [], ◌∷◌, map}
use Rattle.lictor_core.specs.Initial.{new_of, reset_of}
use Rattle.lictor_core.specs.declared.fuse.FuseRt.{FuseRt}
use Rattle.lictor_fuse.specs.declared.Ticked.{Ticked}
use Rattle.claims.specs.Calls.{tick_answer, Entry, of_tick, of_reset, ticks_among}
use Rattle.claims.specs.Demand3.{Acks}
use Rattle.host_layout.specs.declared.state.RunState.{RunState}
use Rattle.host_layout.specs.State.{state_in}
use Rattle.host_c.specs.declared.Called.{Called}
use Rattle.host_c.specs.Call.{ticked_out, reset_run}
use Rattle.host_claims.specs.HostRun.{HostCall, meant, answered}
use Rattle.host_claims.specs.HostCut.{new_run}

-- a call of `disklorva_tick`, or one of `disklorva_reset`
pub data HostEntry : Type 0 where
  host_tick : HostCall → HostEntry
  host_reset : HostEntry

-- the call of the fuse that this means
abbrev pub meant_entry : HostEntry → Entry
meant_entry (host_tick h) = of_tick (meant h)
meant_entry host_reset = of_reset

-- the answers of the ticks of such a list, each call on the run state that the one before left
abbrev pub answered_among : RunState → List HostEntry → List Called
answered_among rt [] = []
answered_among rt (host_tick h ∷ es) = answered rt h ∷ answered_among (answered rt h).rt es
answered_among rt (host_reset ∷ es) = answered_among (reset_run rt) es

-- the same of the fuse itself
abbrev pub answers_among : FuseRt → List Entry → List Ticked
answers_among r [] = []
answers_among r (of_tick c ∷ es) = tick_answer r c ∷ answers_among (tick_answer r c).rt es
answers_among r (of_reset ∷ es) = answers_among (reset_of r) es

-- of a list from the lent run state rt on, which means r: the library's answers are those of the
-- fuse's own run, and of the ticks of that run the fourth part of demand 3 holds
pub record HostAcks (rt : RunState) (r : FuseRt) (es : List HostEntry) : Type 0 where
  pub answers : answered_among rt es ≡ map ticked_out (answers_among r (map meant_entry es))
  pub acks : Acks (ticks_among r (map meant_entry es))

-- The claim: `acks_once` promises it of every run state that a host can lend (src/lib.rt).
pub record HostAcksOnce (rt : RunState) : Type 0 where
  -- from a new run state on, whether or not a reset comes first
  pub from_new : (es : List HostEntry) → HostAcks new_run new_of es
  -- from a reset on, whatever nonces the lent run state has stored
  pub from_reset : (es : List HostEntry) → HostAcks (reset_run rt) (reset_of (state_in rt)) es
