-- A host in C or Rust calls the library again and again, each time on the run state that the call
-- before left in the memory that it lends. The answers are those of the fuse to its own list of
-- calls (01-scope.md, The list in demand 3), as numbers, and of that list the three parts of
-- demand 3 hold that begin with a reset. The fourth is in specs/HostAcks.
use Rattle.std.specs.Prelude.{◌≡◌, List, [], ◌∷◌, map, Float}
use Rattle.lictor_core.specs.Initial.{reset_of}
use Rattle.lictor_core.specs.declared.fuse.FuseRt.{FuseRt}
use Rattle.lictor_fuse.specs.declared.Ticked.{Ticked}
use Rattle.claims.specs.Runs.{All}
use Rattle.claims.specs.Calls.{Call, Under, tick_answer, ticks_from}
use Rattle.claims.specs.Demand3.{FromReset}
use Rattle.host_layout.specs.declared.input.Settings.{Settings}
use Rattle.host_layout.specs.declared.input.Input.{Input}
use Rattle.host_layout.specs.declared.input.Outcome.{Outcome}
use Rattle.host_layout.specs.declared.state.RunState.{RunState}
use Rattle.host_layout.specs.Input.{settings_in, input_in, outcome_in}
use Rattle.host_layout.specs.State.{state_in}
use Rattle.host_c.specs.declared.Called.{Called}
use Rattle.host_c.specs.Call.{ticked_out, called_of, reset_run}

-- what a host hands to `disklorva_tick` beside the run state
pub record HostCall : Type 0 where
  pub settings : Settings
  pub input : Input
  pub outcome : Outcome
  pub pos : List Float
  pub vel : List Float
  pub aux : List Float
  pub ext : List Float
  pub chunk : List Float

-- the call of the fuse that this means
abbrev pub meant : HostCall → Call
meant h = record {
  settings = settings_in h.settings;
  input = input_in h.input;
  outcome = outcome_in h.outcome;
  pos = h.pos;
  vel = h.vel;
  aux = h.aux;
  ext = h.ext;
  chunk = h.chunk;
}

-- what the library answers, with the run state that it leaves:
-- the definition that `disklorva_tick` promises (crates/host_c/src/lib.rt)
abbrev pub answered : RunState → HostCall → Called
answered rt h = called_of rt h.settings h.input h.outcome h.pos h.vel h.aux h.ext h.chunk

-- the answers to a list of calls, each on the run state that the one before left
abbrev pub answered_from : RunState → List HostCall → List Called
answered_from rt [] = []
answered_from rt (h ∷ hs) = answered rt h ∷ answered_from (answered rt h).rt hs

-- the same of the fuse itself
abbrev pub answers_from : FuseRt → List Call → List Ticked
answers_from r [] = []
answers_from r (c ∷ cs) = tick_answer r c ∷ answers_from (tick_answer r c).rt cs

-- From a reset on, whatever numbers were lent for it:
-- number, run state and verdict of each call are those of the fuse's own run.
abbrev pub HostRun : Type 0
HostRun =
    (rt : RunState) (hs : List HostCall)
    → answered_from (reset_run rt) hs ≡ map ticked_out (answers_from (reset_of (state_in rt)) (map meant hs))

-- Of calls under one settings record s, refused ones among them: the library's answers are those of
-- the fuse's own run, and of the ticks of that run the three parts of demand 3 hold.
pub record HostStops (s : Settings) (rt : RunState) (hs : List HostCall) : Type 0 where
  pub answers : answered_from (reset_run rt) hs ≡ map ticked_out (answers_from (reset_of (state_in rt)) (map meant hs))
  pub stops : FromReset (settings_in s) (ticks_from (reset_of (state_in rt)) (map meant hs))

-- The claim: of every list of calls under s. `stops_close` promises it of every settings record
-- that a host can hold (src/lib.rt).
abbrev pub HostStopsUnder : Settings → Type 0
HostStopsUnder s =
    (rt : RunState) (hs : List HostCall) → All (λ h. Under (settings_in s) (meant h)) hs → HostStops s rt hs
