-- An episode that a host counts in stretches (request 3): its calls cut at any place, the second
-- stretch begun from the run state at the cut with the tally of a new one. The library joins the two
-- tallies to that of the uncut list, and its answers are those of the uncut list; so it is with more
-- stretches. Proved in proofs/HostCut, `host_cuts`.
use Rattle.std.specs.Prelude.{◌≡◌, List, [], ◌∷◌, ◌++◌, map}
use Rattle.lictor_core.specs.Initial.{new_of}
use Rattle.host_layout.specs.declared.state.RunState.{RunState}
use Rattle.host_layout.specs.declared.state.Tally.{Tally}
use Rattle.host_layout.specs.State.{state_out}
use Rattle.host_c.specs.declared.Answer.{Answer}
use Rattle.host_c.specs.Call.{answer_of, joined_tally, reset_run}
use Rattle.host_claims.specs.HostRun.{HostCall, answered, answered_from}

-- the run state that a list of calls leaves
abbrev pub host_left : RunState → List HostCall → RunState
host_left rt [] = rt
host_left rt (h ∷ hs) = host_left (answered rt h).rt hs

-- number and verdict of each answer
abbrev pub said_from : RunState → List HostCall → List Answer
said_from rt hs = map answer_of (answered_from rt hs)

-- what `disklorva_new` gives (crates/host_c/src/lib.rt)
abbrev pub new_run : RunState
new_run = state_out new_of

-- its tally in place of the run state's own, and all else as it was
abbrev pub emptied : RunState → RunState
emptied rt = record { control = rt.control; motion = rt.motion; clock = rt.clock; tally = new_run.tally }

-- what the second stretch begins with, where the first was the calls g from rt on
abbrev pub host_second : RunState → List HostCall → RunState
host_second rt g = emptied (host_left rt g)

-- ---- two stretches

-- of the calls g and then h, from rt on: cut between them, and not cut
pub record HostCut (rt : RunState) (g h : List HostCall) : Type 0 where
  pub tally : joined_tally (host_left rt g).tally (host_left (host_second rt g) h).tally ≡ (host_left rt (g ++ h)).tally
  pub answers : said_from rt g ++ said_from (host_second rt g) h ≡ said_from rt (g ++ h)
  -- but for the tally the second stretch leaves the run state of the uncut list
  pub state : emptied (host_left (host_second rt g) h) ≡ host_second rt (g ++ h)

-- ---- any number of stretches: after the first, those of a list of lists

abbrev pub calls_of : List (List HostCall) → List HostCall
calls_of [] = []
calls_of (h ∷ hs) = h ++ calls_of hs

-- each stretch begins from the run state at the end of the one before with an empty tally, and its
-- tally is joined to those before it
abbrev pub joined_on : Tally → RunState → List (List HostCall) → Tally
joined_on earlier rt [] = earlier
joined_on earlier rt (h ∷ hs) = joined_on (joined_tally earlier (host_left rt h).tally) (host_second rt h) hs

abbrev pub said_in : RunState → List (List HostCall) → List Answer
said_in rt [] = []
said_in rt (h ∷ hs) = said_from rt h ++ said_in (host_second rt h) hs

-- of the calls g and then those of hs, from rt on: cut between any two, and not cut
pub record HostStretches (rt : RunState) (g : List HostCall) (hs : List (List HostCall)) : Type 0 where
  pub tally : joined_on (host_left rt g).tally (host_second rt g) hs ≡ (host_left rt (g ++ calls_of hs)).tally
  pub answers : said_from rt g ++ said_in (host_second rt g) hs ≡ said_from rt (g ++ calls_of hs)

-- ---- the claim

-- Of whatever length, cut anywhere, at either end too; refused calls among them.
pub record HostCuts : Type 0 where
  -- from a reset on, and from a new run state on
  pub from_reset : (rt : RunState) (g h : List HostCall) → HostCut (reset_run rt) g h
  pub from_new : (g h : List HostCall) → HostCut new_run g h
  -- a second stretch may be cut again
  pub again_from_reset : (rt : RunState) (f g h : List HostCall) → HostCut (host_second (reset_run rt) f) g h
  pub again_from_new : (f g h : List HostCall) → HostCut (host_second new_run f) g h
  -- any number of stretches, joined in their order
  pub many_from_reset : (rt : RunState) (g : List HostCall) (hs : List (List HostCall)) → HostStretches (reset_run rt) g hs
  pub many_from_new : (g : List HostCall) (hs : List (List HostCall)) → HostStretches new_run g hs
