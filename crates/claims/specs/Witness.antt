-- Demand 3 is not met by having nothing to say (00-demands.md, Demand 3): one list of calls from
-- settings and a reset on in which stops begin and close, the fuse rearms by itself as often as it
-- may, an acknowledgement is consumed and comes again in vain, and a fault stays; and one with
-- resets in it, over which an acknowledgement stays spent (02-change-requests.md, Ask 6).
-- Proved by computing every tick, proofs/Witness, `witnessed` and `spent_witnessed`.
-- (That the limit of the first part is met, for all B, H and E: specs/Limit.)
use Rattle.std.specs.Prelude.{◌≡◌, Bool, true, false, cond, List, [], ◌∷◌, map, ℕ, ◌≤◌, T, Float, length, None, Some, Option}
use Rattle.lictor_core.specs.declared.chunk.ChunkHead.{ChunkHead}
use Rattle.lictor_core.specs.declared.ack.VerifiedAck.{VerifiedAck}
use Rattle.lictor_core.specs.declared.ack.AckDecision.TheVariants.{Resume}
use Rattle.lictor_core.specs.declared.envelope.RearmPolicy.TheVariants.{Auto}
use Rattle.lictor_core.specs.declared.envelope.Settings.{Settings}
use Rattle.lictor_core.specs.declared.state.FuseState.TheVariants.{Fault}
use Rattle.lictor_core.specs.Cases.{by_option}
use Rattle.lictor_core.specs.Codes.{state_code}
use Rattle.lictor_core.specs.Initial.{zero_float, one_float, new_of, reset_of}
use Rattle.lictor_core.specs.Masks.{nonfinite}
use Rattle.samples.specs.Samples.{sample_under, sample_outcome, sample_input, numbered_chunk}
use Rattle.claims.specs.Runs.{All, Where, total}
use Rattle.claims.specs.Calls.{Call, settings_pass, TickSeen, ticks_from, Entry, of_tick, of_reset, ticks_among}
use Rattle.claims.specs.Demand3.{max_rearms, Sized, ends_in, begins, none?, rearms_alone}

-- Auto, two rearms, at once where a chunk comes; standstill is confirmed by one tick; B, H and E 5
abbrev pub story_settings : Settings
story_settings =
    sample_under Auto
    (record {
      k = 255;
      warn_margin = zero_float;
      clear_ticks = 1;
      clamp_streak_to_brake = 255;
      max_clamps_per_episode = 0;
      stop_confirm_ticks = 1;
      v_stop_eps = zero_float;
      brake_timeout_ticks = 5;
      rearm_hold = 0;
      max_rearms = 2;
      escalate_after_hold_ticks = 5;
      handoff_timeout_ticks = 5;
      watchdog_ticks = 0;
    })
    0 0 one_float

-- ---- its calls

-- at t, with these trips, a brake that is feasible or not, a chunk and its values, an
-- acknowledgement; the arm stands
abbrev pub story_call : (t trips : ℕ) → Bool → Option ChunkHead → List Float → Option VerifiedAck → Call
story_call t trips feasible head values ack = record {
  settings = story_settings;
  input = sample_input t 0 false head ack;
  outcome = sample_outcome trips feasible zero_float;
  pos = zero_float ∷ [];
  vel = [];
  aux = [];
  ext = [];
  chunk = values;
}

-- the first: chunk 0, whose brake is infeasible
abbrev pub first_call : Call
first_call = story_call 0 0 false (Some (numbered_chunk 0 0)) (zero_float ∷ []) None

-- an infeasible brake; nothing; the chunk with this number; the acknowledgement with this nonce;
-- a fault bit
abbrev pub brakes : ℕ → Call
brakes t = story_call t 0 false None [] None

abbrev pub stands : ℕ → Call
stands t = story_call t 0 true None [] None

abbrev pub delivers : ℕ → ℕ → Call
delivers n t = story_call t 0 true (Some (numbered_chunk n t)) (zero_float ∷ []) None

abbrev pub resumes : ℕ → ℕ → Call
resumes n t = story_call t 0 true None [] (Some (record { decision = Resume; operator_slot = 3; nonce = n; handoff_seq = 0 }))

abbrev pub faulted : ℕ → Call
faulted t = story_call t nonfinite true None [] None

-- two stops that the fuse ends itself; one that it may not end, by an acknowledgement; one in which
-- that comes again, and a fault
unfoldable pub story : List Call
story =
    first_call ∷ stands 1 ∷ delivers 1 2
    ∷ brakes 3 ∷ stands 4 ∷ delivers 2 5
    ∷ brakes 6 ∷ stands 7 ∷ delivers 3 8 ∷ resumes 1 9
    ∷ brakes 10 ∷ stands 11 ∷ resumes 1 12 ∷ faulted 13 ∷ stands 14 ∷ []

-- ---- what is said of it

abbrev pub consumes : TickSeen → ℕ
consumes x = cond (none? x.took) 0 1

abbrev pub brings : Call → ℕ
brings c = cond (none? c.input.ack) 0 1

pub record Witness (l : List TickSeen) : Type 0 where
  -- the list is one of those that demand 3 speaks of, all ticks
  pub sized : Sized story_settings
  pub under : All (λ c. T (settings_pass c) × (c.settings ≡ story_settings)) story
  -- the states that its ticks end in
  pub states : map (λ x. state_code x.to) l ≡ 4 ∷ 5 ∷ 1 ∷ 4 ∷ 5 ∷ 1 ∷ 4 ∷ 5 ∷ 5 ∷ 1 ∷ 4 ∷ 5 ∷ 5 ∷ 7 ∷ 7 ∷ []
  -- stops: four begin
  pub stops : total (λ x. cond (begins x) 1 0) l ≡ 4
  -- rearms: as many as the settings allow
  pub rearms : total rearms_alone l ≡ max_rearms story_settings
  -- acks: one comes twice and is consumed once
  pub acks : (total brings story ≡ 2) × (total consumes l ≡ 1)
  -- faults: a tick ends in Fault, and one comes after it
  pub faults : Where (λ x after. T (ends_in Fault x) × (1 ≤ length after)) l

abbrev pub Witnessed : Type 0
Witnessed = Witness (ticks_from (reset_of new_of) story)

-- ---- acknowledgements over a reset

-- before the first reset the acknowledgement comes in vain, so it is not spent; it ends a stop; after
-- the next reset it comes again, to the same handoff number, and then the next nonce
unfoldable pub sequel : List Entry
sequel =
    of_tick (resumes 1 0)
    ∷ of_reset ∷ of_tick first_call ∷ of_tick (stands 1) ∷ of_tick (resumes 1 2)
    ∷ of_reset ∷ of_tick first_call ∷ of_tick (stands 1) ∷ of_tick (resumes 1 2) ∷ of_tick (resumes 2 3) ∷ []

-- the nonce that the tick consumes, or 0
abbrev pub nonce_taken : TickSeen → ℕ
nonce_taken x = by_option x.took 0 (λ a. a.nonce)

pub record SpentWitness (l : List TickSeen) : Type 0 where
  pub states : map (λ x. state_code x.to) l ≡ 7 ∷ 4 ∷ 5 ∷ 1 ∷ 4 ∷ 5 ∷ 5 ∷ 1 ∷ []
  pub taken : map nonce_taken l ≡ 0 ∷ 0 ∷ 0 ∷ 1 ∷ 0 ∷ 0 ∷ 0 ∷ 2 ∷ []

-- from the settings on
abbrev pub SpentWitnessed : Type 0
SpentWitnessed = SpentWitness (ticks_among new_of sequel)
