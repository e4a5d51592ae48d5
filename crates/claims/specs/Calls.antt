-- A list of calls of `tick`, and what is seen of each (01-scope.md, The list in demand 3);
-- and one with resets among them (02-change-requests.md, Ask 6).
use Rattle.std.specs.Prelude.{◌≡◌, Bool, cond, not, ◌||◌, List, [], ◌∷◌, ℕ, T, eqb, Float, None, Option}
use Rattle.lictor_core.specs.declared.ack.VerifiedAck.{VerifiedAck}
use Rattle.lictor_core.specs.declared.envelope.Settings.{Settings}
use Rattle.lictor_core.specs.declared.fuse.FuseRt.{FuseRt}
use Rattle.lictor_core.specs.declared.fuse.TickInput.{TickInput}
use Rattle.lictor_core.specs.declared.outcome.Outcome.{Outcome}
use Rattle.lictor_core.specs.declared.state.FuseState.{FuseState}
use Rattle.lictor_core.specs.Initial.{reset_of}
use Rattle.lictor_core.specs.Masks.{any_of, fault_bits}
use Rattle.lictor_settings.specs.Settings.{check_of, config_of}
use Rattle.lictor_guard.specs.Guard.{guard_of}
use Rattle.lictor_stages.specs.Findings.{masked_of}
use Rattle.lictor_table.specs.Helpers.{accepted_ack}
use Rattle.lictor_table.specs.Consumed.{taken_in}
use Rattle.lictor_fuse.specs.declared.Ticked.{Ticked}
use Rattle.lictor_fuse.specs.Tick.{is_accepted, tick_of}
use Rattle.claims.specs.Runs.{Step, silent, event, course}

-- ---- a call

-- settings, and a tick's input of any kind: its numbers, the outcome, the five lists
pub record Call : Type 0 where
  pub settings : Settings
  pub input : TickInput
  pub outcome : Outcome
  pub pos : List Float
  pub vel : List Float
  pub aux : List Float
  pub ext : List Float
  pub chunk : List Float

-- what `tick` answers: the definition that it promises (crates/lictor_fuse/src/lib.rt)
abbrev pub tick_answer : FuseRt → Call → Ticked
tick_answer r c = tick_of c.settings r c.input c.outcome c.pos c.vel c.aux c.ext c.chunk

-- the settings pass the check
abbrev pub settings_pass : Call → Bool
settings_pass c = is_accepted (check_of c.settings)

-- the call's settings are s, if they pass the check
abbrev pub Under : Settings → Call → Type 0
Under s c = T (settings_pass c) → c.settings ≡ s

-- ---- what a tick brings, and what it does with it

-- the bits that the guard finds
unfoldable pub guard_bits : FuseRt → Call → ℕ
guard_bits r c = guard_of (config_of c.settings) r.clock c.input c.pos c.vel c.aux c.ext c.chunk

-- the outcome's trips, as far as the settings keep them
unfoldable pub trips_of : Call → ℕ
trips_of c = masked_of c.outcome.trips c.outcome.feasible c.settings.tier0_enabled

-- a fault bit comes: the guard finds one (it finds no others), or the trips hold one
unfoldable pub bits_of : FuseRt → Call → Bool
bits_of r c = not (eqb (guard_bits r c) 0) || any_of (trips_of c) fault_bits

-- the acknowledgement that comes, if it is accepted
-- (01-scope.md, Transitions; lictor_table, specs/Helpers, accepted_by)
unfoldable pub ack_accepted : FuseRt → Call → Option VerifiedAck
ack_accepted r c = accepted_ack r.control.handoff_seq r.control.last_nonce c.input.ack

-- The one that the tick consumes (01-scope.md, The list in demand 3), from what the tick brings and
-- the state that it starts from. A fault bit decides the tick before the lines for Held and
-- Escalated; where none comes, these decide the ticks from those two states, and taken_in says what
-- they consume. That the verdict's flag says the same is proved too (Flag).
unfoldable pub took_of : FuseRt → Call → Option VerifiedAck
took_of r c = cond (bits_of r c) None (taken_in r.control.state (ack_accepted r c))

-- ---- what is seen of a tick

pub record TickSeen : Type 0 where
  -- the state in the run state that the tick gets
  pub from : FuseState
  -- the state of its verdict
  pub to : FuseState
  -- the acknowledgement that it consumes
  pub took : Option VerifiedAck
  -- whether a fault bit came, and the acknowledgement that came and is accepted
  pub bits : Bool
  pub ack : Option VerifiedAck

-- of the call c on the run state r, which was answered a
abbrev pub seen_of : FuseRt → Call → Ticked → TickSeen
seen_of r c a = record {
  from = r.control.state;
  to = a.verdict.state;
  took = took_of r c;
  bits = bits_of r c;
  ack = ack_accepted r c;
}

-- ---- the list

module _ {A : Type 0} (see : FuseRt → Call → Ticked → A) where
  -- A call and its answer. The next call gets the run state that this one returns, refused or not:
  -- a refused one returns what it got (proofs/Tick, refused-keeps). It is no tick.
  abbrev pub step_by : FuseRt → Call → Ticked → Step FuseRt A
  step_by r c a = cond (is_accepted a.check) (event (see r c a) a.rt) (silent a.rt)

  abbrev pub step_of : FuseRt → Call → Step FuseRt A
  step_of r c = step_by r c (tick_answer r c)

-- the run state that a list of calls leaves
abbrev pub left_by : FuseRt → List Call → FuseRt
left_by r [] = r
left_by r (c ∷ cs) = left_by (tick_answer r c).rt cs

-- the ticks of a list of calls, from the run state r
abbrev pub ticks_from : FuseRt → List Call → List TickSeen
ticks_from r cs = course (step_of seen_of) r cs

-- ---- the list with resets among its calls

-- a call of `tick`, or one of `reset`
pub data Entry : Type 0 where
  of_tick : Call → Entry
  of_reset : Entry

module _ {A : Type 0} (see : FuseRt → Call → Ticked → A) where
  -- a reset is no tick: it leaves what `reset` promises (crates/lictor_fuse/src/episode.rt)
  abbrev pub entry_step : FuseRt → Entry → Step FuseRt A
  entry_step r (of_tick c) = step_of see r c
  entry_step r of_reset = silent (reset_of r)

-- the ticks of such a list, from the run state r
abbrev pub ticks_among : FuseRt → List Entry → List TickSeen
ticks_among r es = course (entry_step seen_of) r es
