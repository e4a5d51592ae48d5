-- Demand 3, stops close: one claim about every list of calls, of which three parts are from a reset
-- on, and the part on acknowledgements reaches over all resets (00-demands.md, Demand 3;
-- 01-scope.md, The list in demand 3; 02-change-requests.md, Ask 6).
-- It is at the end of this file; `stops_close` promises it of every settings record that the code
-- can hold (src/lib.rt), by `stops_close` in proofs/Demand3.
-- Of other files it names: what is said of a list (Runs); a call, its settings, what is seen of its
-- tick, the ticks of a list, with resets among its calls or not (Calls); that eight nonces are stored
-- (Nonces); the states that settings and `reset` leave (lictor_core, specs/Initial, new_of, reset_of).
use Rattle.std.specs.Prelude.{Bool, true, false, cond, not, ◌&&◌, ◌||◌, List, ◌≡◌, ℕ, ◌+◌, ◌≤◌, T, length, take, None, Some, Option}
use Rattle.lictor_core.specs.declared.ack.VerifiedAck.{VerifiedAck}
use Rattle.lictor_core.specs.declared.envelope.Settings.{Settings}
use Rattle.lictor_core.specs.declared.fuse.FuseRt.{FuseRt}
use Rattle.lictor_core.specs.declared.state.FuseState.{FuseState}
use Rattle.lictor_core.specs.declared.state.FuseState.TheVariants.{Armed, Braking, Held, Fault, Terminated}
use Rattle.lictor_core.specs.Cases.{by_option}
use Rattle.lictor_core.specs.Codes.{is_state}
use Rattle.lictor_core.specs.Initial.{new_of, reset_of}
use Rattle.claims.specs.Runs.{Each, All, Any, total}
use Rattle.claims.specs.Calls.{Call, Under, TickSeen, ticks_from, Entry, ticks_among}
use Rattle.claims.specs.Nonces.{nonces_of, Eight}

-- ---- the settings' limits

-- the brake, hold, handoff and rearm limits: B, H, E and max_rearms of the paper
abbrev pub B : Settings → ℕ
B s = s.hyst.brake_timeout_ticks

abbrev pub H : Settings → ℕ
H s = s.hyst.escalate_after_hold_ticks

abbrev pub E : Settings → ℕ
E s = s.hyst.handoff_timeout_ticks

abbrev pub max_rearms : Settings → ℕ
max_rearms s = s.hyst.max_rearms

-- Each limit is a number that its field can hold: a u16, a u16, a u32 and a u8 in the code
-- (crates/lictor_core/src/envelope.rt, Hysteresis). A definition has whole numbers without bounds,
-- so it is said here. The claim does not ask for it: every record that the code can hold meets it,
-- as `stops_close` promises (src/lib.rt).
pub record Sized (s : Settings) : Type 0 where
  pub brake : B s ≤ 65535
  pub hold : H s ≤ 65535
  pub handoff : E s ≤ 4294967295
  pub rearms : max_rearms s ≤ 255

-- ---- the words of the claim

-- the tick ends in q
abbrev pub ends_in : FuseState → TickSeen → Bool
ends_in q x = is_state q x.to

-- it starts from q
abbrev pub starts_from : FuseState → TickSeen → Bool
starts_from q x = is_state q x.from

-- a stop begins (the paper: braking begins)
abbrev pub begins : TickSeen → Bool
begins x = ends_in Braking x && not (starts_from Braking x)

-- a stop is over with this tick, whichever way
abbrev pub closes : TickSeen → Bool
closes x = ends_in Armed x || (ends_in Fault x || ends_in Terminated x)

-- it is the acknowledgement with this slot and nonce: these two alone tell one from another
abbrev pub Is : Option VerifiedAck → ℕ → ℕ → Type 0
Is None slot nonce = ⊥
Is (Some a) slot nonce = (a.operator_slot ≡ slot) × (a.nonce ≡ nonce)

-- the tick consumes that one (what it consumes, if anything: Calls, took_of)
abbrev pub Consumes : TickSeen → ℕ → ℕ → Type 0
Consumes x slot nonce = Is x.took slot nonce

abbrev pub none? : Option VerifiedAck → Bool
none? ack = by_option ack true (λ a. false)

-- the fuse rearms by itself in this tick: 1, or it does not: 0
abbrev pub rearms_alone : TickSeen → ℕ
rearms_alone x = cond (ends_in Armed x && (starts_from Held x && none? x.took)) 1 0

-- a sum of whole numbers, which no type cuts off
abbrev pub limit : Settings → ℕ
limit s = B s + H s + E s + 2

-- ---- the four parts, in the order of 00-demands.md

-- of every tick that begins a stop: of the n after it, where there are as many, one closes the stop
abbrev pub StopsWithin : ℕ → List TickSeen → Type 0
StopsWithin n l = Each (λ x after. T (begins x) → n ≤ length after → Any (λ y. T (closes y)) (take n after)) l

-- stops: within the limit
abbrev pub Stops : Settings → List TickSeen → Type 0
Stops s l = StopsWithin (limit s) l

-- faults: Fault is for good
abbrev pub Faults : List TickSeen → Type 0
Faults l = Each (λ x after. T (ends_in Fault x) → All (λ y. T (ends_in Fault y)) after) l

-- rearms: by itself the fuse rearms no more often than the settings say.
-- Counted from the reset, since a Resume adds to the rearm count and does not clear it.
abbrev pub Rearms : Settings → List TickSeen → Type 0
Rearms s l = total rearms_alone l ≤ max_rearms s

-- acks: what is consumed once is not consumed again
abbrev pub Acks : List TickSeen → Type 0
Acks l = (slot nonce : ℕ) → Each (λ x after. Consumes x slot nonce → All (λ y. ¬ Consumes y slot nonce) after) l

-- ---- the claim

-- the three parts that begin anew with each reset
pub record FromReset (s : Settings) (l : List TickSeen) : Type 0 where
  pub stops : Stops s l
  pub faults : Faults l
  pub rearms : Rearms s l

-- the part that reaches over all resets: of every list of calls, whatever their settings, resets and
-- refused calls anywhere among them
pub record AcksOnce : Type 0 where
  -- from the settings on, whether or not a reset comes first
  pub from_settings : (es : List Entry) → Acks (ticks_among new_of es)
  -- from any run state, whatever nonces it has stored
  pub from_any : (r : FuseRt) → Eight (nonces_of r) → (es : List Entry) → Acks (ticks_among r es)

-- The four parts: `stops_close` promises them of every s that the code can hold (src/lib.rt).
pub record StopsCloseUnder (s : Settings) : Type 0 where
  -- of every list of calls that are under s or refused, from what a reset of any run state leaves
  -- (where s itself does not pass the check, every call is refused: no tick)
  pub from_reset : (r : FuseRt) (cs : List Call) → All (Under s) cs → FromReset s (ticks_from (reset_of r) cs)
  pub acks : AcksOnce
