-- What one tick makes of each counter of the run state, and so what the counters do at their ends
-- (fsm.rs, fuse.rs; docs/COUNTERS.md tells it in words).
-- Proved in proofs/Counters, `counters_go`.
use Rattle.std.specs.Prelude.{◌≡◌, ℕ, T}
use Rattle.lictor_core.specs.declared.fuse.Clock.{Clock}
use Rattle.lictor_core.specs.declared.fuse.Control.{Control}
use Rattle.lictor_core.specs.declared.fuse.FuseRt.{FuseRt}
use Rattle.lictor_core.specs.Num.{sat_up, wrap_up}
use Rattle.claims.specs.Calls.{Call, settings_pass, tick_answer}

-- a count x of k bits after a tick: the same, or one more up to its end; only a reset takes it back
pub data Rises (k x : ℕ) : ℕ → Type 0 where
  stays : Rises k x x
  rises : Rises k x (sat_up k x)

-- one that may also start anew
pub data Counts (k x : ℕ) : ℕ → Type 0 where
  kept : Counts k x x
  counted : Counts k x (sat_up k x)
  cleared : Counts k x 0

-- a number of k bits: the same, or the next one, which after the largest is 0
pub data Numbers (k x : ℕ) : ℕ → Type 0 where
  same : Numbers k x x
  next : Numbers k x (wrap_up k x)

-- the state machine's
pub record MachineCounts (r r' : Control) : Type 0 where
  pub clean_run : Counts 16 r.clean_run r'.clean_run
  pub clamp_streak : Counts 8 r.clamp_streak r'.clamp_streak
  pub clamps : Rises 16 r.clamps r'.clamps
  pub brake_ticks : Counts 16 r.brake_ticks r'.brake_ticks
  pub stopped_ticks : Counts 8 r.stopped_ticks r'.stopped_ticks
  pub held_ticks : Counts 16 r.held_ticks r'.held_ticks
  pub held_clean : Counts 16 r.held_clean r'.held_clean
  pub escalated_ticks : Counts 32 r.escalated_ticks r'.escalated_ticks
  pub rearms : Rises 8 r.rearms r'.rearms
  pub handoff : Numbers 32 r.handoff_seq r'.handoff_seq

-- the guard's: the tick's t is taken, whatever it is
pub record ClockCounts (t : ℕ) (k k' : Clock) : Type 0 where
  pub seq : k'.seq ≡ sat_up 32 k.seq
  pub time : k'.last_t ≡ t
  pub chunk : Numbers 32 k.next_chunk_seq k'.next_chunk_seq

pub record CountersGo (r : FuseRt) (c : Call) : Type 0 where
  pub machine : MachineCounts r.control (tick_answer r c).rt.control
  pub clock : ClockCounts c.input.t r.clock (tick_answer r c).rt.clock

-- of every tick
abbrev pub CountersTold : Type 0
CountersTold = (r : FuseRt) (c : Call) → T (settings_pass c) → CountersGo r c
