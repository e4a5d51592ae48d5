-- A tick as the code goes: both kinds through one call of the machine. Inner definitions:
-- that a tick put together from them is the tick of specs/Decide is shown in proofs/One.
use Rattle.std.specs.Prelude.{false, cond, List, ℕ, eqb, Float}
use Rattle.lictor_core.specs.declared.envelope.FuseConfig.{FuseConfig}
use Rattle.lictor_core.specs.declared.fuse.Control.{Control}
use Rattle.lictor_core.specs.declared.fuse.FuseRt.{FuseRt}
use Rattle.lictor_core.specs.declared.fuse.Motion.{Motion}
use Rattle.lictor_core.specs.declared.fuse.TickInput.{TickInput}
use Rattle.lictor_core.specs.declared.fuse.Window.{Window}
use Rattle.lictor_core.specs.declared.outcome.Outcome.{Outcome}
use Rattle.lictor_core.specs.declared.verdict.SafetyVerdict.{SafetyVerdict}
use Rattle.lictor_detect.specs.Brake.{hold_action}
use Rattle.lictor_guard.specs.Delivery.{delivered_of}
use Rattle.lictor_stages.specs.declared.findings.Findings.{Findings}
use Rattle.lictor_stages.specs.declared.verdict.Stepped.{Stepped}
use Rattle.lictor_stages.specs.Ingest.{ingest_of}
use Rattle.lictor_stages.specs.Findings.{findings_of, machine_input}
use Rattle.lictor_stages.specs.Act.{act_of}
use Rattle.lictor_stages.specs.Verdict.{verdict_of, events_of}
use Rattle.lictor_table.specs.declared.Turn.{Turn}
use Rattle.lictor_table.specs.Table.{next_of}
use Rattle.lictor_fuse.specs.declared.decide.Asked.{Asked}
use Rattle.lictor_fuse.specs.declared.decide.Closing.{Closing}
use Rattle.lictor_fuse.specs.CleanTick.{ready_of, clean_clock, chunk_tally}
use Rattle.lictor_fuse.specs.FaultTick.{fault_motion, fault_input, fault_verdict, fault_clock, no_events}

-- ---- what a tick brings to the machine

-- a clean tick: stages 1 to 6
unfoldable pub clean_asked : FuseConfig → Motion → Window → TickInput → Outcome → List Float → List Float → Asked
clean_asked cfg m w inp out pos vel =
    let moved = ingest_of cfg m inp.has_vel pos vel in
    let f = findings_of cfg (delivered_of inp.chunk) out w moved.vel in
    record { motion = moved; findings = f; machine = machine_input cfg inp f }

-- a fault tick finds the guard's bits, and leaves the window as it is
unfoldable pub fault_findings : ℕ → Window → Findings
fault_findings bits w = record {
  trips = bits;
  scored = record { warn = false; window = w; hits = 0; predictive = false };
  stopped = false;
  chunk_ok = false;
}

unfoldable pub fault_asked : FuseConfig → Motion → Window → TickInput → ℕ → List Float → Asked
fault_asked cfg m w inp bits pos =
    record { motion = fault_motion cfg m pos; findings = fault_findings bits w; machine = fault_input cfg inp bits }

unfoldable pub asked_of : FuseConfig → Motion → Window → TickInput → Outcome → ℕ → List Float → List Float → Asked
asked_of cfg m w inp out bits pos vel = cond (eqb bits 0) (clean_asked cfg m w inp out pos vel) (fault_asked cfg m w inp bits pos)

-- ---- the machine's turn, from the window that was found

unfoldable pub stepped_of : FuseConfig → Control → Asked → Stepped
stepped_of cfg control a = record {
  motion = a.motion;
  findings = a.findings;
  turn = next_of cfg (ready_of control a.findings) a.motion.pos a.machine;
}

-- ---- what a tick comes to: the verdict, the clock, the tally and what it is told

-- a clean tick: the action of the state it ends in, and the verdict with it
unfoldable pub clean_verdict : FuseConfig → FuseRt → TickInput → Outcome → Stepped → SafetyVerdict
clean_verdict cfg rt inp out d =
    verdict_of cfg rt.clock.seq rt.control.state inp out d.findings d.turn
    (act_of cfg d.turn.state d.motion d.turn.rt.hold out)

unfoldable pub clean_closing : FuseConfig → FuseRt → TickInput → Outcome → Stepped → Closing
clean_closing cfg rt inp out d = record {
  verdict = clean_verdict cfg rt inp out d;
  clock = clean_clock rt.clock inp d.findings.chunk_ok;
  tally = chunk_tally (delivered_of inp.chunk) rt.tally d.findings.trips;
  events = events_of cfg.calib out.scores rt.control d.turn;
}

-- a fault tick: the hold action, t alone moves the clock, and no event is recorded
unfoldable pub fault_closing : FuseConfig → FuseRt → TickInput → ℕ → Turn → Closing
fault_closing cfg rt inp bits turn = record {
  verdict = fault_verdict cfg rt.clock.seq rt.control.state inp bits turn (hold_action cfg turn.rt.hold);
  clock = fault_clock rt.clock inp.t;
  tally = rt.tally;
  events = no_events;
}

unfoldable pub closing_of : FuseConfig → FuseRt → TickInput → Outcome → ℕ → Stepped → Closing
closing_of cfg rt inp out bits d = cond (eqb bits 0) (clean_closing cfg rt inp out d) (fault_closing cfg rt inp bits d.turn)
