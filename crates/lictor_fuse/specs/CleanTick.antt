-- A clean tick (01-scope.md, One tick; fuse.rs, decide after its guard).
use Rattle.std.specs.Prelude.{Bool, cond, ◌||◌, List, ℕ, Float}
use Rattle.lictor_core.specs.declared.envelope.FuseConfig.{FuseConfig}
use Rattle.lictor_core.specs.declared.fuse.Clock.{Clock}
use Rattle.lictor_core.specs.declared.fuse.Control.{Control}
use Rattle.lictor_core.specs.declared.fuse.FuseRt.{FuseRt}
use Rattle.lictor_core.specs.declared.fuse.Motion.{Motion}
use Rattle.lictor_core.specs.declared.fuse.TickInput.{TickInput}
use Rattle.lictor_core.specs.declared.outcome.Outcome.{Outcome}
use Rattle.lictor_core.specs.declared.tally.Tally.{Tally}
use Rattle.lictor_core.specs.declared.verdict.SafetyVerdict.{SafetyVerdict}
use Rattle.lictor_core.specs.Num.{wrap_up}
use Rattle.lictor_guard.specs.Delivery.{delivered_of}
use Rattle.lictor_stages.specs.declared.findings.Findings.{Findings}
use Rattle.lictor_stages.specs.Ingest.{ingest_of}
use Rattle.lictor_stages.specs.Findings.{findings_of, machine_input}
use Rattle.lictor_stages.specs.Act.{act_of}
use Rattle.lictor_stages.specs.Verdict.{verdict_of, events_of, rejected_of}
use Rattle.lictor_table.specs.declared.Turn.{Turn}
use Rattle.lictor_table.specs.Fields.{with_window}
use Rattle.lictor_table.specs.Table.{next_of}
use Rattle.lictor_tally.specs.Tally.{record_chunk}
use Rattle.lictor_fuse.specs.declared.decide.Decided.{Decided}
use Rattle.lictor_fuse.specs.Closed.{closed_of}

-- the machine starts from the window that has this tick's hit
unfoldable pub ready_of : Control → Findings → Control
ready_of c f = with_window f.scored.window c

-- ---- the clock and the count of chunks

-- a chunk moves the next chunk number, which wraps
unfoldable pub next_chunk : Bool → ℕ → ℕ
next_chunk boundary n = cond boundary (wrap_up 32 n) n

-- t is taken; a chunk counts as taken from then on
unfoldable pub clean_clock : Clock → TickInput → Bool → Clock
clean_clock k inp ok = record {
  filled = k.filled || delivered_of inp.chunk;
  seq = k.seq;
  last_t = inp.t;
  next_chunk_seq = next_chunk (delivered_of inp.chunk) k.next_chunk_seq;
  chunk_ok_this_tick = ok;
}

-- a chunk is counted before the verdict is
unfoldable pub chunk_tally : Bool → Tally → ℕ → Tally
chunk_tally boundary tally trips = cond boundary (record_chunk tally (rejected_of trips)) tally

-- ---- the tick

-- its end: clock, chunk counts, verdict and events recorded
unfoldable pub close_clean : FuseConfig → FuseRt → TickInput → Outcome → Motion → Findings → Turn → SafetyVerdict → Decided
close_clean cfg rt inp out m f turn v =
    closed_of turn.rt m (clean_clock rt.clock inp f.chunk_ok) (chunk_tally (delivered_of inp.chunk) rt.tally f.trips) v
    (events_of cfg.calib out.scores rt.control turn)

-- the stages in the order of fuse.rs:
-- ingest; trips, scores and window; the state machine; the action; the verdict; the tally
unfoldable pub clean_tick : FuseConfig → FuseRt → TickInput → Outcome → List Float → List Float → Decided
clean_tick cfg rt inp out pos vel =
    let m = ingest_of cfg rt.motion inp.has_vel pos vel in
    let f = findings_of cfg (delivered_of inp.chunk) out rt.control.window m.vel in
    let turn = next_of cfg (ready_of rt.control f) m.pos (machine_input cfg inp f) in
    let a = act_of cfg turn.state m turn.rt.hold out in
    let v = verdict_of cfg rt.clock.seq rt.control.state inp out f turn a in
    close_clean cfg rt inp out m f turn v
