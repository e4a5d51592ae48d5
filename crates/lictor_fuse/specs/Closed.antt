-- The end of every tick (01-scope.md, One tick; fuse.rs, the end of fault_tick and of decide).
use Rattle.lictor_core.specs.declared.fuse.Clock.{Clock}
use Rattle.lictor_core.specs.declared.fuse.Control.{Control}
use Rattle.lictor_core.specs.declared.fuse.Motion.{Motion}
use Rattle.lictor_core.specs.declared.tally.Tally.{Tally}
use Rattle.lictor_core.specs.declared.verdict.SafetyVerdict.{SafetyVerdict}
use Rattle.lictor_core.specs.Num.{sat_up}
use Rattle.lictor_tally.specs.declared.TickEvents.{TickEvents}
use Rattle.lictor_tally.specs.Tally.{record_of}
use Rattle.lictor_fuse.specs.declared.decide.Decided.{Decided}

-- the verdict is recorded, its action is the last command, seq goes up by one and stops at its end
unfoldable pub closed_of : Control → Motion → Clock → Tally → SafetyVerdict → TickEvents → Decided
closed_of control m k tally v ev = record {
  rt = record {
    control = control;
    motion = record { pos = m.pos; prev_pos = m.prev_pos; vel = m.vel; have_prev_pos = m.have_prev_pos; last_cmd = v.action };
    clock = record {
      filled = k.filled;
      seq = sat_up 32 k.seq;
      last_t = k.last_t;
      next_chunk_seq = k.next_chunk_seq;
      chunk_ok_this_tick = k.chunk_ok_this_tick;
    };
    tally = record_of tally v ev;
  };
  verdict = v;
}
