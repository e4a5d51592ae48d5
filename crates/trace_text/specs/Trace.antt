-- The lines of the trace after a tick: every field of the verdict, of the run state and of the
-- tally that the Rust has, a line each, in the order of its structs.
use Rattle.std.specs.Prelude.{ℕ, List, [], ◌∷◌, ◌++◌, get_or}
use Rattle.text.specs.Ascii.{ascii}
use Rattle.text.specs.Number.{decimal_of, float_text}
use Rattle.text.specs.Commas.{numbers_text, floats_text}
use Rattle.lictor_core.specs.Codes.{status_code, source_code}
use Rattle.lictor_core.specs.declared.verdict.SafetyVerdict.{SafetyVerdict}
use Rattle.lictor_core.specs.declared.fuse.Control.{Control}
use Rattle.lictor_core.specs.declared.fuse.Motion.{Motion}
use Rattle.lictor_core.specs.declared.fuse.Clock.{Clock}
use Rattle.lictor_core.specs.declared.fuse.FuseRt.{FuseRt}
use Rattle.lictor_core.specs.declared.tally.Tally.{Tally}
use Rattle.trace_text.specs.Row.{flag_text, state_text, reason_text, handoff_text, mark_text, reason_mark_text, row}

-- how many lines there are: 23 of the verdict, 25 of the run state, 26 of the tally
abbrev pub trace_count : ℕ
trace_count = 74

unfoldable pub verdict_lines : SafetyVerdict → List (List ℕ)
verdict_lines v =
    row (ascii "v.seq=") (decimal_of v.seq)
    ∷ row (ascii "v.t=") (decimal_of v.t)
    ∷ row (ascii "v.status=") (decimal_of (status_code v.status))
    ∷ row (ascii "v.state=") (state_text v.state)
    ∷ row (ascii "v.prev_state=") (state_text v.prev_state)
    ∷ row (ascii "v.trips=") (decimal_of v.trips)
    ∷ row (ascii "v.action=") (floats_text v.action)
    ∷ row (ascii "v.action_dim=") (decimal_of v.action_dim)
    ∷ row (ascii "v.action_src=") (decimal_of (source_code v.action_src))
    ∷ row (ascii "v.substituted=") (flag_text v.substituted)
    ∷ row (ascii "v.clamped_dims=") (decimal_of v.clamped_dims)
    ∷ row (ascii "v.z=") (floats_text v.scores.z)
    ∷ row (ascii "v.s=") (float_text v.scores.s)
    ∷ row (ascii "v.valid=") (decimal_of v.scores.valid)
    ∷ row (ascii "v.fired=") (decimal_of v.scores.fired)
    ∷ row (ascii "v.tau=") (float_text v.tau)
    ∷ row (ascii "v.window=") (decimal_of v.window)
    ∷ row (ascii "v.window_hits=") (decimal_of v.window_hits)
    ∷ row (ascii "v.brake_margin=") (float_text v.brake_margin)
    ∷ row (ascii "v.reason=") (reason_text v.reason)
    ∷ row (ascii "v.handoff_seq=") (handoff_text v.handoff_seq)
    ∷ row (ascii "v.ack_consumed=") (flag_text v.ack_consumed)
    ∷ row (ascii "v.violation_reached_env=") (flag_text v.violation_reached_env)
    ∷ []

unfoldable pub run_lines : Control → Motion → Clock → List (List ℕ)
run_lines c m k =
    row (ascii "rt.filled=") (flag_text k.filled)
    ∷ row (ascii "rt.window=") (decimal_of c.window.bits)
    ∷ row (ascii "rt.state=") (state_text c.state)
    ∷ row (ascii "rt.seq=") (decimal_of k.seq)
    ∷ row (ascii "rt.last_t=") (decimal_of k.last_t)
    ∷ row (ascii "rt.next_chunk_seq=") (decimal_of k.next_chunk_seq)
    ∷ row (ascii "rt.pos=") (floats_text m.pos)
    ∷ row (ascii "rt.prev_pos=") (floats_text m.prev_pos)
    ∷ row (ascii "rt.vel=") (floats_text m.vel)
    ∷ row (ascii "rt.have_prev_pos=") (flag_text m.have_prev_pos)
    ∷ row (ascii "rt.last_cmd=") (floats_text m.last_cmd)
    ∷ row (ascii "rt.hold=") (floats_text c.hold)
    ∷ row (ascii "rt.clean_run=") (decimal_of c.clean_run)
    ∷ row (ascii "rt.clamp_streak=") (decimal_of c.clamp_streak)
    ∷ row (ascii "rt.clamps=") (decimal_of c.clamps)
    ∷ row (ascii "rt.brake_ticks=") (decimal_of c.brake_ticks)
    ∷ row (ascii "rt.stopped_ticks=") (decimal_of c.stopped_ticks)
    ∷ row (ascii "rt.held_ticks=") (decimal_of c.held_ticks)
    ∷ row (ascii "rt.held_clean=") (decimal_of c.held_clean)
    ∷ row (ascii "rt.escalated_ticks=") (decimal_of c.escalated_ticks)
    ∷ row (ascii "rt.rearms=") (decimal_of c.rearms)
    ∷ row (ascii "rt.handoff_seq=") (decimal_of c.handoff_seq)
    ∷ row (ascii "rt.handoff_pending=") (flag_text c.handoff_pending)
    ∷ row (ascii "rt.chunk_ok_this_tick=") (flag_text k.chunk_ok_this_tick)
    ∷ row (ascii "rt.last_nonce=") (numbers_text c.last_nonce)
    ∷ []

unfoldable pub tally_lines : Tally → List (List ℕ)
tally_lines t =
    row (ascii "tally.ticks=") (decimal_of t.ticks)
    ∷ row (ascii "tally.nominal=") (decimal_of t.nominal)
    ∷ row (ascii "tally.watching=") (decimal_of t.watching)
    ∷ row (ascii "tally.clamped=") (decimal_of t.clamped)
    ∷ row (ascii "tally.braking=") (decimal_of t.braking)
    ∷ row (ascii "tally.held=") (decimal_of t.held)
    ∷ row (ascii "tally.escalated=") (decimal_of t.escalated)
    ∷ row (ascii "tally.fault=") (decimal_of t.fault)
    ∷ row (ascii "tally.terminated=") (decimal_of t.terminated)
    ∷ row (ascii "tally.substituted=") (decimal_of t.substituted)
    ∷ row (ascii "tally.chunks_seen=") (decimal_of t.chunks_seen)
    ∷ row (ascii "tally.chunks_rejected=") (decimal_of t.chunks_rejected)
    ∷ row (ascii "tally.clamps=") (decimal_of t.clamps)
    ∷ row (ascii "tally.holds=") (decimal_of t.holds)
    ∷ row (ascii "tally.rearms=") (decimal_of t.rearms)
    ∷ row (ascii "tally.escalations=") (decimal_of t.escalations)
    ∷ row (ascii "tally.trips_by_bit=") (numbers_text t.trips_by_bit)
    ∷ row (ascii "tally.fired_by_feat=") (numbers_text t.fired_by_feat)
    ∷ row (ascii "tally.first_trip_tick=") (mark_text t.first_trip_tick)
    ∷ row (ascii "tally.first_trip_reason=") (reason_mark_text t.first_trip_reason)
    ∷ row (ascii "tally.first_stop_tick=") (mark_text t.first_stop_tick)
    ∷ row (ascii "tally.handoff_tick=") (mark_text t.handoff_tick)
    ∷ row (ascii "tally.violations_reached_env=") (decimal_of t.violations_reached_env)
    ∷ row (ascii "tally.max_s=") (float_text t.max_s)
    ∷ row (ascii "tally.max_z=") (floats_text t.max_z)
    ∷ row (ascii "tally.terminal_state=") (state_text t.terminal_state)
    ∷ []

unfoldable pub trace_lines : SafetyVerdict → FuseRt → List (List ℕ)
trace_lines v rt = verdict_lines v ++ run_lines rt.control rt.motion rt.clock ++ tally_lines rt.tally

-- line k, none from the last on
unfoldable pub trace_text : ℕ → SafetyVerdict → FuseRt → List ℕ
trace_text k v rt = get_or (trace_lines v rt) k []
