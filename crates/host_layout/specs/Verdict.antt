-- The numbers that a verdict is given as: field by field the same, but for codes and flags.
-- It joins `SafetyVerdict` of lictor_core (verdict.rs) to the layout of C,
-- with the codes of 01-scope.md, Modules 1.
use Rattle.std.specs.Prelude.{ℕ, None, Some, Option}
use Rattle.lictor_core.specs.Codes.{state_code, status_code, source_code, reason_code}
use Rattle.lictor_core.specs.declared.verdict.SafetyVerdict.{SafetyVerdict}
use Rattle.host_layout.specs.declared.verdict.Verdict.{Verdict}
use Rattle.host_layout.specs.Flags.{flag_code}

-- whether a handoff begins, and its number, or 0
abbrev pub handoff_set : Option ℕ → ℕ
handoff_set None = 0
handoff_set (Some n) = 1

abbrev pub handoff_number : Option ℕ → ℕ
handoff_number None = 0
handoff_number (Some n) = n

unfoldable pub verdict_out : SafetyVerdict → Verdict
verdict_out v = record {
  seq = v.seq;
  t = v.t;
  status = status_code v.status;
  state = state_code v.state;
  prev_state = state_code v.prev_state;
  trips = v.trips;
  action = v.action;
  action_dim = v.action_dim;
  action_src = source_code v.action_src;
  substituted = flag_code v.substituted;
  clamped_dims = v.clamped_dims;
  z = v.scores.z;
  s = v.scores.s;
  valid = v.scores.valid;
  fired = v.scores.fired;
  tau = v.tau;
  window = v.window;
  window_hits = v.window_hits;
  brake_margin = v.brake_margin;
  reason = reason_code v.reason;
  handoff_set = handoff_set v.handoff_seq;
  handoff_seq = handoff_number v.handoff_seq;
  ack_consumed = flag_code v.ack_consumed;
  violation_reached_env = flag_code v.violation_reached_env;
}
