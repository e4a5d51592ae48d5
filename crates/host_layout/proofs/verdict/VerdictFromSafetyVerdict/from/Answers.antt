use mathlib.Core.Path.{◌∙◌, ap}
use Rattle.std.specs.Int.{from_bool}
use Rattle.host_layout.specs.Verdict.{verdict_out}
use Rattle.host_layout.proofs.Codes.{reason_by, state_by, source_by, status_by, flag_by, set_by, number_by}
use Rattle.host_layout.proofs.verdict.VerdictFromSafetyVerdict.from.Goals as goal

pub returns : goal.returns
unfolding verdict_out
returns c =
    let v = c.args.verdict in
    λ j. record {
      seq = v.seq;
      t = v.t;
      status = status_by v.status j;
      state = state_by v.state j;
      prev_state = state_by v.prev_state j;
      trips = v.trips;
      action = v.action;
      action_dim = v.action_dim;
      action_src = source_by v.action_src j;
      substituted = (c.from.ensures ∙ flag_by v.substituted) j;
      clamped_dims = v.clamped_dims;
      z = v.scores.z;
      s = v.scores.s;
      valid = v.scores.valid;
      fired = v.scores.fired;
      tau = v.tau;
      window = v.window;
      window_hits = v.window_hits;
      brake_margin = v.brake_margin;
      reason = reason_by v.reason j;
      handoff_set = (c.from-2.ensures ∙ ap from_bool c.is_some.ensures ∙ set_by v.handoff_seq) j;
      handoff_seq = (c.unwrap_or.ensures ∙ number_by v.handoff_seq) j;
      ack_consumed = (c.from-3.ensures ∙ flag_by v.ack_consumed) j;
      violation_reached_env = (c.from-4.ensures ∙ flag_by v.violation_reached_env) j;
    }
