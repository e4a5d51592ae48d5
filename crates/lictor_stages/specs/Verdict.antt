-- The verdict and the events of a clean tick (01-scope.md, One tick; fuse.rs, the end of decide).
use Rattle.std.specs.Prelude.{Bool, true, false, not, cond, ◌&&◌, ◌||◌, ℕ, min, eqb, None, Some, Option}
use Rattle.lictor_core.specs.declared.ack.VerifiedAck.{VerifiedAck}
use Rattle.std.specs.Int.Bits.{bit_and, bit_or}
use Rattle.std.specs.Float.{inf}
use Rattle.lictor_core.specs.declared.envelope.Calibration.{Calibration}
use Rattle.lictor_core.specs.declared.envelope.FuseConfig.{FuseConfig}
use Rattle.lictor_core.specs.declared.fuse.Control.{Control}
use Rattle.lictor_core.specs.declared.fuse.TickInput.{TickInput}
use Rattle.lictor_core.specs.declared.outcome.Outcome.{Outcome}
use Rattle.lictor_core.specs.declared.reason.ReasonCode.{ReasonCode}
use Rattle.lictor_core.specs.declared.reason.ReasonCode.TheVariants.{RearmedAck, TerminatedAbort, TerminatedRetune}
use Rattle.lictor_core.specs.declared.scores.Scores.{Scores}
use Rattle.lictor_core.specs.declared.state.FuseState.{FuseState}
use Rattle.lictor_core.specs.declared.state.FuseState.TheVariants.{Held, Escalated}
use Rattle.lictor_core.specs.declared.verdict.SafetyVerdict.{SafetyVerdict}
use Rattle.lictor_core.specs.Cases.{by_option}
use Rattle.lictor_core.specs.Codes.{is_state, is_reason}
use Rattle.lictor_core.specs.Initial.{zeros}
use Rattle.lictor_core.specs.Masks as M
use Rattle.lictor_core.specs.Sizes.{max_d, features}
use Rattle.lictor_table.specs.declared.Turn.{Turn}
use Rattle.lictor_tally.specs.declared.TickEvents.{TickEvents}
use Rattle.lictor_stages.specs.Act.{status_of}
use Rattle.lictor_stages.specs.declared.act.Acted.{Acted}
use Rattle.lictor_stages.specs.declared.findings.Findings.{Findings}

-- which features were computed: none without a calibration mask, else the outcome's
-- (docs/DECISIONS.md)
unfoldable pub live_valid : ℕ → ℕ → ℕ
live_valid mask valid = cond (eqb mask 0) 0 valid

-- the outcome's scores as they came, but for what counts as valid
unfoldable pub scores_of : Calibration → Scores → Scores
scores_of cal sc = record { z = sc.z; s = sc.s; valid = live_valid cal.mask sc.valid; fired = sc.fired }

-- disarmed_scores: s minus infinity, the others zero
unfoldable pub disarmed_scores : Scores
disarmed_scores = record { z = zeros features; s = inf true; valid = 0; fired = 0 }

-- the components that an action can have
unfoldable pub action_dim : FuseConfig → ℕ
action_dim cfg = min cfg.dim max_d

-- state q, which the tick did not start from
unfoldable pub entered_of : FuseState → FuseState → FuseState → Bool
entered_of q from s = not (is_state q from) && is_state q s

-- the handoff's number, on the tick that begins it
unfoldable pub handoff_of : Bool → ℕ → Option ℕ
handoff_of begun n = cond begun (Some n) None

unfoldable pub has_ack : Option VerifiedAck → Bool
has_ack a = by_option a false (λ v. true)

-- ack_consumed: an acknowledgement came, and the reason is one of its three answers
unfoldable pub consumed_flag : Option VerifiedAck → ReasonCode → Bool
consumed_flag a w = has_ack a && (is_reason RearmedAck w || (is_reason TerminatedAbort w || is_reason TerminatedRetune w))

-- a clean tick's verdict: the window as the machine leaves it, the hits as they were before
unfoldable pub verdict_of : FuseConfig → ℕ → FuseState → TickInput → Outcome → Findings → Turn → Acted → SafetyVerdict
verdict_of cfg seq from inp out f turn a = record {
  seq = seq;
  t = inp.t;
  status = status_of turn.state;
  state = turn.state;
  prev_state = from;
  trips = bit_or f.trips turn.extra;
  action = a.action;
  action_dim = action_dim cfg;
  action_src = a.src;
  substituted = a.substituted;
  clamped_dims = out.clamped_dims;
  scores = scores_of cfg.calib out.scores;
  tau = cfg.calib.tau;
  window = turn.rt.window.bits;
  window_hits = f.scored.hits;
  brake_margin = out.margin;
  reason = turn.reason;
  handoff_seq = handoff_of (entered_of Escalated from turn.state) turn.rt.handoff_seq;
  ack_consumed = consumed_flag inp.ack turn.reason;
  violation_reached_env = a.violation;
}

-- the events of a clean tick; a rearm and a clamp count where the run state's own counter moved
unfoldable pub events_of : Calibration → Scores → Control → Turn → TickEvents
events_of cal sc before turn = record {
  entered_hold = entered_of Held before.state turn.state;
  entered_escalated = entered_of Escalated before.state turn.state;
  rearmed = not (eqb turn.rt.rearms before.rearms);
  clamped = not (eqb turn.rt.clamps before.clamps);
  live_z = bit_and cal.mask (live_valid cal.mask sc.valid);
}

-- a chunk is rejected where a hard trip is left
unfoldable pub rejected_of : ℕ → Bool
rejected_of trips = M.any_of trips M.tier0_hard
