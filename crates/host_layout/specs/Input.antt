-- What the numbers that a tick is given mean: field by field the same,
-- but for flags and what they are beside. It joins the layout of C to the types of lictor_core:
-- settings, input, chunk head, acknowledgement, outcome (01-scope.md, Journal, kinds 1, 3, 4, 6,
-- 7).
use Rattle.std.specs.Prelude.{cond, ℕ, eqb, leb, None, Some, Option}
use Rattle.lictor_core.specs.declared.chunk.ChunkHead.{ChunkHead}
use Rattle.lictor_core.specs.declared.ack.VerifiedAck.{VerifiedAck}
use Rattle.lictor_core.specs.Codes.{decision_of, decisions}
use Rattle.lictor_core.specs.declared.envelope.Settings.{Settings as FuseSettings}
use Rattle.lictor_core.specs.declared.fuse.TickInput.{TickInput}
use Rattle.lictor_core.specs.declared.outcome.Outcome.{Outcome as FuseOutcome}
use Rattle.host_layout.specs.declared.input.Settings.{Settings}
use Rattle.host_layout.specs.declared.input.Chunk.{Chunk}
use Rattle.host_layout.specs.declared.input.Ack.{Ack}
use Rattle.host_layout.specs.declared.input.Input.{Input}
use Rattle.host_layout.specs.declared.input.Outcome.{Outcome}
use Rattle.host_layout.specs.Flags.{flag_of, sure_of}

unfoldable pub settings_in : Settings → FuseSettings
settings_in s = record {
  mode = s.mode;
  kind = s.kind;
  clamp = s.clamp;
  rearm = s.rearm;
  dim = s.dim;
  pos_dim = s.pos_dim;
  horizon = s.horizon;
  exec = s.exec;
  dt = s.dt;
  inv_dt = s.inv_dt;
  a_max = s.a_max;
  box_lo = s.box_lo;
  box_hi = s.box_hi;
  hyst = record {
    k = s.k;
    warn_margin = s.warn_margin;
    clear_ticks = s.clear_ticks;
    clamp_streak_to_brake = s.clamp_streak_to_brake;
    max_clamps_per_episode = s.max_clamps_per_episode;
    stop_confirm_ticks = s.stop_confirm_ticks;
    v_stop_eps = s.v_stop_eps;
    brake_timeout_ticks = s.brake_timeout_ticks;
    rearm_hold = s.rearm_hold;
    max_rearms = s.max_rearms;
    escalate_after_hold_ticks = s.escalate_after_hold_ticks;
    handoff_timeout_ticks = s.handoff_timeout_ticks;
    watchdog_ticks = s.watchdog_ticks;
  };
  window_mask = s.window_mask;
  tier0_enabled = s.tier0_enabled;
  calib = record { mask = s.calib_mask; tau = s.tau };
}

-- a chunk's head, where its flag is not 0: a chunk is checked, and none is not
unfoldable pub chunk_in : ℕ → Chunk → Option ChunkHead
chunk_in has c =
    cond (eqb has 0) None
    (Some
    (record {
      seq = c.seq;
      t_emit = c.t_emit;
      horizon = c.horizon;
      dim = c.dim;
      exec_steps = c.exec_steps;
    }))

-- an acknowledgement, where its flag is 1 and its decision is one of the three
unfoldable pub ack_given : Ack → Option VerifiedAck
ack_given a =
    Some
    (record {
      decision = decision_of a.decision;
      operator_slot = a.operator_slot;
      nonce = a.nonce;
      handoff_seq = a.handoff_seq;
    })

unfoldable pub ack_by : Ack → Option VerifiedAck
ack_by a = cond (leb decisions a.decision) None (ack_given a)

unfoldable pub ack_in : ℕ → Ack → Option VerifiedAck
ack_in has a = cond (sure_of has) (ack_by a) None

unfoldable pub input_in : Input → TickInput
input_in i = record {
  t = i.t;
  idx = i.idx;
  missed_ticks = i.missed_ticks;
  schema_fault = flag_of i.schema_fault;
  has_vel = flag_of i.has_vel;
  chunk = chunk_in i.has_chunk i.chunk;
  ack = ack_in i.has_ack i.ack;
}

unfoldable pub outcome_in : Outcome → FuseOutcome
outcome_in o = record {
  trips = o.trips;
  clamped_dims = o.clamped_dims;
  feasible = sure_of o.feasible;
  margin = o.margin;
  scores = record { z = o.z; s = o.s; valid = o.valid; fired = o.fired };
  policy = o.policy;
  clamped = o.clamped;
}
