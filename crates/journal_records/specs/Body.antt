-- What the body of each kind of record holds, in the order of 01-scope.md, Journal; settings and
-- outcome are in specs/Long.
use Rattle.std.specs.Prelude.{cond, List, ℕ, eqb}
use Rattle.journal_records.specs.Little.{byte_at, le_at, float_at, flag}
use Rattle.lictor_core.specs.Codes.{decision_of}
use Rattle.journal_records.specs.Kinds.{settings_kind, reset_kind, ack_kind, head_kind, value_kind, outcome_kind, width_kind}
use Rattle.lictor_core.specs.declared.ack.VerifiedAck.{VerifiedAck}
use Rattle.lictor_core.specs.declared.chunk.ChunkHead.{ChunkHead}
use Rattle.journal_records.specs.declared.TickNumbers.{TickNumbers}
use Rattle.journal_records.specs.declared.Record.{Record}
use Rattle.journal_records.specs.declared.Record.TheVariants.{Settings, Reset, Ack, Head, Value, Outcome, Tick, Width}

-- an acknowledgement: decision, slot, nonce, handoff
unfoldable pub ack_of : List ℕ → VerifiedAck
ack_of b = record { decision = decision_of (byte_at b 0); operator_slot = byte_at b 1; nonce = le_at b 2 8; handoff_seq = le_at b 10 4 }

-- a chunk head: seq, t_emit, horizon, dim, exec
unfoldable pub head_of : List ℕ → ChunkHead
head_of b = record { seq = le_at b 0 4; t_emit = le_at b 4 4; horizon = le_at b 8 2; dim = le_at b 10 2; exec_steps = le_at b 12 2 }

-- a tick: t, idx, missed, schema flag, velocity flag
unfoldable pub tick_numbers : List ℕ → TickNumbers
tick_numbers b = record { t = le_at b 0 4; idx = le_at b 4 2; missed_ticks = byte_at b 6; schema_fault = flag (byte_at b 7); has_vel = flag (byte_at b 8) }

-- The record of kind k with body b. A value has a list code and a float, a width (kind 8) one float.
-- A kind that is not listed is refused before, and is taken as the last case here.
unfoldable pub decode_of : ℕ → List ℕ → Record
decode_of k b =
    cond (eqb k settings_kind) Settings
    (cond (eqb k reset_kind) Reset
    (cond (eqb k ack_kind) (Ack (ack_of b))
    (cond (eqb k head_kind) (Head (head_of b))
    (cond (eqb k value_kind) (Value (byte_at b 0) (float_at b 1))
    (cond (eqb k outcome_kind) Outcome
    (cond (eqb k width_kind) (Width (float_at b 0))
    (Tick (tick_numbers b))))))))
