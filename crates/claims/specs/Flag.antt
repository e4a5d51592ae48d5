-- The verdict's flag `ack_consumed` says of every tick whether it consumes an acknowledgement,
-- as the claim on acknowledgements has it.
-- Proved in proofs/Flag, `flag_tells`.
-- (01-scope.md, The list in demand 3, on what is consumed; fuse.rs, decide, `ack_consumed`).
use Rattle.std.specs.Prelude.{◌≡◌, not, T}
use Rattle.lictor_core.specs.declared.fuse.FuseRt.{FuseRt}
use Rattle.claims.specs.Calls.{Call, settings_pass, tick_answer, took_of}
use Rattle.claims.specs.Demand3.{none?}

abbrev pub FlagTells : Type 0
FlagTells =
    (r : FuseRt) (c : Call) → T (settings_pass c)
    → (tick_answer r c).verdict.ack_consumed ≡ not (none? (took_of r c))
