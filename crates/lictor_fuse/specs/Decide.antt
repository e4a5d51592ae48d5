-- One tick (01-scope.md, One tick; fuse.rs, decide):
-- a fault tick where the guard finds any bit, else a clean one.
use Rattle.std.specs.Prelude.{cond, List, ℕ, eqb, Float}
use Rattle.lictor_core.specs.declared.envelope.FuseConfig.{FuseConfig}
use Rattle.lictor_core.specs.declared.fuse.FuseRt.{FuseRt}
use Rattle.lictor_core.specs.declared.fuse.TickInput.{TickInput}
use Rattle.lictor_core.specs.declared.outcome.Outcome.{Outcome}
use Rattle.lictor_guard.specs.Guard.{guard_of}
use Rattle.lictor_fuse.specs.declared.decide.Decided.{Decided}
use Rattle.lictor_fuse.specs.CleanTick.{clean_tick}
use Rattle.lictor_fuse.specs.FaultTick.{fault_tick}

unfoldable pub decide_by : FuseConfig → FuseRt → TickInput → Outcome → ℕ → List Float → List Float → Decided
decide_by cfg rt inp out bits pos vel = cond (eqb bits 0) (clean_tick cfg rt inp out pos vel) (fault_tick cfg rt inp bits pos)

unfoldable pub decide_of : FuseConfig → FuseRt → TickInput → Outcome → List Float → List Float → List Float → List Float → List Float → Decided
decide_of cfg rt inp out pos vel aux ext chunk = decide_by cfg rt inp out (guard_of cfg rt.clock inp pos vel aux ext chunk) pos vel
