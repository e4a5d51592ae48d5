-- Three calls in a row.
-- It joins the code of this crate to `tick_of` (01-scope.md, The list in demand 3).
use Rattle.std.specs.Prelude.{List, Float}
use Rattle.lictor_core.specs.declared.envelope.Settings.{Settings}
use Rattle.lictor_core.specs.declared.fuse.FuseRt.{FuseRt}
use Rattle.lictor_core.specs.declared.outcome.Outcome.{Outcome}
use Rattle.lictor_fuse.specs.declared.Ticked.{Ticked}
use Rattle.lictor_fuse.specs.Tick.{tick_of}
use Rattle.host_example.specs.declared.Inputs.{Inputs}

-- each starts from the run state that the one before left; settings, outcome and lists are the same
unfoldable pub three_of : Settings → FuseRt → Inputs → Outcome
    → (pos vel aux ext chunk : List Float) → Ticked
three_of s rt inputs out pos vel aux ext chunk =
    let x = tick_of s rt inputs.first out pos vel aux ext chunk in
    let y = tick_of s x.rt inputs.second out pos vel aux ext chunk in
    tick_of s y.rt inputs.third out pos vel aux ext chunk
