-- A tick put together from what it brings to the machine, the machine's turn and what it comes to
-- is the tick of the papers, clean or not.
use mathlib.Core.Bool.{Bool, true, false, cond}
use mathlib.Core.List.{List}
use mathlib.Core.Path.{◌≡◌, refl}
use Prim.Native.Nat.{ℕ}
use lib.Dec.{eqb}
use lib.Ieee.{Float}
use Rattle.lictor_core.specs.declared.envelope.FuseConfig.{FuseConfig}
use Rattle.lictor_core.specs.declared.fuse.FuseRt.{FuseRt}
use Rattle.lictor_core.specs.declared.fuse.TickInput.{TickInput}
use Rattle.lictor_core.specs.declared.outcome.Outcome.{Outcome}
use Rattle.lictor_stages.specs.declared.verdict.Stepped.{Stepped}
use Rattle.lictor_fuse.specs.declared.decide.Asked.{Asked}
use Rattle.lictor_fuse.specs.declared.decide.Closing.{Closing}
use Rattle.lictor_fuse.specs.declared.decide.Decided.{Decided}
use Rattle.lictor_fuse.specs.CleanTick.{ready_of, close_clean, clean_tick}
use Rattle.lictor_fuse.specs.FaultTick.{close_fault, fault_tick}
use Rattle.lictor_fuse.specs.Closed.{closed_of}
use Rattle.lictor_fuse.specs.Decide.{decide_by}
use Rattle.lictor_fuse.specs.OneWay.{clean_asked, fault_findings, fault_asked, asked_of, stepped_of, clean_verdict, clean_closing, fault_closing, closing_of}

-- the tick as the code puts it together
abbrev ended : Stepped → Closing → Decided
ended d e = closed_of d.turn.rt d.motion e.clock e.tally e.verdict e.events

abbrev after : FuseConfig → FuseRt → TickInput → Outcome → Bool → ℕ → Asked → Decided
after cfg rt inp out clean bits a =
    let d = stepped_of cfg rt.control a in
    ended d (cond clean (clean_closing cfg rt inp out d) (fault_closing cfg rt inp bits d.turn))

by : (clean : Bool)
    → (cfg : FuseConfig)
    → (rt : FuseRt)
    → (inp : TickInput)
    → (out : Outcome)
    → (bits : ℕ)
    → (pos vel : List Float)
    → after cfg rt inp out clean bits
    (cond clean (clean_asked cfg rt.motion rt.control.window inp out pos vel) (fault_asked cfg rt.motion rt.control.window inp bits pos))
    ≡ cond clean (clean_tick cfg rt inp out pos vel) (fault_tick cfg rt inp bits pos)
unfolding clean_asked fault_findings fault_asked stepped_of clean_verdict clean_closing fault_closing ready_of close_clean clean_tick close_fault fault_tick
by true cfg rt inp out bits pos vel = refl
by false cfg rt inp out bits pos vel = refl

pub one_way : (cfg : FuseConfig)
    → (rt : FuseRt)
    → (inp : TickInput)
    → (out : Outcome)
    → (bits : ℕ)
    → (pos vel : List Float)
    → (let a = asked_of cfg rt.motion rt.control.window inp out bits pos vel in
    let d = stepped_of cfg rt.control a in
    ended d (closing_of cfg rt inp out bits d))
    ≡ decide_by cfg rt inp out bits pos vel
unfolding asked_of closing_of decide_by
one_way cfg rt inp out bits pos vel = by (eqb bits 0) cfg rt inp out bits pos vel
