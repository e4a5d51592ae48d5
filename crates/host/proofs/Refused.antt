-- What the definition of a tick gives for a call, by the test of its settings.
use mathlib.Core.Path.{◌≡◌, ap}
use mathlib.Core.Bool.{Bool, cond}
use mathlib.Core.List.{List}
use lib.Ieee.{Float}
use Rattle.lictor_core.specs.declared.envelope.Settings.{Settings}
use Rattle.lictor_core.specs.declared.fuse.FuseRt.{FuseRt}
use Rattle.lictor_core.specs.declared.fuse.TickInput.{TickInput}
use Rattle.lictor_core.specs.declared.outcome.Outcome.{Outcome}
use Rattle.lictor_settings.specs.Settings.{check_of}
use Rattle.lictor_fuse.specs.declared.Ticked.{Ticked}
use Rattle.lictor_fuse.specs.Tick.{is_accepted, accepted_tick, refused_tick, tick_by, tick_of}

pub by_test : (s : Settings) (rt : FuseRt) (inp : TickInput) (out : Outcome) (pos vel aux ext chunk : List Float) (b : Bool) → is_accepted (check_of s) ≡ b
    → tick_of s rt inp out pos vel aux ext chunk ≡ cond b (accepted_tick s rt inp out pos vel aux ext chunk) (refused_tick (check_of s) rt)
unfolding tick_of tick_by
by_test s rt inp out pos vel aux ext chunk b e = ap (λ (t : Bool). cond t (accepted_tick s rt inp out pos vel aux ext chunk) (refused_tick (check_of s) rt)) e
