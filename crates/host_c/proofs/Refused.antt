-- A call whose settings are refused: the number of the cause, no verdict, and every field of the run
-- state as it was.
use mathlib.Core.Path.{◌≡◌, refl, sym, ◌∙◌, ap, subst}
use mathlib.Core.Bool.{Bool, false, cond}
use mathlib.Core.List.{List}
use lib.Ieee.{Float}
use Rattle.lictor_core.specs.declared.envelope.Settings.{Settings}
use Rattle.lictor_core.specs.declared.fuse.FuseRt.{FuseRt}
use Rattle.lictor_core.specs.declared.fuse.TickInput.{TickInput}
use Rattle.lictor_core.specs.declared.outcome.Outcome.{Outcome}
use Rattle.lictor_settings.specs.Settings.{check_of, check_number}
use Rattle.lictor_fuse.specs.declared.Ticked.{Ticked}
use Rattle.lictor_fuse.specs.Tick.{is_accepted, no_verdict, refused_tick, tick_of}
use Rattle.lictor_fuse.proofs.Accepted.{accepted_is}
use Rattle.host.proofs.Refused.{by_test}
use Rattle.host_layout.specs.declared.state.RunState.{RunState}
use Rattle.host_c.specs.Call.{kept_of, call_of}
use Rattle.host_layout.specs.State.{state_out}
use Rattle.host_layout.specs.Verdict.{verdict_out}

pub refused_fields : (before : RunState) (s : Settings) (rt : FuseRt) (inp : TickInput) (out : Outcome) (pos vel aux ext chunk : List Float) → is_accepted (check_of s) ≡ false
    → let c = call_of before (tick_of s rt inp out pos vel aux ext chunk) in (c.number ≡ check_number (check_of s)) × (c.verdict ≡ verdict_out no_verdict) × (c.rt ≡ before)
unfolding call_of kept_of refused_tick
refused_fields before s rt inp out pos vel aux ext chunk bad =
    let d : tick_of s rt inp out pos vel aux ext chunk ≡ refused_tick (check_of s) rt = by_test s rt inp out pos vel aux ext chunk false bad in
    let k : cond (is_accepted (check_of s)) (state_out rt) before ≡ before = ap (λ (b : Bool). cond b (state_out rt) before) bad in
    subst (λ (t : Ticked). let c = call_of before t in (c.number ≡ check_number (check_of s)) × (c.verdict ≡ verdict_out no_verdict) × (c.rt ≡ before)) (sym d)
    (refl, refl, ap (λ (b : Bool). cond b (state_out rt) before) (sym (accepted_is (check_of s))) ∙ k)
