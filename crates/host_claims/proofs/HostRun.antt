-- `host_run`: by induction on the list, since each call on a stored run state stores what the fuse
-- returns (host_c, proofs/Stored). `host_stops`: demand 3 of that run from a reset on.
use mathlib.Core.Path.{◌≡◌, refl, ap, ◌∙◌}
use mathlib.Core.List.{List, [], ◌∷◌, map}
use Rattle.lictor_core.specs.Initial.{reset_of}
use Rattle.lictor_core.specs.declared.fuse.FuseRt.{FuseRt}
use Rattle.claims.specs.Runs.{All}
use Rattle.claims.specs.Calls.{Under, tick_answer}
use Rattle.claims.proofs.Demand3.{stops_close}
use Rattle.claims.specs.Demand3.{Sized}
use Rattle.host_layout.specs.declared.input.Settings.{Settings}
use Rattle.host_layout.specs.Input.{settings_in}
use Rattle.host_layout.specs.State.{state_in, state_out}
use Rattle.host_c.specs.declared.Called.{Called}
use Rattle.host_c.specs.Call.{ticked_out, reset_run}
use Rattle.host_c.proofs.Stored.{tick_on_stored}
use Rattle.host_claims.specs.HostRun.{HostCall, meant, answered, answered_from, answers_from, HostRun, HostStopsUnder}

pub stored_run : (r : FuseRt) (hs : List HostCall) → answered_from (state_out r) hs ≡ map ticked_out (answers_from r (map meant hs))
unfolding ticked_out
stored_run r [] = refl
stored_run r (h ∷ hs) =
    let c = meant h in
    let e : answered (state_out r) h ≡ ticked_out (tick_answer r c) = tick_on_stored c.settings r c.input c.outcome c.pos c.vel c.aux c.ext c.chunk in
    ap (λ (a : Called). a ∷ answered_from a.rt hs) e ∙ ap (λ l. ticked_out (tick_answer r c) ∷ l) (stored_run (tick_answer r c).rt hs)

pub host_run : HostRun
unfolding reset_run
host_run rt hs = stored_run (reset_of (state_in rt)) hs

all_meant_under : (s : Settings) (hs : List HostCall) → All (λ h. Under (settings_in s) (meant h)) hs → All (Under (settings_in s)) (map meant hs)
all_meant_under s [] u = tt
all_meant_under s (h ∷ hs) u = (u.0, all_meant_under s hs u.1)

-- of settings whose limits their fields can hold, as those of a host are (stops_close)
pub host_stops : (s : Settings) → Sized (settings_in s) → HostStopsUnder s
host_stops s z rt hs u = record { answers = host_run rt hs; stops = (stops_close (settings_in s) z).from_reset (state_in rt) (map meant hs) (all_meant_under s hs u) }
