-- `host_acks`: a host's calls and resets are the fuse's own (host_c, proofs/Stored), and of those
-- the claim on acknowledgements holds (claims, proofs/Nonces).
use mathlib.Core.Path.{◌≡◌, refl, ap, ◌∙◌}
use mathlib.Core.List.{List, [], ◌∷◌, map}
use Rattle.lictor_core.specs.Initial.{fresh_control, new_of, reset_of}
use Rattle.lictor_core.specs.declared.fuse.FuseRt.{FuseRt}
use Rattle.claims.specs.Calls.{tick_answer}
use Rattle.claims.specs.Nonces.{nonces_of, Eight}
use Rattle.claims.proofs.Nonces.{acks_once}
use Rattle.host_layout.specs.declared.state.RunState.{RunState}
use Rattle.host_layout.specs.State.{state_in, state_out}
use Rattle.host_c.specs.declared.Called.{Called}
use Rattle.host_c.specs.Call.{ticked_out, reset_run}
use Rattle.host_c.proofs.Stored.{tick_on_stored, reset_on_stored}
use Rattle.host_claims.specs.HostRun.{meant, answered}
use Rattle.host_claims.specs.HostAcks.{HostEntry, host_tick, host_reset, meant_entry, answered_among, answers_among, HostAcksOnce}

among_stored : (r : FuseRt) (es : List HostEntry) → answered_among (state_out r) es ≡ map ticked_out (answers_among r (map meant_entry es))
unfolding ticked_out
among_stored r [] = refl
among_stored r (host_tick h ∷ es) =
    let c = meant h in
    let e : answered (state_out r) h ≡ ticked_out (tick_answer r c) = tick_on_stored c.settings r c.input c.outcome c.pos c.vel c.aux c.ext c.chunk in
    ap (λ (a : Called). a ∷ answered_among a.rt es) e ∙ ap (λ l. ticked_out (tick_answer r c) ∷ l) (among_stored (tick_answer r c).rt es)
among_stored r (host_reset ∷ es) = ap (λ (z : RunState). answered_among z es) (reset_on_stored r) ∙ among_stored (reset_of r) es

-- of run states that store eight nonces, as those of a host do (acks_once)
pub host_acks : (rt : RunState) → Eight (nonces_of (state_in rt)) → HostAcksOnce rt
unfolding reset_run reset_of fresh_control
host_acks rt eight =
    let r = reset_of (state_in rt) in
    record {
      from_new = λ es. record { answers = among_stored new_of es; acks = acks_once.from_settings (map meant_entry es) };
      from_reset = λ es. record { answers = among_stored r es; acks = acks_once.from_any r eight (map meant_entry es) };
    }
