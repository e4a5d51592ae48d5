-- A host that lends what it was given has the fuse's own run of states, though it never sees one:
-- such a run state means what it was made of (`stored_back`, host_layout, proofs/Stored).
--     reset_on_stored, tick_on_stored      a call on such a run state gives what the fuse's reset
-- or tick gives, as numbers
--     join_on_stored       two tallies that the fuse gave, joined as numbers, are the fuse's join
-- Assumes nothing.
use mathlib.Core.Path.{◌≡◌, refl, sym, ◌∙◌, ap, subst}
use mathlib.Core.Bool.{Bool, true, false, cond}
use mathlib.Core.List.{List}
use lib.Ieee.{Float}
use Rattle.lictor_core.specs.Initial.{reset_of}
use Rattle.lictor_settings.specs.Settings.{check_of, check_number}
use Rattle.lictor_core.specs.declared.envelope.Settings.{Settings}
use Rattle.lictor_core.specs.declared.fuse.FuseRt.{FuseRt}
use Rattle.lictor_core.specs.declared.fuse.TickInput.{TickInput}
use Rattle.lictor_core.specs.declared.outcome.Outcome.{Outcome}
use Rattle.lictor_core.specs.declared.tally.Tally.{Tally}
use Rattle.lictor_fuse.specs.declared.Ticked.{Ticked}
use Rattle.lictor_fuse.specs.Tick.{is_accepted, accepted_tick, refused_tick, given_of, no_verdict, tick_of}
use Rattle.lictor_tally.specs.Join.{join_of}
use Rattle.host_layout.specs.State.{state_in, state_out, tally_out}
use Rattle.host_layout.specs.Verdict.{verdict_out}
use Rattle.host.proofs.Refused.{by_test}
use Rattle.host_layout.proofs.Stored.{stored_back, tally_back}
use Rattle.lictor_fuse.proofs.Accepted.{accepted_is}
use Rattle.host_c.specs.Call.{ticked_out, kept_of, call_of, reset_run, joined_tally}

pub reset_on_stored : (r : FuseRt) → reset_run (state_out r) ≡ state_out (reset_of r)
unfolding reset_run
reset_on_stored r = ap (λ (z : FuseRt). state_out (reset_of z)) (stored_back r)

-- by the test of the settings: a refused call keeps what was lent, and so does the fuse's
by_check : (s : Settings) (r : FuseRt) (inp : TickInput) (out : Outcome) (pos vel aux ext chunk : List Float) (b : Bool) → is_accepted (check_of s) ≡ b
    → call_of (state_out r) (tick_of s r inp out pos vel aux ext chunk) ≡ ticked_out (tick_of s r inp out pos vel aux ext chunk)
unfolding ticked_out call_of kept_of refused_tick accepted_tick given_of
by_check s r inp out pos vel aux ext chunk true e =
    let d : tick_of s r inp out pos vel aux ext chunk ≡ accepted_tick s r inp out pos vel aux ext chunk = by_test s r inp out pos vel aux ext chunk true e in
    subst (λ (t : Ticked). call_of (state_out r) t ≡ ticked_out t) (sym d) refl
by_check s r inp out pos vel aux ext chunk false e =
    let d : tick_of s r inp out pos vel aux ext chunk ≡ refused_tick (check_of s) r = by_test s r inp out pos vel aux ext chunk false e in
    subst (λ (t : Ticked). call_of (state_out r) t ≡ ticked_out t) (sym d) (λ j. record { number = check_number (check_of s); rt = cond ((sym (accepted_is (check_of s)) ∙ e) j) (state_out r) (state_out r); verdict = verdict_out no_verdict })

pub tick_on_stored : (s : Settings) (r : FuseRt) (inp : TickInput) (out : Outcome) (pos vel aux ext chunk : List Float)
    → call_of (state_out r) (tick_of s (state_in (state_out r)) inp out pos vel aux ext chunk) ≡ ticked_out (tick_of s r inp out pos vel aux ext chunk)
tick_on_stored s r inp out pos vel aux ext chunk =
    ap (λ (z : FuseRt). call_of (state_out r) (tick_of s z inp out pos vel aux ext chunk)) (stored_back r) ∙ by_check s r inp out pos vel aux ext chunk (is_accepted (check_of s)) refl

pub join_on_stored : (earlier later : Tally) → joined_tally (tally_out earlier) (tally_out later) ≡ tally_out (join_of earlier later)
unfolding joined_tally
join_on_stored earlier later = λ j. tally_out (join_of (tally_back earlier j) (tally_back later j))
