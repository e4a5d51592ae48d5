-- One call of the library.
-- It ties numbers in the layout of C to the one tick of 01-scope.md (lictor_fuse, specs/Tick,
-- tick_of), to fuse.rs's reset and to the join of two tallies (lictor_tally, specs/Join, join_of).
use Rattle.std.specs.Prelude.{cond, List, ℕ, eqb, Float}
use Rattle.lictor_core.specs.Initial.{reset_of}
use Rattle.lictor_settings.specs.Settings.{check_number}
use Rattle.lictor_fuse.specs.declared.Ticked.{Ticked}
use Rattle.lictor_fuse.specs.Tick.{tick_of}
use Rattle.lictor_tally.specs.Join.{join_of}
use Rattle.host_c.specs.declared.Answer.{Answer}
use Rattle.host_c.specs.declared.Called.{Called}
use Rattle.host_layout.specs.declared.input.Input.{Input}
use Rattle.host_layout.specs.declared.input.Outcome.{Outcome}
use Rattle.host_layout.specs.declared.input.Settings.{Settings}
use Rattle.host_layout.specs.declared.state.RunState.{RunState}
use Rattle.host_layout.specs.declared.state.Tally.{Tally}
use Rattle.host_layout.specs.Input.{settings_in, input_in, outcome_in}
use Rattle.host_layout.specs.State.{state_in, state_out, tally_in, tally_out}
use Rattle.host_layout.specs.Verdict.{verdict_out}

-- what the fuse gives, as numbers
unfoldable pub ticked_out : Ticked → Called
ticked_out t = record { number = check_number t.check; rt = state_out t.rt; verdict = verdict_out t.verdict }

-- a refused call keeps every field of the run state, as it was lent
unfoldable pub kept_of : ℕ → RunState → RunState → RunState
kept_of number before after = cond (eqb number 0) after before

-- what a call on the run state `before` gives, of what the fuse gives
unfoldable pub call_of : RunState → Ticked → Called
call_of before t = record {
  number = check_number t.check;
  rt = kept_of (check_number t.check) before (state_out t.rt);
  verdict = verdict_out t.verdict;
}

-- what a call gives, of all that the host lends: one tick of 01-scope.md on what the numbers mean
abbrev pub called_of : RunState → Settings → Input → Outcome → (pos vel aux ext chunk : List Float) → Called
called_of rt s inp out pos vel aux ext chunk =
    call_of rt (tick_of (settings_in s) (state_in rt) (input_in inp) (outcome_in out) pos vel aux ext chunk)

-- all of it but the run state, which is stored where the host lent it
abbrev pub answer_of : Called → Answer
answer_of c = record { number = c.number; verdict = c.verdict }

-- the run state at the start of an episode
unfoldable pub reset_run : RunState → RunState
reset_run rt = state_out (reset_of (state_in rt))

-- two lent tallies joined (request 3): of what the numbers mean, as numbers
unfoldable pub joined_tally : Tally → Tally → Tally
joined_tally earlier later = tally_out (join_of (tally_in earlier) (tally_in later))
