-- What a host's call answers.
-- The lent tick of 01-scope.md, Rust forms that need another form (fuse.rs, decide).
use Rattle.std.specs.Prelude.{ℕ}
use Rattle.lictor_settings.specs.Settings.{check_number}
use Rattle.lictor_fuse.specs.declared.Ticked.{Ticked}
use Rattle.host.specs.declared.HostAnswer.{HostAnswer}

-- all that the by-value core gives but the run state, which is stored where the host lent it
abbrev pub host_answer_of : Ticked → HostAnswer
host_answer_of t = record { check = t.check; verdict = t.verdict }

-- the number of an answer in the refusal table (01-scope.md, Journal): 1 to 4, or 0 for a tick
abbrev pub host_number : HostAnswer → ℕ
host_number a = check_number a.check
