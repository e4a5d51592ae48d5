-- One call with its settings check (01-scope.md, Journal), and one tick (specs/Decide)
-- under settings that pass it.
use Rattle.std.specs.Prelude.{Bool, false, cond, List, Float, None, Result, Ok, is_ok}
use Rattle.std.specs.Float.{nan}
use Rattle.lictor_core.specs.declared.envelope.Settings.{Settings}
use Rattle.lictor_core.specs.declared.fuse.FuseRt.{FuseRt}
use Rattle.lictor_core.specs.declared.fuse.TickInput.{TickInput}
use Rattle.lictor_core.specs.declared.outcome.Outcome.{Outcome}
use Rattle.lictor_core.specs.declared.reason.ReasonCode.TheVariants as R
use Rattle.lictor_settings.specs.declared.SettingsFault.{SettingsFault}
use Rattle.lictor_core.specs.declared.state.FuseState.TheVariants.{Idle}
use Rattle.lictor_core.specs.declared.verdict.ActionSource.TheVariants.{Hold}
use Rattle.lictor_core.specs.declared.verdict.SafetyVerdict.{SafetyVerdict}
use Rattle.lictor_core.specs.declared.verdict.Status.TheVariants.{Nominal}
use Rattle.lictor_core.specs.Initial.{zeros}
use Rattle.lictor_core.specs.Sizes.{max_d}
use Rattle.lictor_settings.specs.Settings.{check_of, config_of}
use Rattle.lictor_stages.specs.Verdict.{disarmed_scores}
use Rattle.lictor_fuse.specs.declared.decide.Decided.{Decided}
use Rattle.lictor_fuse.specs.Decide.{decide_of}
use Rattle.lictor_fuse.specs.declared.Ticked.{Ticked}

-- 01-scope.md, Journal: a host whose settings fail 1 to 4 gets that number, and nothing changes.

abbrev pub is_accepted : Result Unit SettingsFault → Bool
is_accepted c = is_ok c

-- what is in the verdict's place on a refusal: no tick, so nothing in it
unfoldable pub no_verdict : SafetyVerdict
no_verdict = record {
  seq = 0;
  t = 0;
  status = Nominal;
  state = Idle;
  prev_state = Idle;
  trips = 0;
  action = zeros max_d;
  action_dim = 0;
  action_src = Hold;
  substituted = false;
  clamped_dims = 0;
  scores = disarmed_scores;
  tau = nan;
  window = 0;
  window_hits = 0;
  brake_margin = nan;
  reason = R.Ok;
  handoff_seq = None;
  ack_consumed = false;
  violation_reached_env = false;
}

unfoldable pub refused_tick : Result Unit SettingsFault → FuseRt → Ticked
refused_tick c rt = record { check = c; rt = rt; verdict = no_verdict }

unfoldable pub given_of : Decided → Ticked
given_of d = record { check = Ok tt; rt = d.rt; verdict = d.verdict }

unfoldable pub accepted_tick : Settings → FuseRt → TickInput → Outcome → List Float → List Float → List Float → List Float → List Float → Ticked
accepted_tick s rt inp out pos vel aux ext chunk = given_of (decide_of (config_of s) rt inp out pos vel aux ext chunk)

unfoldable pub tick_by : Result Unit SettingsFault → Settings → FuseRt → TickInput → Outcome → List Float → List Float → List Float → List Float → List Float → Ticked
tick_by c s rt inp out pos vel aux ext chunk = cond (is_accepted c) (accepted_tick s rt inp out pos vel aux ext chunk) (refused_tick c rt)

unfoldable pub tick_of : Settings → FuseRt → TickInput → Outcome → List Float → List Float → List Float → List Float → List Float → Ticked
tick_of s rt inp out pos vel aux ext chunk = tick_by (check_of s) s rt inp out pos vel aux ext chunk
