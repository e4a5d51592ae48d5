-- Two fields that go by no rule of lictor_tally::counts.
use mathlib.Core.Path.{◌≡◌, refl}
use Rattle.fmath.specs.Float.{max_of}
use Rattle.lictor_core.specs.declared.verdict.SafetyVerdict.{SafetyVerdict}
use Rattle.lictor_core.specs.declared.tally.Tally.{Tally}
use Rattle.lictor_tally.specs.declared.TickEvents.{TickEvents}
use Rattle.lictor_tally.specs.Tally.{record_of}

pub max_s_is : (t : Tally) (v : SafetyVerdict) (ev : TickEvents) → (record_of t v ev).max_s ≡ max_of t.max_s v.scores.s
unfolding record_of
max_s_is t v ev = refl

pub last_is : (t : Tally) (v : SafetyVerdict) (ev : TickEvents) → (record_of t v ev).terminal_state ≡ v.state
unfolding record_of
last_is t v ev = refl
