-- The lines that `fuse` prints, each with its newline (01-scope.md, Journal, the program `fuse`).
use Rattle.std.specs.Prelude.{ℕ, List, [], ◌∷◌, ◌++◌}
use Rattle.text.specs.Ascii.{ascii}
use Rattle.text.specs.Number.{decimal_of, signed_of}
use Rattle.lictor_core.specs.Codes.{state_code, reason_code, source_code}
use Rattle.lictor_core.specs.declared.tally.Tally.{Tally}
use Rattle.lictor_core.specs.declared.verdict.SafetyVerdict.{SafetyVerdict}
use Rattle.margin.specs.declared.Margin.{Margin}
use Rattle.margin.specs.declared.Margin.TheVariants.{NoMargin, PlusFar, MinusFar, Millis}
use Rattle.margin.specs.Margin.{margin_of}

unfoldable pub margin_text : Margin → List ℕ
margin_text NoMargin = ascii "none"
margin_text PlusFar = ascii "+far"
margin_text MinusFar = ascii "-far"
margin_text (Millis z) = signed_of z

-- a blank and a number
abbrev pub field_text : ℕ → List ℕ
field_text n = ascii " " ++ decimal_of n

-- numbers, each after a blank
abbrev pub fields_text : List ℕ → List ℕ
fields_text [] = []
fields_text (x ∷ xs) = field_text x ++ fields_text xs

-- the numbers of a tick's line: seq, t, state, reason, trips, action source
abbrev pub numbers_in : SafetyVerdict → List ℕ
numbers_in v =
    v.seq
    ∷ v.t
    ∷ state_code v.state
    ∷ reason_code v.reason
    ∷ v.trips
    ∷ source_code v.action_src
    ∷ []

-- `tick` and these numbers
abbrev pub numbers_of : SafetyVerdict → List ℕ
numbers_of v = ascii "tick" ++ fields_text (numbers_in v)

-- and then the margin
unfoldable pub tick_text : SafetyVerdict → List ℕ
tick_text v = numbers_of v ++ ascii " " ++ margin_text (margin_of v.brake_margin) ++ ascii "\n"

-- The `stopped` of the line `end`: the ticks that stop the arm (02-change-requests.md, Ask 8;
-- lictor_tally, specs/Tally, stops_arm). No relation to the standstill that a tick tests, nor to the
-- run state's `stopped_ticks`.
unfoldable pub stopped_of : Tally → ℕ
stopped_of t = t.stop_actions

-- `end`, ticks, stopped
unfoldable pub end_text : Tally → List ℕ
end_text t = ascii "end" ++ field_text t.ticks ++ field_text (stopped_of t) ++ ascii "\n"

-- `refused`, number, place
unfoldable pub refused_text : ℕ → ℕ → List ℕ
refused_text number place = ascii "refused" ++ field_text number ++ field_text place ++ ascii "\n"
