-- What `proximity` prints for every journal (02-change-requests.md, Ask 7): with a width, one line for
-- each clean tick and component that has one, in order, and no other; without a width, none.
-- The claim is at the end of this file; `every_line` in proofs/EveryLine proves it.
-- Of other files it names: what the program prints (printer, specs/Printer, text_of), of which the line
-- of a refusal (refusal_text); a width that is taken (journal, specs/Widths, WidthTaken); a history,
-- and which lines it has (proximity_text, specs/History).
use Rattle.std.specs.Prelude.{cond, List, [], ◌∷◌, ◌++◌, ◌≡◌, ℕ, Float}
use Rattle.lictor_core.specs.declared.envelope.FuseConfig.{FuseConfig}
use Rattle.lictor_core.specs.declared.envelope.Settings.{Settings}
use Rattle.lictor_settings.specs.Settings.{config_of}
use Rattle.claims.specs.Runs.{All}
use Rattle.journal_records.specs.Little.{float_at}
use Rattle.journal.specs.Events.{begun_of, TickReport, Event, began, restarted, ticked, width_given}
use Rattle.journal.specs.Journal.{Ending}
use Rattle.journal.specs.Widths.{with_width, WidthTaken}
use Rattle.proximity_text.specs.History.{Moment, clean, fault, reset, Entry, Listed, list_text}
use Rattle.printer.specs.Printer.{proximity, is_clean, proximity_printer, refusal_text, kinds_taken, meaning_for, text_of, beside_of}

-- the events of a journal, and how it ends
abbrev pub events_in : List ℕ → List Event
events_in s = (meaning_for proximity_printer s).events

abbrev pub ending_in : List ℕ → Ending
ending_in s = (meaning_for proximity_printer s).ending

-- ---- its history: resets and ticks

-- a tick is clean where the guard found nothing; then its t and its positions count, as they came
abbrev pub moment_of : TickReport → Moment
moment_of t = cond (is_clean t.guard) (clean t.verdict.t t.pos) fault

abbrev pub history_of : List Event → List Moment
history_of [] = []
history_of (began run ∷ es) = history_of es
history_of (restarted run ∷ es) = reset ∷ history_of es
history_of (ticked t ∷ es) = moment_of t ∷ history_of es
history_of (width_given run w ∷ es) = history_of es

-- ---- its width

-- the journal s has the width w: s is `front`, a record of kind 8 that is taken, and `back`
pub record HasWidth (s : List ℕ) (w : Float) : Type 0 where
  pub front : List ℕ
  pub body : List ℕ
  pub back : List ℕ
  pub bytes : s ≡ with_width front body back
  pub taken : WidthTaken (kinds_taken proximity) front body
  pub number : w ≡ float_at body 0

-- ---- a journal without a width

-- it prints the line of a refusal alone, where there is one
pub record Unmeasured (s : List ℕ) : Type 0 where
  pub none : (w : Float) → HasWidth s w → ⊥
  pub text : text_of proximity_printer s ≡ refusal_text (ending_in s)

-- ---- a journal with a width

-- a reset, or a tick under this configuration
abbrev pub Under : FuseConfig → Event → Type 0
Under cfg (began run) = ⊥
Under cfg (restarted run) = Unit {0}
Under cfg (ticked t) = t.run.config ≡ cfg
Under cfg (width_given run w) = ⊥

-- Of its events the width's is the second, after that of the settings, and then come resets and ticks
-- under these. It prints all lines of the journal's history, and then the line of a refusal, where
-- there is one.
pub record Measured (s : List ℕ) : Type 0 where
  pub settings : Settings
  pub width : Float
  pub has_width : HasWidth s width
  pub rest : List Event
  pub events : events_in s ≡ began (begun_of settings) ∷ (width_given (begun_of settings) width ∷ rest)
  pub under : All (Under (config_of settings)) rest
  pub entries : List Entry
  pub text : text_of proximity_printer s ≡ list_text entries ++ refusal_text (ending_in s)
  pub listed : Listed (config_of settings) width (history_of (events_in s)) entries

-- ---- the claim

pub data Told (s : List ℕ) : Type 0 where
  without : Unmeasured s → Told s
  with_width_lem : Measured s → Told s

-- on standard error nothing is printed
pub record Printed (s : List ℕ) : Type 0 where
  pub told : Told s
  pub beside : beside_of proximity_printer s ≡ []

abbrev pub EveryLine : Type 0
EveryLine = (s : List ℕ) → Printed s
