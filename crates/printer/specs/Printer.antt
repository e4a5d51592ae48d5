-- What a program prints for a journal (01-scope.md, Journal, the program `fuse`; for pages and
-- proximity 02-change-requests.md, Ask 1 and 7): a text for each event and one for its ending. A
-- printer may remember something from event to event. The text of events goes to standard output;
-- that of an ending may go beside it, to standard error.
use Rattle.std.specs.Prelude.{Bool, cond, List, [], ◌∷◌, ◌++◌, ◌≡◌, ℕ, ◌+◌, ◌*◌, min, eqb, leb, Float, length, Option, None, Some}
use Rattle.lictor_core.specs.declared.envelope.FuseConfig.{FuseConfig}
use Rattle.lictor_core.specs.declared.tally.Tally.{Tally}
use Rattle.lictor_core.specs.declared.verdict.SafetyVerdict.{SafetyVerdict}
use Rattle.journal_records.specs.Kinds.{journal_kinds}
use Rattle.journal_refusals.specs.Table.{number_of}
use Rattle.journal.specs.declared.tick.Run.{Run}
use Rattle.journal.specs.Events.{Event, began, restarted, ticked, width_given}
use Rattle.journal.specs.Journal.{Ending, ended, refused, Meaning, journal_of}
use Rattle.text.specs.Line.{line_room}
use Rattle.text.specs.Memory.{has_room, place_with, memory_with}
use Rattle.trace_text.specs.Trace.{trace_count}
use Rattle.report.specs.Lines.{tick_text, end_text, refused_text}
use Rattle.report.specs.Text.{trace_room, trace_up_to}
use Rattle.page_text.specs.Rows.{tick_row, page_row, as_line}
use Rattle.proximity_text.specs.Near.{inside_of, none_inside}
use Rattle.proximity_text.specs.Lines.{lines_of}
use Rattle.printer.specs.declared.Channel.{Channel}
use Rattle.printer.specs.declared.Channel.TheVariants.{Output, Errors}
use Rattle.printer.specs.declared.Measure.{Measure}
use Rattle.printer.specs.declared.Notes.{Notes}
use Rattle.printer.specs.declared.Shown.{Shown}

-- ---- a printer

-- what is shown: of a tick its line; or its line and every field of the verdict, the run state and
-- the tally that the Rust has; or its row on a page; or the components that are close to a face or have left the box
pub data Shows : Type 0 where
  lines : Shows
  trace : Shows
  pages : Shows
  proximity : Shows

-- a printer: what it shows, and what it remembers from event to event
pub record Printer : Type 0 where
  pub shows : Shows
  pub notes : Notes

-- one that shows this, with these notes
abbrev pub showing : Shows → Notes → Printer
showing w m = record { shows = w; notes = m }

-- before the first event: no row, on page 1; no width, and no clean tick
abbrev pub measure_at_start : Measure
measure_at_start = record { width = None; inside = none_inside }

abbrev pub at_start : Notes
at_start = record { rows = 0; page = 1; measure = measure_at_start }

-- the printers of `fuse`, `trace`, `pages` and `proximity`
abbrev pub fuse_printer : Printer
fuse_printer = showing lines at_start

abbrev pub trace_printer : Printer
trace_printer = showing trace at_start

abbrev pub pages_printer : Printer
pages_printer = showing pages at_start

abbrev pub proximity_printer : Printer
proximity_printer = showing proximity at_start

-- ---- a page, row by row

-- the rows of a whole page, and where the number of pages stops
abbrev pub page_rows : ℕ
page_rows = 50

abbrev pub last_page : ℕ
last_page = 9999999999

abbrev pub next_page : ℕ → ℕ
next_page n = min (n + 1) last_page

-- whether one more row fills the page
abbrev pub fills : Notes → Bool
fills m = leb page_rows (m.rows + 1)

-- one more row
abbrev pub after_tick : Notes → Notes
after_tick m =
    cond (fills m)
    (record { rows = 0; page = next_page m.page; measure = m.measure })
    (record { rows = m.rows + 1; page = m.page; measure = m.measure })

-- the row of a tick, and after the last of a page the line with its number
abbrev pub tick_on_page : Notes → SafetyVerdict → List ℕ
tick_on_page m v = as_line (tick_row v) ++ cond (fills m) (as_line (page_row m.page)) []

-- the line with its number of a page that has rows
abbrev pub page_closed : Notes → List ℕ
page_closed m = cond (eqb m.rows 0) [] (as_line (page_row m.page))

-- ---- proximity, tick by tick

-- a tick is clean where the guard found nothing, whatever its outcome brings and its state is
abbrev pub is_clean : ℕ → Bool
is_clean guard = eqb guard 0

-- the lines of a clean tick, once a width was given
abbrev pub width_lines : Option Float → List Bool → List Float → SafetyVerdict → FuseConfig → List ℕ
width_lines None was pos v cfg = []
width_lines (Some w) was pos v cfg = lines_of cfg (record { width = w; inside = was }) v.t pos

abbrev pub tick_lines : Measure → List Float → ℕ → SafetyVerdict → FuseConfig → List ℕ
tick_lines m pos guard v cfg = cond (is_clean guard) (width_lines m.width m.inside pos v cfg) []

abbrev pub with_inside : Measure → List Bool → Measure
with_inside m is = record { width = m.width; inside = is }

-- a clean tick says which components are inside; a fault tick is passed over
abbrev pub measure_after : Measure → List Float → ℕ → FuseConfig → Measure
measure_after m pos guard cfg = cond (is_clean guard) (with_inside m (inside_of cfg pos)) m

-- after a reset there is no clean tick before
abbrev pub measure_cleared : Measure → Measure
measure_cleared m = with_inside m none_inside

-- a width is kept
abbrev pub measure_given : Measure → Float → Measure
measure_given m w = record { width = Some w; inside = m.inside }

-- rows and page kept
abbrev pub with_measure : Notes → Measure → Notes
with_measure m x = record { rows = m.rows; page = m.page; measure = x }

-- ---- an event

-- of a tick: its positions as they came, the guard's bits, its verdict and the fuse after it
abbrev pub tick_shown : Shows → Notes → List Float → ℕ → SafetyVerdict → Run → List ℕ
tick_shown lines m pos guard v run = tick_text v
tick_shown trace m pos guard v run = tick_text v ++ trace_up_to trace_count v run.rt
tick_shown pages m pos guard v run = tick_on_page m v
tick_shown proximity m pos guard v run = tick_lines m.measure pos guard v run.config

-- settings, a reset and a width print nothing
unfoldable pub shown_text : Printer → Event → List ℕ
shown_text p (began run) = []
shown_text p (restarted run) = []
shown_text p (ticked t) = tick_shown p.shows p.notes t.pos t.guard t.verdict t.run
shown_text p (width_given run w) = []

-- what is remembered after a tick, a reset and a width: only pages and proximity remember something
abbrev pub tick_remembered : Shows → Notes → List Float → ℕ → FuseConfig → Notes
tick_remembered lines m pos guard cfg = m
tick_remembered trace m pos guard cfg = m
tick_remembered pages m pos guard cfg = after_tick m
tick_remembered proximity m pos guard cfg = with_measure m (measure_after m.measure pos guard cfg)

abbrev pub reset_remembered : Shows → Notes → Notes
reset_remembered lines m = m
reset_remembered trace m = m
reset_remembered pages m = m
reset_remembered proximity m = with_measure m (measure_cleared m.measure)

abbrev pub width_remembered : Shows → Notes → Float → Notes
width_remembered lines m w = m
width_remembered trace m w = m
width_remembered pages m w = m
width_remembered proximity m w = with_measure m (measure_given m.measure w)

unfoldable pub remembered : Printer → Event → Notes
remembered p (began run) = p.notes
remembered p (restarted run) = reset_remembered p.shows p.notes
remembered p (ticked t) = tick_remembered p.shows p.notes t.pos t.guard t.run.config
remembered p (width_given run w) = width_remembered p.shows p.notes w

abbrev pub printer_after : Printer → Event → Printer
printer_after p e = showing p.shows (remembered p e)

-- ---- the ending: a part page is closed; then `end`, which pages and proximity do not have, or
-- `refused` with the number and the place

abbrev pub closing_text : Shows → Notes → List ℕ
closing_text lines m = []
closing_text trace m = []
closing_text pages m = page_closed m
closing_text proximity m = []

abbrev pub end_shown : Shows → Tally → List ℕ
end_shown lines t = end_text t
end_shown trace t = end_text t
end_shown pages t = []
end_shown proximity t = []

unfoldable pub ending_text : Printer → Run → Ending → List ℕ
ending_text p run ended = closing_text p.shows p.notes ++ end_shown p.shows run.rt.tally
ending_text p run (refused r place) = closing_text p.shows p.notes ++ refused_text (number_of r) place

-- of it the line of a refusal, where there is one
abbrev pub refusal_text : Ending → List ℕ
refusal_text ended = []
refusal_text (refused r place) = refused_text (number_of r) place

-- the channel that its text goes to: standard output, for all
abbrev pub ending_on : Shows → Ending → Channel
ending_on lines e = Output
ending_on trace e = Output
ending_on pages e = Output
ending_on proximity e = Output

-- ---- a whole journal

-- the texts of its events, one after the other, and the printer after them
unfoldable pub printed : Printer → List Event → List ℕ
printed p [] = []
printed p (e ∷ es) = shown_text p e ++ printed (printer_after p e) es

unfoldable pub printer_after_all : Printer → List Event → Printer
printer_after_all p [] = p
printer_after_all p (e ∷ es) = printer_after_all (printer_after p e) es

-- of the text s, which goes to the first channel, what the second one has
abbrev pub sent_to : Channel → List ℕ → Channel → List ℕ
sent_to Output s Output = s
sent_to Output s Errors = []
sent_to Errors s Output = []
sent_to Errors s Errors = s

-- what a channel has of a journal with these events and this ending, after which the fuse is `run`
abbrev pub printed_on : Channel → Printer → List Event → Run → Ending → List ℕ
printed_on c p es run e = sent_to Output (printed p es) c ++ sent_to (ending_on p.shows e) (ending_text (printer_after_all p es) run e) c

-- that on standard output
unfoldable pub text_from : Printer → List Event → Run → Ending → List ℕ
text_from = printed_on Output

-- and that beside it, on standard error
unfoldable pub beside_from : Printer → List Event → Run → Ending → List ℕ
beside_from = printed_on Errors

-- the kinds of records that its program takes: those of the paper, for all
unfoldable pub kinds_taken : Shows → List ℕ
kinds_taken w = journal_kinds

-- what the bytes s mean to this printer's program
abbrev pub meaning_for : Printer → List ℕ → Meaning
meaning_for p s = journal_of (kinds_taken p.shows) s

-- all that is printed for the journal s, on standard output and on standard error
unfoldable pub text_of : Printer → List ℕ → List ℕ
text_of p s = let m = meaning_for p s in text_from p m.events m.left.run m.ending

unfoldable pub beside_of : Printer → List ℕ → List ℕ
beside_of p s = let m = meaning_for p s in beside_from p m.events m.left.run m.ending

-- all of it goes to standard output
pub record OnOutput (p : Printer) (s : List ℕ) : Type 0 where
  pub text : (let m = meaning_for p s in text_of p s ≡ printed p m.events ++ ending_text (printer_after_all p m.events) m.left.run m.ending)
  pub beside : beside_of p s ≡ []

-- ---- in memory

-- the bytes that the text of an event can have at most: the line of a tick, and the trace
abbrev pub event_room : ℕ
event_room = line_room + trace_room

-- those of the text of an ending
abbrev pub ending_room : ℕ
ending_room = 2 * line_room

-- an event that prints nothing: what is remembered after it where there is room for an event
abbrev pub silent_shown : ℕ → ℕ → Notes → Notes → Shown
silent_shown room n before after = record { notes = cond (has_room event_room n room) after before; n = n }

-- An event that is shown after the first n bytes of so much room: what is remembered after it and
-- where its text ends, and the bytes then. Without room for an event nothing is put or remembered.
unfoldable pub shown_at : ℕ → ℕ → Printer → Event → Shown
shown_at room n p e = record {
  notes = cond (has_room event_room n room) (remembered p e) p.notes;
  n = place_with event_room room n (shown_text p e);
}

unfoldable pub memory_at : List ℕ → ℕ → Printer → Event → List ℕ
memory_at out n p e = memory_with event_room out n (shown_text p e)

pub record ShownIn (p : Printer) (e : Event) (out : List ℕ) (n : ℕ) (r : Shown) (out' : List ℕ) : Type 0 where
  pub answer : r ≡ shown_at (length out) n p e
  pub memory : out' ≡ memory_at out n p e

-- the ending of a journal by the number of its refusal, where there is one
unfoldable pub ending_by : Printer → Run → Option ℕ → ℕ → List ℕ
ending_by p run None place = closing_text p.shows p.notes ++ end_shown p.shows run.rt.tally
ending_by p run (Some number) place = closing_text p.shows p.notes ++ refused_text number place

-- and its channel
unfoldable pub channel_by : Shows → Option ℕ → Channel
channel_by lines number = Output
channel_by trace number = Output
channel_by pages number = Output
channel_by proximity number = Output

-- that text at the front of memory: how many bytes it has, and memory then; without room for an
-- ending nothing is put
pub record EndedIn (s : List ℕ) (out : List ℕ) (r : ℕ) (out' : List ℕ) : Type 0 where
  pub bytes : r ≡ place_with ending_room (length out) 0 s
  pub memory : out' ≡ memory_with ending_room out 0 s
