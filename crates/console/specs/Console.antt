-- What a program that reads a journal in parts promises: how its answer, what it read and what it
-- handed over to be written hang together. The text is `text_of` of `printer` on standard output,
-- and `beside_of` on standard error (01-scope.md, Journal, the program `fuse`). The claim `Ran` is
-- at the end of this file.
use Rattle.std.specs.Prelude.{Option, None, Some, List, [], ◌≡◌, ℕ, ◌-◌, ◌≤◌, ◌%◌, ◌^◌, length}
use Rattle.std.specs.Option.{option_map}
use Rattle.journal_refusals.specs.declared.Refusal.{Refusal}
use Rattle.journal_refusals.specs.Table.{number_of}
use Rattle.stream.specs.Stream.{awaits, halted, Settled, telling, settled}
use Rattle.journal_reader.specs.State.{State}
use Rattle.journal_reader.specs.Reading.{Instruction, on_bytes}
use Rattle.journal.specs.Events.{run_after_all, events_from}
use Rattle.journal.specs.Journal.{start_state, Ending, ended, refused}
use Rattle.channels.specs.declared.intake.Supply.TheVariants.{Over, Failed}
use Rattle.channels.specs.Intake.{most_reads}
use Rattle.printer.specs.Printer.{Shows, Printer, printed, printer_after_all, kinds_taken, meaning_for, text_of, beside_of, showing}
use Rattle.player.specs.Play.{text_by, Rests}
use Rattle.console.specs.declared.phases.Phase.{Phase}
use Rattle.console.specs.declared.phases.Phase.TheVariants.{Plays, Waits, Refused, InputOver, ReadFailed, ReadsOver, WriteFailed}
use Rattle.console.specs.declared.Journal.{Journal}
use Rattle.console.specs.declared.Played.{Played}
use Rattle.console.specs.Phases.{is_unwritten}
use Rattle.console.specs.Rounds.{StartsWith}

-- ---- a journal that is played

-- its reader with its lists, and its printer
abbrev pub state_of : {P : Type 0} → Journal P → State
state_of j = record { reader = j.reader; lists = j.lists }

abbrev pub printer_of : {P : Type 0} → Shows → Journal P → Printer
printer_of w j = showing w j.notes

-- of the bytes s the instructions `told` are obeyed, the text of whose events is t, and s' is left; for
-- any table of kinds
pub record JournalGoes {P : Type 0} (kinds : List ℕ) (w : Shows) (j : Journal P) (s t : List ℕ) (j' : Journal P) (s' : List ℕ) : Type 0 where
  pub told : List Instruction
  pub goes : settled (on_bytes kinds) (state_of j) s ≡ telling told (settled (on_bytes kinds) (state_of j') s')
  pub run_is : j'.run ≡ run_after_all j.run told
  pub printer_is : printer_of w j' ≡ printer_after_all (printer_of w j) (events_from j.run told)
  pub text : t ≡ text_by (printer_of w j) j.run told

-- its reader rests before s
pub record JournalRests {P : Type 0} (kinds : List ℕ) (j : Journal P) (s : List ℕ) (number : Option ℕ) : Type 0 where
  pub why : Option Refusal
  pub number_is : number ≡ option_map number_of why
  pub rests : Rests kinds (state_of j) s why

-- ---- what a program promises

-- an ending by the number of its refusal; and the place of the record that was refused, or the number
-- of bytes
unfoldable pub end_number : Ending → Option ℕ
end_number ended = None
end_number (refused r p) = Some (number_of r)

unfoldable pub end_place : List ℕ → Ending → ℕ
end_place s ended = length s
end_place s (refused r p) = p

-- the answer is how the journal s ends, and what it leaves
pub record Answers (p : Printer) (r : Played) (s : List ℕ) : Type 0 where
  pub refused_is : r.ended.refused ≡ end_number (meaning_for p s).ending
  pub place_is : r.ended.place ≡ end_place s (meaning_for p s).ending
  pub run_is : r.run ≡ (meaning_for p s).left.run

-- how far the program's reader comes with s
abbrev pub comes_to : Printer → List ℕ → Settled State Instruction Refusal
comes_to p s = settled (on_bytes (kinds_taken p.shows)) start_state s

-- it halted: no byte more would change anything
pub record Halts (p : Printer) (s : List ℕ) : Type 0 where
  pub why : Refusal
  pub end : (comes_to p s).end ≡ halted why

-- it waits for more bytes, and nothing was refused
pub record Pauses (p : Printer) (r : Played) (s : List ℕ) : Type 0 where
  pub end : (comes_to p s).end ≡ awaits
  pub place_is : r.ended.place ≡ length s - length (comes_to p s).rest
  pub refused_is : r.ended.refused ≡ None
  pub run_is : r.run ≡ (meaning_for p s).left.run

-- Why it is over, where the bytes s came, and the text t was handed over to standard output and u
-- to standard error. At a refusal, which no byte more would undo, and at the end of the input: all
-- that is printed for the journal s, and the answer says how it ends. Where a read failed, or no
-- read was left: the text of its events, and none of an ending. Where a write failed: the first
-- part of each text.
abbrev pub EndsBy : Printer → Played → List ℕ → List ℕ → List ℕ → Phase → Type 0
EndsBy p r s t u Plays = ⊥
EndsBy p r s t u Waits = ⊥
EndsBy p r s t u (Refused number) = (t ≡ text_of p s) × (u ≡ beside_of p s) × Answers p r s × Halts p s
EndsBy p r s t u InputOver = (t ≡ text_of p s) × (u ≡ beside_of p s) × Answers p r s × (r.ended.reads.last ≡ Over)
EndsBy p r s t u ReadFailed = (t ≡ printed p (meaning_for p s).events) × (u ≡ []) × Pauses p r s × (r.ended.reads.last ≡ Failed)
EndsBy p r s t u ReadsOver = (t ≡ printed p (meaning_for p s).events) × (u ≡ []) × Pauses p r s × (most_reads ≤ r.ended.reads.made)
EndsBy p r s t u WriteFailed = StartsWith t (text_of p s) × StartsWith u (beside_of p s)

-- The bytes `journal` came, as many as the reads brought; the text `text` was handed over to
-- standard output and `beside` to standard error, as many bytes as were counted; a write failed
-- exactly where the phase says so. What is said of a failure is in neither. The proof takes for
-- `journal` what the reads brought; the promise cannot name it, since the operating system's read
-- promises nothing of its bytes, nor its write of what is written.
pub record Ran (p : Printer) (r : Played) : Type 0 where
  pub journal : List ℕ
  pub text : List ℕ
  pub beside : List ℕ
  pub brought : r.ended.reads.bytes ≡ length journal % 2 ^ 64
  pub handed : r.ended.written.bytes ≡ length text % 2 ^ 64
  pub handed_beside : r.ended.written.beside ≡ length beside % 2 ^ 64
  pub wrote : r.ended.written.failed ≡ is_unwritten r.ended.phase
  pub ends : EndsBy p r journal text beside r.ended.phase
