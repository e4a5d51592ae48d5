-- What a program that converts a journal in parts promises (02-change-requests.md, Ask 9): how its
-- answer, what it read and what it handed over to be written hang together. Standard output has
-- records of the other form, standard error the line of a refusal. The claim `Ran` is at the end of
-- this file.
use Rattle.std.specs.Prelude.{cond, Option, None, Some, option_map, List, [], ◌≡◌, ℕ, ◌-◌, ◌≤◌, ◌%◌, ◌^◌, eqb, length}
use Rattle.stream.specs.Stream.{awaits, halted, Settled, telling, settled}
use Rattle.journal_frames.specs.Frames.{Framed, bytes_of}
use Rattle.channels.specs.declared.intake.Supply.TheVariants.{Over, Failed}
use Rattle.channels.specs.Intake.{most_reads}
use Rattle.report.specs.Lines.{refused_text}
use Rattle.console.specs.declared.phases.Phase.{Phase}
use Rattle.console.specs.declared.phases.Phase.TheVariants.{Plays, Waits, Refused, InputOver, ReadFailed, ReadsOver, WriteFailed}
use Rattle.console.specs.declared.rounds.Ended.{Ended}
use Rattle.console.specs.Phases.{is_unwritten}
use Rattle.console.specs.Rounds.{StartsWith}
use Rattle.journal_forms.specs.declared.Form.{Form}
use Rattle.journal_forms.specs.declared.Cause.{Cause}
use Rattle.journal_forms.specs.Forms.{other}
use Rattle.journal_forms.specs.Conversion.{on_form, Ending, ended, refused, conversion_of, converted_bytes, number_of}
use Rattle.journal_forms.specs.Turns.{number_if, Rests}
use Rattle.converter.specs.declared.Conversion.{Conversion}

-- ---- a journal that is converted

-- of the bytes s the records `told` are made, whose bytes are t, and s' is left
pub record ConversionGoes (m : Conversion) (s t : List ℕ) (m' : Conversion) (s' : List ℕ) : Type 0 where
  pub told : List Framed
  pub same : m' ≡ m
  pub goes : settled (on_form m.from (other m.from)) tt s ≡ telling told (settled (on_form m.from (other m.from)) tt s')
  pub text : t ≡ bytes_of told

-- of s nothing can be taken
pub record ConversionRests (m : Conversion) (s : List ℕ) (number : Option ℕ) : Type 0 where
  pub refused : Option Cause
  pub number_is : number ≡ option_map number_of refused
  pub rests : Rests m.from s (number_if refused)

-- the line of a refusal, by its number; none where nothing was refused
abbrev pub refusal_by : Option ℕ → ℕ → List ℕ
refusal_by None place = []
refusal_by (Some number) place = refused_text number place

-- ---- what a program promises

-- what it writes for the bytes s: to standard output, and the line of a refusal to standard error
abbrev pub written_of : Form → List ℕ → List ℕ
written_of a s = converted_bytes a (other a) s

abbrev pub refusal_text : Ending → List ℕ
refusal_text ended = []
refusal_text (refused c place) = refused_text (number_of c) place

abbrev pub beside_of : Form → List ℕ → List ℕ
beside_of a s = refusal_text (conversion_of a (other a) s).ending

-- an ending by the number of its refusal; and the place of the record that was refused, or the number
-- of bytes
unfoldable pub end_number : Ending → Option ℕ
end_number ended = None
end_number (refused c p) = Some (number_of c)

unfoldable pub end_place : List ℕ → Ending → ℕ
end_place s ended = length s
end_place s (refused c p) = p

-- the answer is how the conversion of s ends
pub record Answers (a : Form) (r : Ended) (s : List ℕ) : Type 0 where
  pub refused_is : r.refused ≡ end_number (conversion_of a (other a) s).ending
  pub place_is : r.place ≡ end_place s (conversion_of a (other a) s).ending

-- how far it comes with s
abbrev pub comes_to : Form → List ℕ → Settled (Unit {0}) Framed Cause
comes_to a s = settled (on_form a (other a)) tt s

-- it halted: no byte more would change anything
pub record Halts (a : Form) (s : List ℕ) : Type 0 where
  pub why : Cause
  pub end : (comes_to a s).end ≡ halted why

-- it waits for more bytes, and nothing was refused
pub record Pauses (a : Form) (r : Ended) (s : List ℕ) : Type 0 where
  pub end : (comes_to a s).end ≡ awaits
  pub place_is : r.place ≡ length s - length (comes_to a s).rest
  pub refused_is : r.refused ≡ None

-- Why it is over, where the bytes s came, and t was handed over to standard output and u to standard
-- error. At a refusal, which no byte more would undo, and at the end of the input: all that is
-- written for s, and the answer says how its conversion ends. Where a read failed, or no read was
-- left: the whole records that came, and no line. Where a write failed: the first part of each.
abbrev pub EndsBy : Form → Ended → List ℕ → List ℕ → List ℕ → Phase → Type 0
EndsBy a r s t u Plays = ⊥
EndsBy a r s t u Waits = ⊥
EndsBy a r s t u (Refused number) = (t ≡ written_of a s) × (u ≡ beside_of a s) × Answers a r s × Halts a s
EndsBy a r s t u InputOver = (t ≡ written_of a s) × (u ≡ beside_of a s) × Answers a r s × (r.reads.last ≡ Over)
EndsBy a r s t u ReadFailed = (t ≡ written_of a s) × (u ≡ []) × Pauses a r s × (r.reads.last ≡ Failed)
EndsBy a r s t u ReadsOver = (t ≡ written_of a s) × (u ≡ []) × Pauses a r s × (most_reads ≤ r.reads.made)
EndsBy a r s t u WriteFailed = StartsWith t (written_of a s) × StartsWith u (beside_of a s)

-- The bytes `journal` came, as many as the reads brought; `text` was handed over to standard output
-- and `beside` to standard error, as many bytes as were counted; a write failed exactly where the
-- phase says so. What is said of a failure is in neither.
pub record Ran (a : Form) (r : Ended) : Type 0 where
  pub journal : List ℕ
  pub text : List ℕ
  pub beside : List ℕ
  pub brought : r.reads.bytes ≡ length journal % 2 ^ 64
  pub handed : r.written.bytes ≡ length text % 2 ^ 64
  pub handed_beside : r.written.beside ≡ length beside % 2 ^ 64
  pub wrote : r.written.failed ≡ is_unwritten r.phase
  pub ends : EndsBy a r journal text beside r.phase
