-- Whether a program goes on with its input, or why not.
use Rattle.std.specs.Prelude.{Bool, true, false, cond, ℕ, eqb, Option, None, Some}
use Rattle.journal_refusals.specs.declared.Refusal.TheVariants.{CutBody}
use Rattle.journal_refusals.specs.Table.{number_of}
use Rattle.channels.specs.declared.intake.Supply.{Supply}
use Rattle.channels.specs.declared.intake.Supply.TheVariants.{More, Over, Failed, Spent}
use Rattle.console.specs.declared.phases.Phase.{Phase}
use Rattle.console.specs.declared.phases.Phase.TheVariants.{Plays, Waits, Refused, InputOver, ReadFailed, ReadsOver, WriteFailed}

abbrev pub is_going : Phase → Bool
is_going Plays = true
is_going Waits = true
is_going (Refused number) = false
is_going InputOver = false
is_going ReadFailed = false
is_going ReadsOver = false
is_going WriteFailed = false

-- bytes have to come before records can be taken
abbrev pub is_waiting : Phase → Bool
is_waiting Plays = false
is_waiting Waits = true
is_waiting (Refused number) = false
is_waiting InputOver = false
is_waiting ReadFailed = false
is_waiting ReadsOver = false
is_waiting WriteFailed = false

-- the text of an ending is written
abbrev pub has_ending : Phase → Bool
has_ending Plays = false
has_ending Waits = false
has_ending (Refused number) = true
has_ending InputOver = true
has_ending ReadFailed = false
has_ending ReadsOver = false
has_ending WriteFailed = false

-- a write failed
abbrev pub is_unwritten : Phase → Bool
is_unwritten Plays = false
is_unwritten Waits = false
is_unwritten (Refused number) = false
is_unwritten InputOver = false
is_unwritten ReadFailed = false
is_unwritten ReadsOver = false
is_unwritten WriteFailed = true

-- no more is to be had of the bytes at hand: more have to come, or a record is refused
abbrev pub phase_rested : Option ℕ → Phase
phase_rested None = Waits
phase_rested (Some number) = Refused number

-- after records were taken: whether a write failed, the room for text is full, one was refused
abbrev pub phase_played : Bool → Bool → Option ℕ → Phase
phase_played failed full refused = cond failed WriteFailed (cond full Plays (phase_rested refused))

-- after a read
abbrev pub phase_read : Supply → Phase
phase_read More = Plays
phase_read Over = InputOver
phase_read Failed = ReadFailed
phase_read Spent = ReadsOver

-- after the text of the ending, if there is one
abbrev pub phase_ended : Phase → Bool → Phase
phase_ended phase failed = cond failed WriteFailed phase

-- bytes that are left over when the input is over are a record that its end cut
abbrev pub number_left : ℕ → Option ℕ
number_left have = cond (eqb have 0) None (Some (number_of CutBody))

-- the number of the refusal, where the last step had this one
abbrev pub number_ended : Phase → Option ℕ → ℕ → Option ℕ
number_ended Plays last have = last
number_ended Waits last have = last
number_ended (Refused number) last have = Some number
number_ended InputOver last have = number_left have
number_ended ReadFailed last have = last
number_ended ReadsOver last have = last
number_ended WriteFailed last have = last
