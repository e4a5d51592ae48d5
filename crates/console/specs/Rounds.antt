-- What a program that takes its input in parts promises, whatever machine takes the bytes: how its
-- answer, what it read and what it handed over to be written hang together.
use Rattle.std.specs.Prelude.{true, false, cond, Option, None, Some, List, [], ◌++◌, ◌≡◌, ℕ, ◌+◌, ◌-◌, ◌*◌, ◌≤◌, ◌<◌, ◌%◌, ◌^◌, length, take, drop}
use Rattle.journal_frames.specs.Frames.{record_room}
use Rattle.channels.specs.declared.intake.Supply.TheVariants.{Over, Failed}
use Rattle.channels.specs.declared.intake.Reads.{Reads}
use Rattle.channels.specs.declared.outlet.Written.{Written}
use Rattle.channels.specs.Intake.{moved_down, most_reads, Came}
use Rattle.printer.specs.declared.Channel.{Channel}
use Rattle.printer.specs.declared.Channel.TheVariants.{Output, Errors}
use Rattle.console.specs.declared.phases.Phase.{Phase}
use Rattle.console.specs.declared.phases.Phase.TheVariants.{Plays, Waits, Refused, InputOver, ReadFailed, ReadsOver, WriteFailed}
use Rattle.console.specs.declared.rounds.Stepped.{Stepped}
use Rattle.console.specs.declared.rounds.Round.{Round}
use Rattle.console.specs.declared.rounds.Ended.{Ended}
use Rattle.console.specs.Phases.{is_going, is_unwritten, has_ending, phase_played, phase_read, phase_ended, number_ended}

-- the bytes that memory has room for
abbrev pub buffer_room : ℕ
buffer_room = record_room

-- n bytes more were handed over on a channel, and none on the other
abbrev pub HandedOn : Channel → Written → ℕ → Written → Type 0
HandedOn Output w n r = (r.bytes ≡ (w.bytes + n) % 2 ^ 64) × (r.beside ≡ w.beside)
HandedOn Errors w n r = (r.bytes ≡ w.bytes) × (r.beside ≡ (w.beside + n) % 2 ^ 64)

-- ---- a machine

-- from a state it takes bytes and puts a text, and these bytes are left, before which it is in this
-- state
abbrev pub Going : Type 0 → Type 1
Going M = M → List ℕ → List ℕ → M → List ℕ → Type 0

-- of these bytes it can take none: more have to come, or a record is refused by this number
abbrev pub Resting : Type 0 → Type 1
Resting M = M → List ℕ → Option ℕ → Type 0

-- the text of an ending by the number of its refusal and by its place; and its channel
abbrev pub Ending : Type 0 → Type 0
Ending M = M → Option ℕ → ℕ → List ℕ

abbrev pub Sending : Type 0 → Type 0
Sending M = M → Option ℕ → Channel

-- Of no bytes nothing is made. What is made of some bytes is made with more after them too, and then
-- what is made of those that are left and of these. Where bytes have to come, there is room for one.
pub record MachineLaws {M : Type 0} (goes : Going M) (rests : Resting M) : Type 0 where
  pub still : (m : M) (s : List ℕ) → goes m s [] m s
  pub further : (m : M) (s t : List ℕ) (m' : M) (s' c t' : List ℕ) (m'' : M) (s'' : List ℕ)
      → goes m s t m' s' → goes m' (s' ++ c) t' m'' s'' → goes m (s ++ c) (t ++ t') m'' s''
  pub short : (m : M) (s : List ℕ) → rests m s None → length s < buffer_room

-- a step: what it takes of the bytes s, the text at the front of memory, and why it ended
pub record Steps {M : Type 0} (goes : Going M) (rests : Resting M) (m : M) (s : List ℕ) (r : Stepped) (m' : M) (out' : List ℕ) : Type 0 where
  pub within : r.at ≤ length s
  pub fits : r.n ≤ length out'
  pub makes : goes m s (take r.n out') m' (drop r.at s)
  pub further : r.more ≡ true → 0 < r.at
  pub stops : r.more ≡ false → rests m' (drop r.at s) r.refused

-- ---- one round

-- the bytes that wait
abbrev pub at_hand : Round → List ℕ → List ℕ
at_hand r b = take r.have b

-- what is known by the phase: of s nothing can be taken, for this number of a refusal or for none
abbrev pub KnownIn : {M : Type 0} → Resting M → Phase → M → List ℕ → Option ℕ → Reads → Type 0
KnownIn rests Plays m s n reads = Unit {0}
KnownIn rests Waits m s n reads = rests m s n × (n ≡ None)
KnownIn rests (Refused number) m s n reads = rests m s n × (n ≡ Some number)
KnownIn rests InputOver m s n reads = rests m s n × (n ≡ None) × (reads.last ≡ Over)
KnownIn rests ReadFailed m s n reads = rests m s n × (n ≡ None) × (reads.last ≡ Failed)
KnownIn rests ReadsOver m s n reads = rests m s n × (n ≡ None) × (most_reads ≤ reads.made)
KnownIn rests WriteFailed m s n reads = Unit {0}

-- the bytes that wait are in memory, and the counts fit their types
pub record Fits (r : Round) (b : List ℕ) : Type 0 where
  pub within : r.have ≤ length b
  pub bytes : r.reads.bytes < 2 ^ 64
  pub text : r.written.bytes < 2 ^ 64
  pub beside : r.written.beside < 2 ^ 64
  pub bound : r.place + r.have ≤ r.reads.made * buffer_room
  pub most : r.reads.made ≤ most_reads

-- what its phase says is so
pub record Sound {M : Type 0} (rests : Resting M) (m : M) (r : Round) (b : List ℕ) : Type 0 where
  pub fits : Fits r b
  pub wrote : r.written.failed ≡ is_unwritten r.phase
  pub stops : KnownIn rests r.phase m (at_hand r b) r.refused r.reads

-- a round that took a step
unfoldable pub round_stepped : Round → Stepped → Written → Round
round_stepped r p w = record {
  place = r.place + p.at;
  have = r.have - p.at;
  refused = p.refused;
  reads = r.reads;
  written = w;
  phase = phase_played w.failed p.more p.refused;
}

-- its text is at the front of memory, of which as many bytes were handed over
pub record SteppedRound {M : Type 0} (goes : Going M) (rests : Resting M) (m : M) (r : Round) (b : List ℕ) (q : Round) (m' : M) (b' out' : List ℕ) : Type 0 where
  pub stepped : Stepped
  pub written : Written
  pub steps : Steps goes rests m (at_hand r b) stepped m' out'
  pub handed : HandedOn Output r.written stepped.n written
  pub moved : b' ≡ moved_down stepped.at r.have b
  pub is : q ≡ round_stepped r stepped written

-- a round that read
unfoldable pub round_read : Round → ℕ → Reads → Round
round_read r have reads = record { place = r.place; have = have; refused = r.refused; reads = reads; written = r.written; phase = phase_read reads.last }

pub record ReadRound (r : Round) (b : List ℕ) (q : Round) (b' : List ℕ) : Type 0 where
  pub came : Came (at_hand r b) r.reads (record { have = q.have; reads = q.reads }) b'
  pub is : q ≡ round_read r q.have q.reads

-- what is left to do falls with each round: to take what is at hand, then to read
abbrev pub to_do_by : Phase → ℕ → ℕ → ℕ
to_do_by Plays have made = 2 * (have + (most_reads - made) * (buffer_room + 1)) + 2
to_do_by Waits have made = 2 * (have + (most_reads - made) * (buffer_room + 1)) + 1
to_do_by (Refused number) have made = 0
to_do_by InputOver have made = 0
to_do_by ReadFailed have made = 0
to_do_by ReadsOver have made = 0
to_do_by WriteFailed have made = 0

abbrev pub to_do : Round → ℕ
to_do r = to_do_by r.phase r.have r.reads.made

-- One round: the bytes `came` were read, and the text `text` was made. As many bytes were handed over
-- to standard output as it has.
pub record Rounded {M : Type 0} (goes : Going M) (rests : Resting M) (m : M) (r : Round) (b : List ℕ) (m' : M) (q : Round) (b' : List ℕ) : Type 0 where
  pub came : List ℕ
  pub text : List ℕ
  pub makes : goes m (at_hand r b ++ came) text m' (at_hand q b')
  pub count : q.place + q.have ≡ r.place + r.have + length came
  pub brought : q.reads.bytes ≡ (r.reads.bytes + length came) % 2 ^ 64
  pub handed : HandedOn Output r.written (length text) q.written
  pub sound : Sound rests m' q b'
  pub less : to_do q < to_do r

-- ---- all rounds

-- The bytes `past` came so far, and the text `text` was made of them, from the first byte on.
pub record Past {M : Type 0} (goes : Going M) (m₀ m : M) (r : Round) (b : List ℕ) : Type 0 where
  pub past : List ℕ
  pub text : List ℕ
  pub makes : goes m₀ past text m (at_hand r b)
  pub count : r.place + r.have ≡ length past
  pub brought : r.reads.bytes ≡ length past % 2 ^ 64
  pub handed : r.written.bytes ≡ length text % 2 ^ 64
  pub beside : r.written.beside ≡ 0

-- and no more rounds are made
pub record Through {M : Type 0} (goes : Going M) (rests : Resting M) (m₀ m : M) (r : Round) (b : List ℕ) : Type 0 where
  pub past : Past goes m₀ m r b
  pub sound : Sound rests m r b
  pub over : is_going r.phase ≡ false

-- ---- the ending

-- the number that is answered: none where a write failed in a round
abbrev pub number_in : Round → Option ℕ
number_in r = number_ended r.phase None r.have

-- or there that of the last step
abbrev pub number_kept : Round → Option ℕ
number_kept r = number_ended r.phase r.refused r.have

-- its text, where it has one
abbrev pub ending_in : {M : Type 0} → Ending M → M → Round → Option ℕ → List ℕ
ending_in ending m r number = cond (has_ending r.phase) (ending m number r.place) []

-- it is at the front of memory, and was handed over on its channel
pub record EndingPut {M : Type 0} (ending : Ending M) (channel : Sending M) (m : M) (r : Round) (number : Option ℕ) (w : Written) (out' : List ℕ) : Type 0 where
  pub text : (let s = ending_in ending m r number in take (length s) out' ≡ s)
  pub handed : HandedOn (channel m number) r.written (length (ending_in ending m r number)) w
  pub none : has_ending r.phase ≡ false → w ≡ r.written

-- the answer, with this number
unfoldable pub ended_with : Option ℕ → Round → Written → Ended
ended_with number r w = record { place = r.place; refused = number; reads = r.reads; written = w; phase = phase_ended r.phase w.failed }

pub record ClosedWith {M : Type 0} (number : Option ℕ) (ending : Ending M) (channel : Sending M) (m : M) (r : Round) (e : Ended) (out' : List ℕ) : Type 0 where
  pub put : EndingPut ending channel m r number e.written out'
  pub is : e ≡ ended_with number r e.written

-- from the first byte to the end
pub record RanWith {M : Type 0} (number : Round → Option ℕ) (goes : Going M) (rests : Resting M) (ending : Ending M) (channel : Sending M) (m₀ m : M) (e : Ended) : Type 0 where
  pub round : Round
  pub buf : List ℕ
  pub out : List ℕ
  pub through : Through goes rests m₀ m round buf
  pub closed : ClosedWith (number round) ending channel m round e out

-- the answer with number_in: where a write failed in a round, no number
abbrev pub ended_of : Round → Written → Ended
ended_of r w = ended_with (number_in r) r w

abbrev pub Closed : {M : Type 0} → Ending M → Sending M → M → Round → Ended → List ℕ → Type 0
Closed ending channel m r e out' = ClosedWith (number_in r) ending channel m r e out'

abbrev pub RanBy : {M : Type 0} → Going M → Resting M → Ending M → Sending M → M → M → Ended → Type 0
RanBy goes rests ending channel m₀ m e = RanWith number_in goes rests ending channel m₀ m e

-- the answer with number_kept: there the number of the last step
abbrev pub ended_keeping : Round → Written → Ended
ended_keeping r w = ended_with (number_kept r) r w

abbrev pub ClosedKeeping : {M : Type 0} → Ending M → Sending M → M → Round → Ended → List ℕ → Type 0
ClosedKeeping ending channel m r e out' = ClosedWith (number_kept r) ending channel m r e out'

abbrev pub RanKeeping : {M : Type 0} → Going M → Resting M → Ending M → Sending M → M → M → Ended → Type 0
RanKeeping goes rests ending channel m₀ m e = RanWith number_kept goes rests ending channel m₀ m e

-- s begins with t
pub record StartsWith (t s : List ℕ) : Type 0 where
  pub later : List ℕ
  pub is : s ≡ t ++ later
