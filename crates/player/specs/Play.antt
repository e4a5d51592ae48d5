-- What bytes that are at hand are played to: a journal whose instructions are obeyed, one after the
-- other, while the text of their events goes to memory (01-scope.md, Journal, the program `fuse`).
use Rattle.std.specs.Prelude.{Bool, true, false, cond, Option, None, Some, List, [], ◌++◌, ◌≡◌, ℕ, ◌+◌, ◌-◌, ◌≤◌, ◌<◌, Float, length, drop}
use Rattle.journal_refusals.specs.declared.Refusal.{Refusal}
use Rattle.stream.specs.Stream.{Next, wait, halt, go, tell, End, awaits, halted, Settled, telling, settled}
use Rattle.journal_reader.specs.declared.waiting.Reader.{Reader}
use Rattle.journal_reader.specs.State.{State}
use Rattle.journal_reader.specs.Reading.{Instruction, on_bytes}
use Rattle.journal.specs.declared.tick.Run.{Run}
use Rattle.journal.specs.Events.{run_after, run_after_all, event_of, events_from}
use Rattle.text.specs.Memory.{Put, has_room}
use Rattle.printer.specs.Printer.{Shows, Printer, shown_text, remembered, printer_after, printed, printer_after_all, event_room, showing}
use Rattle.player.specs.declared.Played.{Played}

-- ---- a journal whose text goes to memory

-- the reader, the fuse and the printer, and the bytes of text so far
pub record Playing : Type 0 where
  pub state : State
  pub run : Run
  pub printer : Printer
  pub n : ℕ

-- why no more records are taken, though more may be there: one is refused, or there is no room for
-- the text of one more event
pub data Stop : Type 0 where
  refuses : Refusal → Stop
  full : Stop

abbrev pub with_reading : Playing → State → Playing
with_reading p st = record { state = st; run = p.run; printer = p.printer; n = p.n }

-- an instruction is obeyed, and the text of its event added
unfoldable pub obeyed : Playing → State → Instruction → Playing
obeyed p st i =
    let e = event_of p.run i in
    record {
      state = st;
      run = run_after p.run i;
      printer = printer_after p.printer e;
      n = p.n + length (shown_text p.printer e);
    }

-- what the journal does next
unfoldable pub with_text : Playing → Next State Instruction Refusal → Next Playing Instruction Stop
with_text p wait = wait
with_text p (halt r) = halt (refuses r)
with_text p (go st k) = go (with_reading p st) k
with_text p (tell st k i) = tell (obeyed p st i) k i

-- for these kinds; no record is taken where there is no room for the text of an event
unfoldable pub play_of : List ℕ → ℕ → Playing → List ℕ → Next Playing Instruction Stop
play_of kinds room p s = cond (has_room event_room p.n room) (with_text p (on_bytes kinds p.state s)) (halt full)

-- What the bytes s are played to, with so much room: one record after the other, up to one that is
-- refused or is not there whole, or until the room is full.
unfoldable pub fed_of : List ℕ → Playing → List ℕ → ℕ → Settled Playing Instruction Stop
fed_of kinds p s room = settled (play_of kinds room) p s

-- ---- what the code answers

abbrev pub is_full : End Stop → Bool
is_full awaits = false
is_full (halted (refuses r)) = false
is_full (halted full) = true

-- the refusal
abbrev pub refused_by : End Stop → Option Refusal
refused_by awaits = None
refused_by (halted (refuses r)) = Some r
refused_by (halted full) = None

unfoldable pub played_of : List ℕ → Settled Playing Instruction Stop → Played
played_of s a = record {
  reader = a.state.state.reader;
  run = a.state.run;
  notes = a.state.printer.notes;
  at = length s - length a.rest;
  n = a.state.n;
  more = is_full a.end;
  refused = refused_by a.end;
}

-- the text of the events of these instructions
unfoldable pub text_by : Printer → Run → List Instruction → List ℕ
text_by p run is = printed p (events_from run is)

-- the answer, the lists afterwards, and memory: the text of the events at its front, and after that
-- what was there
pub record Fed (kinds : List ℕ) (p : Playing) (s : List ℕ) (out : List ℕ) (r : Played) (l' : List Float) (out' : List ℕ) : Type 0 where
  pub answer : r ≡ played_of s (fed_of kinds p s (length out))
  pub lists : l' ≡ (fed_of kinds p s (length out)).state.state.lists
  pub memory : (let t = text_by p.printer p.run (fed_of kinds p s (length out)).told in out' ≡ t ++ drop (length t) out)

-- before the first byte of a part, with no text yet
abbrev pub playing_from : Printer → Reader → Run → List Float → Playing
playing_from p rd run l = record { state = record { reader = rd; lists = l }; run = run; printer = p; n = 0 }

-- ---- where a reader rests

-- why no more is to be had of some bytes: more bytes may come, or one is refused
abbrev pub end_at : Option Refusal → End Refusal
end_at None = awaits
end_at (Some r) = halted r

-- of s nothing can be taken: the reader stays where it is, and why
abbrev pub Rests : List ℕ → State → List ℕ → Option Refusal → Type 0
Rests kinds st s why = settled (on_bytes kinds) st s ≡ record { state = st; rest = s; told = []; end = end_at why }

-- ---- what its own functions promise each other

-- whether there is more to do, and room for its text
unfoldable pub goes_on_of : Bool → ℕ → ℕ → Bool
goes_on_of more n room = cond (has_room event_room n room) more false

-- the answer p with an instruction obeyed, which leaves the reader so
unfoldable pub obeyed_by : Shows → Played → Reader → Instruction → Played
obeyed_by w p rd i =
    let e = event_of p.run i in
    record {
      reader = rd;
      run = run_after p.run i;
      notes = remembered (showing w p.notes) e;
      at = p.at;
      n = p.n + length (shown_text (showing w p.notes) e);
      more = p.more;
      refused = p.refused;
    }

pub record Obeys (w : Shows) (p : Played) (rd : Reader) (i : Instruction) (out : List ℕ) (r : Played) (out' : List ℕ) : Type 0 where
  pub answer : r ≡ obeyed_by w p rd i
  pub text : Put out p.n (shown_text (showing w p.notes) (event_of p.run i)) r.n out'

-- the journal with what an answer says of it
abbrev pub playing_of : Shows → Played → List Float → Playing
playing_of w r l = record { state = record { reader = r.reader; lists = l }; run = r.run; printer = showing w r.notes; n = r.n }

-- before all of s no record is taken, and why
pub record Stopped (kinds : List ℕ) (room : ℕ) (p : Playing) (s : List ℕ) (more : Bool) (refused : Option Refusal) : Type 0 where
  pub end : End Stop
  pub stays : settled (play_of kinds room) p s ≡ record { state = p; rest = s; told = []; end = end }
  pub more_is : more ≡ is_full end
  pub refused_is : refused ≡ refused_by end

-- From the place of p some records of s were played, to r: the instructions `told`, the text of
-- whose events was put after that which was there.
pub record PlayedUpTo (kinds : List ℕ) (w : Shows) (room : ℕ) (p : Played) (l : List Float) (s out : List ℕ) (told : List Instruction) (r : Played) (l' : List Float) (out' : List ℕ) : Type 0 where
  pub from : p.at ≤ r.at
  pub within : r.at ≤ length s
  pub goes : settled (play_of kinds room) (playing_of w p l) (drop p.at s) ≡ telling told (settled (play_of kinds room) (playing_of w r l') (drop r.at s))
  pub run_is : r.run ≡ run_after_all p.run told
  pub printer_is : showing w r.notes ≡ printer_after_all (showing w p.notes) (events_from p.run told)
  pub text : Put out p.n (text_by (showing w p.notes) p.run told) r.n out'

-- up to the next instruction, and that one; or no more is to be had
pub record PlayedOn (kinds : List ℕ) (w : Shows) (p : Played) (l : List Float) (s out : List ℕ) (r : Played) (l' : List Float) (out' : List ℕ) : Type 0 where
  pub told : List Instruction
  pub plays : PlayedUpTo kinds w (length out) p l s out told r l' out'
  pub further : r.more ≡ true → p.at < r.at
  pub none : r.more ≡ true → r.refused ≡ None
  pub stops : r.more ≡ false → Stopped kinds (length out) (playing_of w r l') (drop r.at s) r.more r.refused
