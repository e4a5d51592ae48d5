-- What is made of the bytes at hand: records in the other form, put into memory one after the other
-- while there is room for the longest (02-change-requests.md, Ask 9). It joins the code of
-- `journal_forms::convert` to `conversion_of`.
use Rattle.std.specs.Prelude.{Option, Some, None, Bool, true, false, cond, List, [], ◌∷◌, ◌++◌, ◌≡◌, ℕ, ◌+◌, ◌-◌, length, drop}
use Rattle.std.proofs.Math.Seq.{paste}
use Rattle.stream.specs.Stream.{Next, wait, halt, go, tell, End, awaits, halted, Settled, settled}
use Rattle.journal_frames.specs.Frames.{Framed, bytes_of}
use Rattle.text.specs.Memory.{has_room}
use Rattle.journal_forms.specs.declared.Form.{Form}
use Rattle.journal_forms.specs.declared.Cause.{Cause}
use Rattle.journal_forms.specs.declared.Converted.{Converted}
use Rattle.journal_forms.specs.Forms.{other, record_most}
use Rattle.journal_forms.specs.Conversion.{on_form, number_of}

-- why no more records are taken, though more may be there: one is refused, or there is no room
pub data Stop : Type 0 where
  refuses : Cause → Stop
  full : Stop

-- the bytes of a record
abbrev pub record_of : Framed → List ℕ
record_of f = f.kind ∷ f.body

-- what the journal does next, after n bytes were put
unfoldable pub counted : ℕ → Next (Unit {0}) Framed Cause → Next ℕ Framed Stop
counted n wait = wait
counted n (halt c) = halt (refuses c)
counted n (go r k) = go n k
counted n (tell r k f) = tell (n + length (record_of f)) k f

-- no record is taken where there is no room for the longest
unfoldable pub into_room : Form → ℕ → ℕ → List ℕ → Next ℕ Framed Stop
into_room a room n s = cond (has_room record_most n room) (counted n (on_form a (other a) tt s)) (halt full)

-- what is made of s with so much room
unfoldable pub part_of : Form → List ℕ → ℕ → Settled ℕ Framed Stop
part_of a s room = settled (into_room a room) 0 s

-- ---- what the code answers

abbrev pub is_full : End Stop → Bool
is_full awaits = false
is_full (halted (refuses c)) = false
is_full (halted full) = true

-- why a record is refused, if one is
abbrev pub refused_by : End Stop → Option Cause
refused_by awaits = None
refused_by (halted (refuses c)) = Some c
refused_by (halted full) = None

-- as a number, or 0
abbrev pub number_if : Option Cause → ℕ
number_if None = 0
number_if (Some c) = number_of c

unfoldable pub answer_of : List ℕ → Settled ℕ Framed Stop → Converted
answer_of s m = record {
  at = length s - length m.rest;
  n = m.state;
  more = is_full m.end;
  refused = refused_by m.end;
}

-- the answer, and memory: the records at its front, and after them what was there
pub record PartConverted (a : Form) (s out : List ℕ) (r : Converted) (out' : List ℕ) : Type 0 where
  pub answer : r ≡ answer_of s (part_of a s (length out))
  pub memory : (let t = bytes_of (part_of a s (length out)).told in out' ≡ t ++ drop (length t) out)

-- ---- one record

-- the answer after what the journal does next
unfoldable pub step_of : Converted → Next (Unit {0}) Framed Cause → Converted
step_of p wait = record { at = p.at; n = p.n; more = false; refused = None }
step_of p (halt c) = record { at = p.at; n = p.n; more = false; refused = Some c }
step_of p (go r k) = p
step_of p (tell r k f) = record { at = p.at + k; n = p.n + length (record_of f); more = true; refused = None }

-- and memory, in which a record goes after the first n bytes
unfoldable pub memory_of : List ℕ → ℕ → Next (Unit {0}) Framed Cause → List ℕ
memory_of out n wait = out
memory_of out n (halt c) = out
memory_of out n (go r k) = out
memory_of out n (tell r k f) = paste out n (record_of f) (length (record_of f))

pub record Stepped (p : Converted) (x : Next (Unit {0}) Framed Cause)
    (out : List ℕ) (r : Converted) (out' : List ℕ) : Type 0 where
  pub answer : r ≡ step_of p x
  pub memory : out' ≡ memory_of out p.n x

-- whether there is more to do, and room for it
unfoldable pub goes_on_of : Bool → ℕ → ℕ → Bool
goes_on_of more n room = cond (has_room record_most n room) more false

-- ---- where nothing more can be taken

-- why no more is to be had of some bytes, as a number: 0 where more may come, or that of the refusal
abbrev pub number_at : End Cause → ℕ
number_at awaits = 0
number_at (halted c) = number_of c

-- of s nothing can be taken, and `number` says why
pub record Rests (a : Form) (s : List ℕ) (number : ℕ) : Type 0 where
  pub end : End Cause
  pub number_is : number ≡ number_at end
  pub rests : settled (on_form a (other a)) tt s ≡ record { state = tt; rest = s; told = []; end = end }
