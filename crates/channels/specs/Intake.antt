-- Memory whose front holds the bytes at hand, and the reads that bring more.
-- It joins the code of `channels::intake` to the list of bytes that a journal is (01-scope.md,
-- Journal); no paper speaks of this memory.
use Rattle.std.specs.Prelude.{◌≡◌, ℕ, ◌+◌, ◌%◌, ◌^◌, ◌<◌, ◌≤◌, Bool, true, false, List, [], ◌++◌, length, take, drop}
use Rattle.channels.specs.declared.intake.Supply.{Supply}
use Rattle.channels.specs.declared.intake.Supply.TheVariants.{More, Over, Failed, Spent}
use Rattle.channels.specs.declared.intake.Reads.{Reads}
use Rattle.channels.specs.declared.intake.Got.{Got}

-- memory b with its bytes from `at` to `have` at the front, and after these as it was
unfoldable pub moved_down : ℕ → ℕ → List ℕ → List ℕ
moved_down at have b = let s = drop at (take have b) in s ++ drop (length s) b

-- the reads that a program makes at most
abbrev pub most_reads : ℕ
most_reads = 140737488355328

-- whether there may be more to read
abbrev pub may_come : Supply → Bool
may_come More = true
may_come Over = false
may_come Failed = false
may_come Spent = false

-- no read was made
abbrev pub is_spent : Supply → Bool
is_spent More = false
is_spent Over = false
is_spent Failed = false
is_spent Spent = true

-- the input is over
abbrev pub is_over : Supply → Bool
is_over More = false
is_over Over = true
is_over Failed = false
is_over Spent = false

-- how many reads were made, by what the last one said
abbrev pub Counted : Supply → ℕ → ℕ → Type 0
Counted More before made = (before < most_reads) × (made ≡ before + 1)
Counted Over before made = (before < most_reads) × (made ≡ before + 1)
Counted Failed before made = (before < most_reads) × (made ≡ before + 1)
Counted Spent before made = (most_reads ≤ before) × (made ≡ before)

-- The bytes `came` were read, and the first bytes of memory are s and these; the read and its bytes
-- are counted. The promise cannot name the bytes, nor what is after them, since the operating
-- system's read promises nothing of them.
pub record Came (s : List ℕ) (before : Reads) (r : Got) (buf' : List ℕ) : Type 0 where
  pub came : List ℕ
  pub within : r.have ≤ length buf'
  pub count : r.have ≡ length (s ++ came)
  pub bytes : take r.have buf' ≡ s ++ came
  pub brought : r.reads.bytes ≡ (before.bytes + length came) % 2 ^ 64
  pub counted : Counted r.reads.last before.made r.reads.made
  pub none : may_come r.reads.last ≡ false → came ≡ []
