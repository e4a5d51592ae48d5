-- Demand 1 (00-demands.md; 01-scope.md, Journal): only stated causes refuse a record. What is
-- claimed of every list of bytes, whatever the kinds; `journal_ends` in proofs/Ends proves it.
use Rattle.std.specs.Prelude.{List, ◌≡◌, ℕ, ◌+◌, ◌≤◌, ◌<◌, length, take, drop}
use Rattle.journal_records.specs.Little.{byte_at}
use Rattle.journal_frames.specs.Frames.{body_len}
use Rattle.journal_refusals.specs.declared.Refusal.{Refusal}
use Rattle.journal_refusals.specs.Table.{Accepted, Refused, Judged, number_of, last_number, judged_of}
use Rattle.journal_reader.specs.State.{State, seen_in}
use Rattle.journal.specs.Journal.{ended, refused, journal_of}

-- what the table says of the record whose kind byte is at place p, for the reader that comes to it
unfoldable pub judged_at : List ℕ → State → List ℕ → ℕ → Judged
judged_at kinds st s p =
    let k = byte_at s p in
    judged_of kinds (seen_in st) k (take (body_len kinds k) (drop (p + 1) s))

-- s is refused at place p for r: the bytes before p are a journal that ends there with nothing
-- refused, and the table refuses the record at p, for r
pub record RefusedAt (kinds s : List ℕ) (r : Refusal) (p : ℕ) : Type 0 where
  pub inside : p < length s
  pub before : (journal_of kinds (take p s)).ending ≡ ended
  pub cause : judged_at kinds (journal_of kinds (take p s)).left.state s p ≡ Refused r

-- what a refusal leaves: the events before its record, and run state, tally, collected records
-- and lists as they were before it; its number is one of the table's
pub record LeftAsBefore (kinds s : List ℕ) (r : Refusal) (p : ℕ) : Type 0 where
  pub number : (1 ≤ number_of r) × (number_of r ≤ last_number)
  pub events : (journal_of kinds s).events ≡ (journal_of kinds (take p s)).events
  pub left : (journal_of kinds s).left ≡ (journal_of kinds (take p s)).left

-- every journal ends at the end of its bytes with every record accepted, or with a refusal
pub data Ends (kinds s : List ℕ) : Type 0 where
  with_end : (journal_of kinds s).ending ≡ ended
      → ((p : ℕ) → p < length s → (journal_of kinds (take p s)).ending ≡ ended
      → judged_at kinds (journal_of kinds (take p s)).left.state s p ≡ Accepted)
      → Ends kinds s
  with_refusal : (r : Refusal) (p : ℕ) → (journal_of kinds s).ending ≡ refused r p
      → RefusedAt kinds s r p → LeftAsBefore kinds s r p
      → Ends kinds s

-- ---- a refusal goes by what was seen and by the record's bytes alone

-- the records at place p of s and at place q of t have the same kind and the same body
pub record SameRecord (kinds s : List ℕ) (p : ℕ) (t : List ℕ) (q : ℕ) : Type 0 where
  pub kind : byte_at s p ≡ byte_at t q
  pub body : take (body_len kinds (byte_at s p)) (drop (p + 1) s) ≡ take (body_len kinds (byte_at t q)) (drop (q + 1) t)

-- what the journals s and t have seen before places p and q
abbrev pub SameSeen : List ℕ → List ℕ → ℕ → List ℕ → ℕ → Type 0
SameSeen kinds s p t q = seen_in (journal_of kinds (take p s)).left.state ≡ seen_in (journal_of kinds (take q t)).left.state

-- then what is refused in s is refused in t, whatever the run states and the values of the lists
-- are, and whatever comes after; `refused_alike` in proofs/Ends proves it
abbrev pub RefusedAlike : Type 0
RefusedAlike = (kinds s : List ℕ) (p : ℕ) (t : List ℕ) (q : ℕ) (r : Refusal)
    → RefusedAt kinds s r p
    → q < length t → (journal_of kinds (take q t)).ending ≡ ended
    → SameSeen kinds s p t q → SameRecord kinds s p t q
    → RefusedAt kinds t r q
