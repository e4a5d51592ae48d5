-- What is claimed of the conversion of every list of bytes (00-demands.md, Demand 1;
-- 02-change-requests.md, Ask 9). `conversion_ends` in proofs/Ends and `there_and_back` in proofs/Back
-- prove it.
use Rattle.std.specs.Prelude.{Bool, true, false, not, ◌||◌, List, [], ◌∷◌, map, ◌≡◌, ℕ, ◌<◌, eqb, length, take, Float}
use Rattle.std.specs.Float.Ieee.{is_nan}
use Rattle.journal_records.specs.Little.{byte_at}
use Rattle.journal_frames.specs.Frames.{bytes_of}
use Rattle.journal_forms.specs.declared.Form.{Form}
use Rattle.journal_forms.specs.declared.Cause.{Cause}
use Rattle.journal_forms.specs.Forms.{other}
use Rattle.journal_forms.specs.Body.{all_pass}
use Rattle.journal_forms.specs.Conversion.{turned, ended, refused, conversion_of, converted_bytes, number_of, numbers_from, refused_for, judged_at, records_in, floats_of}

-- ---- demand 1

-- whether a number is in a list
unfoldable pub is_one_of : ℕ → List ℕ → Bool
is_one_of n [] = false
is_one_of n (m ∷ ms) = eqb n m || is_one_of n ms

-- the first p bytes of s are whole records of form a and nothing else, and each of them was written
-- in the other form: kinds and order are kept, and nothing else is written
pub record RecordByRecord (a : Form) (s : List ℕ) (p : ℕ) : Type 0 where
  pub bytes : bytes_of (records_in a (take p s)) ≡ take p s
  pub written : (conversion_of a (other a) s).records ≡ map (turned a (other a)) (records_in a (take p s))

-- s is refused at place p for c: the bytes before p are converted, with nothing refused, to all that
-- is written; the table refuses the record at p for c; the number is one that its program has
pub record RefusedAt (a : Form) (s : List ℕ) (c : Cause) (p : ℕ) : Type 0 where
  pub inside : p < length s
  pub before : conversion_of a (other a) (take p s)
      ≡ record { records = (conversion_of a (other a) s).records; ending = ended }
  pub cause : judged_at a (other a) s p ≡ refused_for c
  pub number : is_one_of (number_of c) (numbers_from a) ≡ true

-- every list of bytes ends in records, or in records and a refusal
pub data Ends (a : Form) (s : List ℕ) : Type 0 where
  with_end : (conversion_of a (other a) s).ending ≡ ended → RecordByRecord a s (length s) → Ends a s
  with_refusal : (c : Cause) (p : ℕ) → (conversion_of a (other a) s).ending ≡ refused c p
      → RecordByRecord a s p → RefusedAt a s c p → Ends a s

abbrev pub ConversionEnds : Type 0
ConversionEnds = (a : Form) (s : List ℕ) → Ends a s

-- ---- there and back

-- each of these numbers is a byte
abbrev pub OfBytes : List ℕ → Type 0
OfBytes s = (i : ℕ) → byte_at s i < 256

-- no float of the journal is a NaN
abbrev pub is_number : Float → Bool
is_number x = not (is_nan x)

abbrev pub NoNan : Form → List ℕ → Type 0
NoNan a s = all_pass is_number (floats_of a s) ≡ true

-- on the way back nothing is refused: each NaN has its quiet pattern then, and every other byte is
-- as it was; without NaN the bytes are restored
pub record Back (a : Form) (s : List ℕ) : Type 0 where
  pub back : conversion_of (other a) a (converted_bytes a (other a) s) ≡ conversion_of a a s
  pub ends : (conversion_of a a s).ending ≡ ended
  pub restored : OfBytes s → NoNan a s → converted_bytes (other a) a (converted_bytes a (other a) s) ≡ s

-- of either form, for all bytes that are converted with nothing refused
abbrev pub ThereAndBack : Type 0
ThereAndBack = (a : Form) (s : List ℕ) → (conversion_of a (other a) s).ending ≡ ended → Back a s
