-- The text that `roots` reads and writes. It states nothing of the papers.
use Rattle.std.specs.Prelude.{Option, Some, None, option_and_then, ℕ, zero, suc, ◌+◌, ◌-◌, ◌*◌, ◌/◌, ◌≡◌, Bool, true, false, cond, List, [], ◌∷◌, ◌++◌, leb, ltb, eqb, length, take, drop, get_or}
use Rattle.std.specs.Float.{binary64}
use Rattle.std.specs.Float.Ieee.{of_bits}
use Rattle.io.specs.Counts.{IsPrefixLen}
use Rattle.text.specs.Ascii.{ascii}
use Rattle.text.specs.Number.{hex_in, float_text}
use Rattle.fmath.specs.Root.{root_of}

-- ---- sizes

-- the bytes of a line, those of an answer at most, and the lines that a turn takes at most
abbrev pub line_bytes : ℕ
line_bytes = 17

abbrev pub answer_bytes : ℕ
answer_bytes = 34

abbrev pub turn_lines : ℕ
turn_lines = 240

-- ---- reading

-- the value of a hexadecimal digit, `0` to `9` or `a` to `f`; no other byte is one
unfoldable pub digit_of : ℕ → Option ℕ
digit_of c = cond (ltb c 48) None (cond (leb c 57) (Some (c - 48)) (cond (ltb c 97) None (cond (leb c 102) (Some (c - 97 + 10)) None)))

-- v followed by the digits cs
unfoldable pub read_digits : ℕ → List ℕ → Option ℕ
unfolding digit_of
read_digits v [] = Some v
read_digits v (c ∷ cs) = option_and_then (λ d. read_digits (v * 16 + d) cs) (digit_of c)

-- a line is 16 digits and a newline
unfoldable pub pattern_of : List ℕ → Option ℕ
unfolding read_digits
pattern_of s = cond (eqb (length s) line_bytes) (cond (eqb (get_or s 16 0) 10) (read_digits 0 (take 16 s)) None) None

-- ---- writing

-- the line for the pattern b: b, a space, the root, a newline
unfoldable pub root_text : ℕ → List ℕ
root_text b = hex_in 16 b ++ ascii " " ++ float_text (root_of (of_bits binary64 b)) ++ ascii "\n"

-- ---- the whole

abbrev pub by_read : {A : Type 0} → Option ℕ → (ℕ → A) → A → A
by_read (Some b) f a = f b
by_read None f a = a

-- the answer to one line
unfoldable pub answer_to : List ℕ → List ℕ
unfolding pattern_of root_text
answer_to s = by_read (pattern_of s) root_text (ascii "bad line\n")

unfoldable pub is_bad : List ℕ → Bool
unfolding pattern_of
is_bad s = by_read (pattern_of s) (λ b. false) true

-- the answers to k lines of their length, up to the first bad one
unfoldable pub answers : ℕ → List ℕ → List ℕ
unfolding answer_to is_bad
answers zero s = []
answers (suc k) s = answer_to (take line_bytes s) ++ cond (is_bad (take line_bytes s)) [] (answers k (drop line_bytes s))

unfoldable pub some_bad : ℕ → List ℕ → Bool
unfolding is_bad
some_bad zero s = false
some_bad (suc k) s = cond (is_bad (take line_bytes s)) true (some_bad k (drop line_bytes s))

-- how many lines there are in s, a part of one at the end counting as one
abbrev pub line_count : List ℕ → ℕ
line_count s = (length s + 16) / line_bytes

-- the answers to the bytes s are at the start of `out`, n bytes of them
pub record Answered (s out : List ℕ) (n : ℕ) (bad : Bool) : Type 0 where
  pub counts : IsPrefixLen n out
  pub text_is : take n out ≡ answers (line_count s) s
  pub bad_is : bad ≡ some_bad (line_count s) s
