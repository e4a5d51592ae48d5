-- The text that `roots` reads and writes, piece by piece. Assumes nothing.
use mathlib.Core.Path.{◌≡◌, refl, sym, ap, ◌∙◌}
use mathlib.Core.Bool.{Bool, true, false, not, cond}
use mathlib.Core.List.{List, [], ◌∷◌, ◌++◌, append_assoc, append-nil}
use Prim.Native.Nat.{ℕ, zero, suc, ◌+◌, ◌*◌, ◌/◌, ◌%◌, ◌^◌, ◌≤◌, ◌<◌, min}
use native.Mathlib.Nat.{pow-suc, pow-le-pow_right}
use native.Mathlib.Numerals.{add-one}
use native.Mathlib.Omega.{arith}
use lib.Dec.{T, leb, leb→le, nleb→lt}
use lib.ListN.{length, take, drop, get_or, length-append, length-take, length-drop, drop_of_length-le}
use lib.Seq.{drop-cons, get_or-take, take_all, take_at, drop_at, length-take-le}
use lib.Ieee.{Float, binary64, is_nan, to_bits, of_bits}
use Rattle.std.proofs.Common.{Option, Some, None}
use Rattle.text.specs.Ascii.{ascii}
use Rattle.text.specs.declared.Line.{Line}
use Rattle.text.specs.Line.{line_of}
use Rattle.text.specs.Number.{hex_in, hex_digit, float_text}
use Rattle.text.specs.Memory.{Put}
use Rattle.text.proofs.Lines.{held_text}
use Rattle.text.proofs.Puts.{put_shows}
use Rattle.fmath.specs.Root.{root_of}
use Rattle.roots.specs.Text.{digit_of, read_digits, pattern_of, root_text, by_read, answer_to, is_bad, answers, some_bad, line_count, Answered}

-- ---- reading: the digits of s from the i-th on
pub digits_on : (s : List ℕ) (i b d : ℕ) → length s ≡ 17 → i < 16 → digit_of (get_or s i 0) ≡ Some d → read_digits b (drop i (take 16 s)) ≡ read_digits (b * 16 + d) (drop (i + 1) (take 16 s))
unfolding read_digits
digits_on s i b d l h e =
    let k : i < length (take 16 s) = omega (arith, length-take 16 s) in
    rw (add-one, drop-cons (take 16 s) i 0, get_or-take 16 s i 0, e)

pub digits_stop : (s : List ℕ) (i b : ℕ) → length s ≡ 17 → i < 16 → digit_of (get_or s i 0) ≡ None → read_digits b (drop i (take 16 s)) ≡ None
unfolding read_digits
digits_stop s i b l h e =
    let k : i < length (take 16 s) = omega (arith, length-take 16 s) in
    rw (drop-cons (take 16 s) i 0, get_or-take 16 s i 0, e)

pub digits_end : (s : List ℕ) (i b : ℕ) → 16 ≤ i → read_digits b (drop i (take 16 s)) ≡ Some b
unfolding read_digits
digits_end s i b h =
    let k : length (take 16 s) ≤ i = omega (arith, length-take 16 s) in
    rw (drop_of_length-le (take 16 s) k)

-- i digits make a number below 16 ^ i, and there are 16 at most
pub value_lt : (b d i : ℕ) → b < 16 ^ i → d < 16 → b * 16 + d < 16 ^ (i + 1)
value_lt b d i h k = rw (add-one, pow-suc 16 i) (omega arith)

pub value_small : (b i : ℕ) → b < 16 ^ i → i < 16 → b < 2 ^ 60
value_small b i h k = let t : 16 ^ i ≤ 16 ^ 15 = pow-le-pow_right {n = 16} (omega arith) {i = i} {j = 15} (omega arith) in omega arith

-- ---- lengths
pub hex_length : (k n : ℕ) → length (hex_in k n) ≡ k
unfolding hex_in
hex_length zero n = refl
hex_length (suc k) n = length-append (hex_in k (n / 16)) (hex_digit (n % 16) ∷ []) ∙ ap (λ (x : ℕ). x + 1) (hex_length k (n / 16)) ∙ add-one k

value_length : (x : Float) → length (float_text x) ≤ 16
unfolding float_text
value_length x = go (is_nan x) (hex_in 16 (to_bits binary64 x)) (hex_length 16 (to_bits binary64 x))
  where
    go : (b : Bool) (l : List ℕ) → length l ≡ 16 → length (cond b (110 ∷ 97 ∷ 110 ∷ []) l) ≤ 16
    go true l h = omega arith
    go false l h = omega arith

pub line_length : (b : ℕ) → length (root_text b) ≤ 34
unfolding root_text
line_length b = simp length-append (omega (arith, hex_length 16 b, value_length (root_of (of_bits binary64 b))))

pub answer_length : (s : List ℕ) → length (answer_to s) ≤ 34
unfolding answer_to
answer_length s = go (pattern_of s)
  where
    go : (r : Option ℕ) → length (by_read r root_text (ascii "bad line\n")) ≤ 34
    go (Some b) = line_length b
    go None = omega arith

-- the line for a pattern holds its text whole
pub root_shown : (b : ℕ) (l : Line) → l ≡ line_of (root_text b) → take l.n l.text ≡ root_text b
root_shown b l e = held_text l (root_text b) (omega (arith, line_length b)) e

-- ---- line by line: `rest` is what is left of s

-- 17 bytes or what is left, and what is left then
pub one_line : (rest line later : List ℕ) → rest ≡ line ++ later → length line ≡ min 17 (length rest) → (line ≡ take 17 rest) × (later ≡ drop 17 rest)
one_line rest line later e l = rw e (go (leb 17 (length rest)) (leb→le 17 (length rest)) (nleb→lt 17 (length rest)))
  where
    short : (u : List ℕ) → length u ≡ 0 → length line ≤ 17 → (line ≡ take 17 (line ++ u)) × (u ≡ drop 17 (line ++ u))
    short [] z h = rw append-nil (sym (take_all 17 line h), sym (drop_of_length-le line h))
    short (x ∷ u) z h = absurd (omega arith)

    go : (b : Bool) → (T b → 17 ≤ length rest) → (T (not b) → length rest < 17) → (line ≡ take 17 (line ++ later)) × (later ≡ drop 17 (line ++ later))
    go true f g = let k : length line ≡ 17 = omega (arith, f tt) in (sym (take_at line later 17 k), sym (drop_at line later 17 k))
    go false f g = short later (omega (arith, g tt, ap length e, length-append line later)) (omega (arith, g tt))

pub record Answering (s old new rest : List ℕ) (n : ℕ) : Type 0 where
  pub long : length new ≡ length old
  pub room : n + line_count rest * 34 ≤ length new
  pub text_is : answers (line_count s) s ≡ take n new ++ answers (line_count rest) rest
  pub bad_is : some_bad (line_count s) s ≡ some_bad (line_count rest) rest

pub none_answered : (s out rest : List ℕ) → rest ≡ s → line_count s * 34 ≤ length out → Answering s out out rest 0
none_answered s out rest e h = rw e (record { long = refl; room = omega arith; text_is = refl; bad_is = refl })

module _ (s old new rest : List ℕ) (n : ℕ) (h : 0 < length rest) (w : Answering s old new rest n) (line : List ℕ) (l : line ≡ take 17 rest) (new' : List ℕ) (n' : ℕ) (long : length new' ≡ length new) (p : Put new n (answer_to line) n' new') where
  abbrev later : List ℕ
  later = drop 17 rest

  abbrev later_text : List ℕ
  later_text = answers (line_count later) later

  abbrev later_bad : Bool
  later_bad = some_bad (line_count later) later

  one_less : line_count rest ≡ suc (line_count later)
  one_less = omega (arith, length-drop 17 rest)

  first : answers (line_count rest) rest ≡ answer_to line ++ cond (is_bad line) [] later_text
  unfolding answers
  first = rw (one_less, l)

  first_bad : some_bad (line_count rest) rest ≡ cond (is_bad line) true later_bad
  unfolding some_bad
  first_bad = rw (one_less, l)

  room : n' + line_count later * 34 ≤ length new'
  room = omega (arith, w.room, p.ends, one_less, answer_length line)

  shown : take n' new' ≡ take n new ++ answer_to line
  shown = put_shows new n (answer_to line) n' new' (omega (arith, w.room)) p

  pub one_answered : is_bad line ≡ false → (v : List ℕ) → v ≡ later → Answering s old new' v n'
  one_answered e v q =
      rw q (record {
        long = long ∙ w.long;
        room = room;
        text_is =
            w.text_is
            ∙ ap (λ (l : List ℕ). take n new ++ l) (first ∙ ap (λ (b : Bool). answer_to line ++ cond b [] later_text) e)
            ∙ sym (append_assoc (take n new) (answer_to line) later_text)
            ∙ ap (λ (l : List ℕ). l ++ later_text) (sym shown);
        bad_is = w.bad_is ∙ first_bad ∙ ap (λ (b : Bool). cond b true later_bad) e;
      })

  pub bad_answered : is_bad line ≡ true → Answered s new' n' true
  bad_answered e = record {
    counts = (omega (arith, room), sym (length-take-le n' new' (omega (arith, room))));
    text_is =
        shown
        ∙ ap (λ (l : List ℕ). take n new ++ l) (sym (append-nil (answer_to line)) ∙ ap (λ (b : Bool). answer_to line ++ cond b [] later_text) (sym e) ∙ sym first)
        ∙ sym w.text_is;
    bad_is = sym (w.bad_is ∙ first_bad ∙ ap (λ (b : Bool). cond b true later_bad) e);
  }

pub all_answered : (s old new rest : List ℕ) (n : ℕ) → length rest ≡ 0 → Answering s old new rest n → Answered s new n false
unfolding answers some_bad
all_answered s old new (x ∷ rest) n h w = absurd (omega arith)
all_answered s old new [] n h w = record {
  counts = (omega (arith, w.room), sym (length-take-le n new (omega (arith, w.room))));
  text_is = sym (w.text_is ∙ append-nil (take n new));
  bad_is = sym w.bad_is;
}
