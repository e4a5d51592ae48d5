-- Lines of components in memory: none is cut, and they are put one after the other.
use Prim.Native.Nat.{ℕ, zero, suc, ◌+◌, ◌*◌, ◌≤◌, ◌<◌}
use mathlib.Core.Bool.{Bool}
use mathlib.Core.Path.{◌≡◌, refl, sym, ap, ◌∙◌}
use mathlib.Core.List.{List, [], ◌∷◌, ◌++◌}
use native.Mathlib.Omega.{arith}
use native.Mathlib.Numerals.{add-one}
use lib.Ieee.{Float}
use lib.ListN.{length, take, set, length-append}
use lib.Seq.{take-suc-set, take_all}
use Rattle.text.specs.declared.Line.{Line}
use Rattle.text.specs.Ascii.{ascii}
use Rattle.text.specs.Line.{line_room, line_of}
use Rattle.text.specs.Memory.{Put, place_put, memory_put}
use Rattle.text.proofs.Digits.{decimal_20}
use Rattle.text.proofs.Lines.{held_text}
use Rattle.text.proofs.Puts.{put_none, put_on, put_there}
use Rattle.std.specs.Prelude.{Option, None, Some}
use Rattle.proximity_text.specs.declared.Word.{Word}
use Rattle.proximity_text.specs.declared.Word.TheVariants.{Within, Out}
use Rattle.report.specs.Lines.{fields_text}
use Rattle.report.proofs.Laws.{two_fields}
use Rattle.proximity_text.specs.declared.Before.{Before}
use Rattle.proximity_text.specs.Near.{inside_at, inside_up_to, said_at}
use Rattle.proximity_text.specs.Lines.{word_line, word_text, said_text, lines_up_to}

-- ---- no line is cut

word_fits : (word : List ℕ) (t c : ℕ) → length word ≤ 6 → length (word_line word t c) ≤ line_room
word_fits word t c h = simp length-append (omega (arith, decimal_20 t, decimal_20 c))

text_short : (w : Word) → length (word_text w) ≤ 6
text_short Within = omega arith
text_short Out = omega arith

pub said_fits : (s : Option Word) (t c : ℕ) → length (said_text s t c) ≤ line_room
unfolding said_text
said_fits None t c = omega arith
said_fits (Some w) t c = word_fits (word_text w) t c (text_short w)

pub lines_fit : (b : Before) (t : ℕ) (lo hi pos : List Float) (n : ℕ) → length (lines_up_to b t lo hi pos n) ≤ n * line_room
unfolding lines_up_to
lines_fit b t lo hi pos zero = omega arith
lines_fit b t lo hi pos (suc n) =
    let s = said_at b.width b.inside lo hi pos n in
    omega (arith, lines_fit b t lo hi pos n, length-append (lines_up_to b t lo hi pos n) (said_text s t n), said_fits s t n)

-- ---- one line

pub said_none : (t c : ℕ) (out : List ℕ) (n : ℕ) → Put out n (said_text None t c) n out
unfolding said_text
said_none t c out n = put_none out n

pub said_word : (w : Word) (t c : ℕ) (out : List ℕ) (n : ℕ) → n + line_room ≤ length out → (l : Line) → l ≡ line_of (word_text w ++ fields_text (t ∷ c ∷ []) ++ ascii "\n")
    → (r : ℕ) (out' : List ℕ) → (r ≡ place_put (length out) n (take l.n l.text)) × (out' ≡ memory_put out n (take l.n l.text)) → Put out n (said_text (Some w) t c) r out'
unfolding said_text
said_word w t c out n h l f r out' q =
    let fits : length (word_line (word_text w) t c) ≤ line_room = word_fits (word_text w) t c (text_short w) in
    let shows : take l.n l.text ≡ word_line (word_text w) t c = held_text l (word_line (word_text w) t c) fits (f ∙ ap line_of (two_fields (word_text w) t c)) in
    put_there out n (word_line (word_text w) t c) (omega (arith, h, fits)) r out' (rw shows at q)

-- ---- the lines of the first c components are put

pub record Lined (b : Before) (t : ℕ) (lo hi pos : List Float) (dims : ℕ) (out₀ : List ℕ) (n : ℕ) (out : List ℕ) (at c : ℕ) : Type 0 where
  pub short : c ≤ dims
  pub long : length out ≡ length out₀
  pub few : at ≤ n + c * line_room
  pub so_far : Put out₀ n (lines_up_to b t lo hi pos c) at out

module _ (b : Before) (t : ℕ) (lo hi pos : List Float) (dims : ℕ) (out₀ : List ℕ) (n : ℕ) where
  pub lined_none : Lined b t lo hi pos dims out₀ n out₀ n 0
  unfolding lines_up_to
  lined_none = record { short = omega arith; long = refl; few = omega arith; so_far = put_none out₀ n }

  pub lined_more : (out : List ℕ) (at c : ℕ) (s : Option Word) (at' : ℕ) (out' : List ℕ) → c < dims → n ≤ length out₀ → length out' ≡ length out
      → s ≡ said_at b.width b.inside lo hi pos c → Put out at (said_text s t c) at' out' → Lined b t lo hi pos dims out₀ n out at c
      → Lined b t lo hi pos dims out₀ n out' at' (c + 1)
  unfolding lines_up_to
  lined_more out at c s at' out' h w z e q p =
      let q' : Put out at (said_text (said_at b.width b.inside lo hi pos c) t c) at' out' = rw e at q in
      record {
        short = omega arith;
        long = z ∙ p.long;
        few = omega (arith, p.few, q.ends, said_fits s t c);
        so_far = rw (add-one c) (put_on out₀ n (lines_up_to b t lo hi pos c) at out (said_text (said_at b.width b.inside lo hi pos c) t c) at' out' w p.so_far q');
      }

  pub lined_all : (out : List ℕ) (at c : ℕ) → dims ≤ c → Lined b t lo hi pos dims out₀ n out at c → Put out₀ n (lines_up_to b t lo hi pos dims) at out
  lined_all out at c h p = let e : c ≡ dims = omega (arith, p.short) in rw e at p.so_far

-- ---- which components are inside, one after the other

module _ (lo hi pos : List Float) where
  pub inside_more : (g r : List Bool) (c : ℕ) (v : Bool) → c < length g → take c g ≡ inside_up_to lo hi pos c → v ≡ inside_at lo hi pos c → r ≡ set g c v → take (c + 1) r ≡ inside_up_to lo hi pos (c + 1)
  unfolding inside_up_to
  inside_more g r c v h p q e = rw (add-one c, e, take-suc-set g c v h, p, q) refl

  pub inside_all : (g : List Bool) (c : ℕ) → length g ≡ 8 → 8 ≤ c → c ≤ 8 → take c g ≡ inside_up_to lo hi pos c → g ≡ inside_up_to lo hi pos 8
  inside_all g c l h k p = let e : c ≡ 8 = omega arith in sym (take_all c g (omega (arith, l))) ∙ p ∙ ap (inside_up_to lo hi pos) e
