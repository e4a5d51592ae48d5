-- Numbers after a word; the lines that a trace puts.
use Prim.Native.Nat.{ℕ, ◌≤◌, ◌<◌, ◌+◌, ◌*◌, ◌-◌, min}
use mathlib.Core.Path.{◌≡◌, refl, sym, ap, ◌∙◌}
use mathlib.Core.List.{List, [], ◌∷◌, ◌++◌, append_assoc, append-nil}
use native.Mathlib.Omega.{arith}
use native.Mathlib.Numerals.{add-one}
use lib.ListN.{length, take, get_or, length-take, replicate}
use lib.Seq.{take_at, take-suc}
use Rattle.text.specs.declared.Line.{Line}
use Rattle.text.specs.Line.{line_room, line_of, push_of}
use Rattle.text.proofs.Lines.{push_append}
use Rattle.text.specs.Ascii.{ascii}
use Rattle.text.specs.Memory.{Put}
use Rattle.text.proofs.Puts.{put_none, put_on}
use Rattle.lictor_core.specs.declared.fuse.FuseRt.{FuseRt}
use Rattle.lictor_core.specs.declared.verdict.SafetyVerdict.{SafetyVerdict}
use Rattle.trace_text.specs.Trace.{trace_text}
use Rattle.report.specs.Lines.{field_text, fields_text}
use Rattle.report.specs.Text.{trace_up_to}

-- one number more
pub fields_on : (xs : List ℕ) (x : ℕ) → fields_text (xs ++ (x ∷ [])) ≡ fields_text xs ++ field_text x
fields_on [] x = append-nil (field_text x)
fields_on (y ∷ xs) x = ap (λ (s : List ℕ). field_text y ++ s) (fields_on xs x) ∙ sym (append_assoc (field_text y) (fields_text xs) (field_text x))

pub fields_more : (l : Line) (xs : List ℕ) (i : ℕ) → i < length xs
    → push_of (push_of l (fields_text (take i xs))) (field_text (get_or xs i 0)) ≡ push_of l (fields_text (take (i + 1) xs))
fields_more l xs i h =
    rw (add-one i, take-suc xs i 0 h, fields_on (take i xs) (get_or xs i 0)) (sym (push_append l (fields_text (take i xs)) (field_text (get_or xs i 0))))

-- a word and two numbers
pub two_fields : (word : List ℕ) (a b : ℕ) → word ++ fields_text (a ∷ b ∷ []) ++ ascii "\n" ≡ word ++ field_text a ++ field_text b ++ ascii "\n"
two_fields word a b =
    ap (λ (s : List ℕ). word ++ (field_text a ++ s) ++ ascii "\n") (append-nil (field_text b))
    ∙ ap (λ (s : List ℕ). s ++ ascii "\n") (sym (append_assoc word (field_text a) (field_text b)))

-- what a line shows of a text: its first line_room bytes
pub line_most : (s : List ℕ) → (line_of s).n ≤ line_room
unfolding line_of
line_most s = omega arith

pub line_shows : (s : List ℕ) → take (line_of s).n (line_of s).text ≡ take line_room s
unfolding line_of
line_shows s = take_at (take line_room s) (replicate (line_room - length s) 0) (min (length s) line_room) (omega (arith, length-take line_room s))

-- the first k lines of the trace are there
pub record Traced (v : SafetyVerdict) (rt : FuseRt) (out₀ : List ℕ) (n : ℕ) (out : List ℕ) (at k : ℕ) : Type 0 where
  pub long : length out ≡ length out₀
  pub few : at ≤ n + k * line_room
  pub so_far : Put out₀ n (trace_up_to k v rt) at out

pub traced_none : (v : SafetyVerdict) (rt : FuseRt) (out₀ : List ℕ) (n : ℕ) → Traced v rt out₀ n out₀ n 0
unfolding trace_up_to
traced_none v rt out₀ n = record { long = refl; few = omega arith; so_far = put_none out₀ n }

pub traced_more : (v : SafetyVerdict) (rt : FuseRt) (out₀ : List ℕ) (n : ℕ) (out : List ℕ) (at k : ℕ) (l : Line) (at' : ℕ) (out' : List ℕ)
    → n ≤ length out₀ → length out' ≡ length out → l ≡ line_of (trace_text k v rt) → Put out at (take l.n l.text) at' out' → Traced v rt out₀ n out at k
    → Traced v rt out₀ n out' at' (k + 1)
unfolding trace_up_to
traced_more v rt out₀ n out at k l at' out' w z e q p =
    let g : take l.n l.text ≡ take line_room (trace_text k v rt) = ap (λ (x : Line). take x.n x.text) e ∙ line_shows (trace_text k v rt) in
    let q' : Put out at (take line_room (trace_text k v rt)) at' out' = rw g at q in
    record {
      long = z ∙ p.long;
      few = omega (arith, p.few, q'.ends, length-take line_room (trace_text k v rt));
      so_far = rw (add-one k) (put_on out₀ n (trace_up_to k v rt) at out (take line_room (trace_text k v rt)) at' out' w p.so_far q');
    }
