-- THEOREM `reads_back`: the 16 digits that are written for a pattern, as a line, read back to that
-- pattern. Assumes nothing.
use mathlib.Core.Path.{◌≡◌, refl, sym, ap, ◌∙◌}
use mathlib.Core.Bool.{Bool, true, false, cond}
use mathlib.Core.List.{List, [], ◌∷◌, ◌++◌, append_assoc, append-nil}
use Prim.Native.Nat.{ℕ, zero, suc, ◌+◌, ◌*◌, ◌/◌, ◌%◌, ◌^◌, ◌≤◌, ◌<◌}
use native.Mathlib.Nat.{zero-add, pow-suc}
use native.Mathlib.Omega.{arith}
use borrow.Author.Tests.{le-ltb, le-leb, lt-leb, eq-eqb, ltb-true, ltb-false}
use lib.Dec.{ltb}
use lib.ListN.{length, length-append}
use lib.Seq.{take_at, get_or_at}
use Rattle.std.proofs.Common.{Some}
use Rattle.text.specs.Number.{hex_in, hex_digit}
use Rattle.roots.specs.Text.{digit_of, read_digits, pattern_of}
use Rattle.roots.proofs.Laws.{hex_length}

low_back : (d : ℕ) → d < 10 → digit_of (48 + d) ≡ Some d
unfolding digit_of
low_back d h = simp (le-ltb (48 + d) 48 (omega arith), le-leb (48 + d) 57 (omega arith)) (ap Some (omega arith))

high_back : (d : ℕ) → 10 ≤ d → d < 16 → digit_of (87 + d) ≡ Some d
unfolding digit_of
high_back d l h = simp (le-ltb (87 + d) 48 (omega arith), lt-leb (87 + d) 57 (omega arith), le-ltb (87 + d) 97 (omega arith), le-leb (87 + d) 102 (omega arith)) (ap Some (omega arith))

digit_back : (d : ℕ) → d < 16 → digit_of (hex_digit d) ≡ Some d
digit_back d h = go (ltb d 10) refl
  where
    go : (b : Bool) → ltb d 10 ≡ b → digit_of (cond b (48 + d) (87 + d)) ≡ Some d
    go true e = low_back d (ltb-true d 10 e)
    go false e = high_back d (ltb-false d 10 e) h

one_more : (v d : ℕ) (cs : List ℕ) → d < 16 → read_digits v (hex_digit d ∷ cs) ≡ read_digits (v * 16 + d) cs
unfolding read_digits
one_more v d cs h = simp (digit_back d h)

digits_back : (k n v : ℕ) (cs : List ℕ) → n < 16 ^ k → read_digits v (hex_in k n ++ cs) ≡ read_digits (v * 16 ^ k + n) cs
unfolding hex_in
digits_back zero n v cs h = ap (λ (x : ℕ). read_digits x cs) (omega arith)
digits_back (suc k) n v cs h =
    let p = pow-suc 16 k in
    let e : (v * 16 ^ k + n / 16) * 16 + n % 16 ≡ v * 16 ^ suc k + n = rw p (omega arith) in
    ap (read_digits v) (append_assoc (hex_in k (n / 16)) (hex_digit (n % 16) ∷ []) cs)
    ∙ digits_back k (n / 16) v (hex_digit (n % 16) ∷ cs) (omega arith)
    ∙ one_more (v * 16 ^ k + n / 16) (n % 16) cs (omega arith)
    ∙ ap (λ (x : ℕ). read_digits x cs) e

hex_back : (b : ℕ) → b < 2 ^ 64 → read_digits 0 (hex_in 16 b) ≡ Some b
unfolding read_digits
hex_back b h = ap (read_digits 0) (sym (append-nil (hex_in 16 b))) ∙ digits_back 16 b 0 [] h ∙ ap Some (zero-add b)

pub reads_back : (b : ℕ) → b < 2 ^ 64 → pattern_of (hex_in 16 b ++ (10 ∷ [])) ≡ Some b
unfolding pattern_of
reads_back b h = go (hex_in 16 b) (hex_length 16 b) (hex_back b h)
  where
    go : (l : List ℕ) → length l ≡ 16 → read_digits 0 l ≡ Some b → pattern_of (l ++ (10 ∷ [])) ≡ Some b
    go l k e =
        let n : length (l ++ (10 ∷ [])) ≡ 17 = omega (arith, length-append l (10 ∷ [])) in
        simp (eq-eqb _ _ n, get_or_at l 10 [] 0 16 k, take_at l (10 ∷ []) 16 k, e)
