-- Columns of text: their widths, and each one read back from its row.
--     right_length, left_length        a text that is not longer than the width fills it with
-- blanks
--     right_back, left_back            without its blanks a field is its text, where that has none
--     row_length                       the width of a row
--     field_at, text_at                the column i at its place: the field, and its text
use Prim.Native.Nat.{ℕ, zero, suc, ◌+◌, ◌/◌, ◌%◌, ◌^◌, ◌≤◌, ◌<◌}
use mathlib.Core.Path.{◌≡◌, refl, sym, ap, ◌∙◌}
use mathlib.Core.Bool.{Bool, true, false, cond, ◌&&◌}
use mathlib.Core.List.{List, [], ◌∷◌, ◌++◌, append-nil, append_assoc}
use native.Mathlib.Omega.{arith}
use borrow.Author.Tests.{ne_eqb, lt-ltb}
use lib.Dec.{T, ltb, ltb→lt}
use lib.Ieee.Fits.{and_l, and_r}
use lib.IntN.{ℤ, pos, negsuc, nat_abs}
use lib.ListN.{length, take, drop, get_or, length-append, length-replicate}
use lib.Seq.{take_at, drop-drop}
use Rattle.text.specs.Number.{decimal_in, decimal_of, signed_of}
use Rattle.text.specs.Column.{blank, blanks, right, left, is_blank, unblanked, plain, cut, Side, at_right, at_left, Column, sided, field, after_blanks, row_of, widths, row_width, place_of, Within, Plain}
use Rattle.text.proofs.Digits.{decimal_short}

-- ---- widths of fields

pub right_length : (w : ℕ) (s : List ℕ) → length s ≤ w → length (right w s) ≡ w
unfolding right
right_length w s h = simp (length-append, length-replicate) (omega arith)

pub left_length : (w : ℕ) (s : List ℕ) → length s ≤ w → length (left w s) ≡ w
unfolding left
left_length w s h = simp (length-append, length-replicate) (omega arith)

-- whatever its length
pub right_most : (w : ℕ) (s : List ℕ) → length (right w s) ≤ w + length s
unfolding right
right_most w s = simp (length-append, length-replicate) (omega arith)

pub left_most : (w : ℕ) (s : List ℕ) → length (left w s) ≤ w + length s
unfolding left
left_most w s = simp (length-append, length-replicate) (omega arith)

sided_length : (a : Side) (w : ℕ) (s : List ℕ) → length s ≤ w → length (sided a w s) ≡ w
sided_length at_right w s h = right_length w s h
sided_length at_left w s h = left_length w s h

-- ---- without blanks

pub unblanked_append : (s t : List ℕ) → unblanked (s ++ t) ≡ unblanked s ++ unblanked t
unfolding unblanked
unblanked_append [] t = refl
unblanked_append (c ∷ s) t = go (is_blank c) (unblanked_append s t)
  where
    go : (b : Bool) → unblanked (s ++ t) ≡ unblanked s ++ unblanked t → cond b (unblanked (s ++ t)) (c ∷ unblanked (s ++ t)) ≡ cond b (unblanked s) (c ∷ unblanked s) ++ unblanked t
    go true e = e
    go false e = ap (λ (x : List ℕ). c ∷ x) e

pub unblanked_blanks : (n : ℕ) → unblanked (blanks n) ≡ []
unfolding unblanked
unblanked_blanks zero = refl
unblanked_blanks (suc n) = unblanked_blanks n

above_blank : (c : ℕ) → T (ltb blank c) → is_blank c ≡ false
above_blank c h = ne_eqb c blank (λ e. omega (arith, ltb→lt blank c h))

pub unblanked_plain : (s : List ℕ) → T (plain s) → unblanked s ≡ s
unfolding unblanked plain
unblanked_plain [] h = refl
unblanked_plain (c ∷ s) h = rw (above_blank c (and_l (ltb blank c) (plain s) h)) (ap (λ (x : List ℕ). c ∷ x) (unblanked_plain s (and_r (ltb blank c) (plain s) h)))

pub right_back : (w : ℕ) (s : List ℕ) → T (plain s) → unblanked (right w s) ≡ s
unfolding right
right_back w s h = rw (unblanked_append, unblanked_blanks) (unblanked_plain s h)

pub left_back : (w : ℕ) (s : List ℕ) → T (plain s) → unblanked (left w s) ≡ s
unfolding left
left_back w s h = rw (unblanked_append, unblanked_blanks) (append-nil (unblanked s) ∙ unblanked_plain s h)

sided_back : (a : Side) (w : ℕ) (s : List ℕ) → T (plain s) → unblanked (sided a w s) ≡ s
sided_back at_right w s h = right_back w s h
sided_back at_left w s h = left_back w s h

-- ---- texts of numbers have no blank

pub plain_append : (s t : List ℕ) → T (plain s) → T (plain t) → T (plain (s ++ t))
unfolding plain
plain_append [] t p q = q
plain_append (c ∷ s) t p q = go (ltb blank c) p (λ h. plain_append s t h q)
  where
    go : (b : Bool) → T (b && plain s) → (T (plain s) → T (plain (s ++ t))) → T (b && plain (s ++ t))
    go true h f = f h
    go false h f = h

plain_digit : (d : ℕ) → T (plain ((48 + d) ∷ []))
unfolding plain
plain_digit d = rw (lt-ltb 32 (48 + d) (omega arith)) tt

decimal_in_plain : (f n : ℕ) → T (plain (decimal_in f n))
unfolding decimal_in plain
decimal_in_plain zero n = tt
decimal_in_plain (suc f) n = go (ltb n 10) (decimal_in_plain f (n / 10))
  where
    go : (b : Bool) → T (plain (decimal_in f (n / 10))) → T (plain (cond b ((48 + n) ∷ []) (decimal_in f (n / 10) ++ ((48 + n % 10) ∷ []))))
    go true h = plain_digit n
    go false h = plain_append (decimal_in f (n / 10)) ((48 + n % 10) ∷ []) h (plain_digit (n % 10))

pub decimal_plain : (n : ℕ) → T (plain (decimal_of n))
decimal_plain n = decimal_in_plain 20 n

pub signed_plain : (z : ℤ) → T (plain (signed_of z))
unfolding signed_of plain
signed_plain (pos n) = decimal_plain n
signed_plain (negsuc k) = decimal_plain (suc k)

-- a sign, and at most k digits
pub signed_short : (z : ℤ) (k : ℕ) → 1 ≤ k → nat_abs z < 10 ^ k → length (signed_of z) ≤ suc k
unfolding signed_of
signed_short (pos n) k p h = omega (arith, decimal_short n k p h)
signed_short (negsuc j) k p h = omega (arith, decimal_short (suc j) k p h)

-- ---- rows

after_length : (cs : List Column) → Within cs → length (after_blanks cs) ≡ widths cs + length cs
unfolding after_blanks
after_length [] h = refl
after_length (c ∷ cs) h = rw (length-append (field c) (after_blanks cs), sided_length c.side c.width c.text h.0, after_length cs h.1) (omega arith)

pub row_length : (cs : List Column) → Within cs → length (row_of cs) ≡ row_width cs
unfolding row_of
row_length [] h = refl
row_length (c ∷ cs) h = rw (length-append (field c) (after_blanks cs), sided_length c.side c.width c.text h.0, after_length cs h.1) (omega arith)

-- what is left of a row after its first column and the blank
drop_past : (p q : List ℕ) (b n : ℕ) → length p ≡ n → drop (suc n) (p ++ b ∷ q) ≡ q
drop_past [] q b zero e = refl
drop_past [] q b (suc n) e = absurd (omega arith)
drop_past (x ∷ p) q b zero e = absurd (omega arith)
drop_past (x ∷ p) q b (suc n) e = drop_past p q b n (omega arith)

row_first : (c : Column) (cs : List Column) → length c.text ≤ c.width → take c.width (row_of (c ∷ cs)) ≡ field c
unfolding row_of
row_first c cs h = take_at (field c) (after_blanks cs) c.width (sided_length c.side c.width c.text h)

row_rest : (c d : Column) (cs : List Column) → length c.text ≤ c.width → drop (suc c.width) (row_of (c ∷ d ∷ cs)) ≡ row_of (d ∷ cs)
unfolding row_of after_blanks
row_rest c d cs h = drop_past (field c) (field d ++ after_blanks cs) blank c.width (sided_length c.side c.width c.text h)

-- ---- the column i at its place

pub field_at : (cs : List Column) (i : ℕ) (z : Column) → Within cs → i < length cs → cut (place_of cs i) (get_or cs i z).width (row_of cs) ≡ field (get_or cs i z)
field_at [] i z h b = absurd (omega arith)
field_at (c ∷ cs) zero z h b = row_first c cs h.0
field_at (c ∷ []) (suc i) z h b = absurd (omega arith)
field_at (c ∷ d ∷ cs) (suc i) z h b =
    ap (take (get_or (d ∷ cs) i z).width) (sym (drop-drop (place_of (d ∷ cs) i) (suc c.width) (row_of (c ∷ d ∷ cs))) ∙ ap (drop (place_of (d ∷ cs) i)) (row_rest c d cs h.0))
    ∙ field_at (d ∷ cs) i z h.1 (omega arith)

plain_at : (cs : List Column) (i : ℕ) (z : Column) → Plain cs → i < length cs → T (plain (get_or cs i z).text)
plain_at [] i z h b = absurd (omega arith)
plain_at (c ∷ cs) zero z h b = h.0
plain_at (c ∷ cs) (suc i) z h b = plain_at cs i z h.1 (omega arith)

pub text_at : (cs : List Column) (i : ℕ) (z : Column) → Within cs → Plain cs → i < length cs → unblanked (cut (place_of cs i) (get_or cs i z).width (row_of cs)) ≡ (get_or cs i z).text
text_at cs i z h p b = let c = get_or cs i z in rw (field_at cs i z h b) (sided_back c.side c.width c.text (plain_at cs i z p b))

-- ---- columns one after the other, each with a blank before it

abbrev pub joined : List ℕ → List Column → List ℕ
joined s [] = s
joined s (c ∷ cs) = joined (s ++ (blank ∷ field c)) cs

pub joined_is : (s : List ℕ) (cs : List Column) → joined s cs ≡ s ++ after_blanks cs
unfolding after_blanks
joined_is s [] = sym (append-nil s)
joined_is s (c ∷ cs) = joined_is (s ++ (blank ∷ field c)) cs ∙ append_assoc s (blank ∷ field c) (after_blanks cs)

pub row_joined : (c : Column) (cs : List Column) → joined (field c) cs ≡ row_of (c ∷ cs)
unfolding row_of
row_joined c cs = joined_is (field c) cs

-- the first of many blanks
pub blanks_first : (k n : ℕ) → k ≤ n → take k (blanks n) ≡ blanks k
blanks_first zero n h = refl
blanks_first (suc k) zero h = absurd (omega arith)
blanks_first (suc k) (suc n) h = ap (λ (s : List ℕ). blank ∷ s) (blanks_first k n (omega arith))
