-- Floats one after the other: read, written, and read again.
use Prim.Native.Nat.{ℕ, zero, suc, ◌+◌, ◌*◌, ◌≤◌, ◌<◌, ◌^◌}
use mathlib.Core.Path.{◌≡◌, refl, sym, ap, ap₂, subst, ◌∙◌}
use mathlib.Core.Bool.{Bool, true, false, ◌&&◌}
use mathlib.Core.List.{List, [], ◌∷◌, ◌++◌, append_assoc}
use native.Mathlib.Nat.{suc-mul}
use native.Mathlib.Numerals.{add-one}
use native.Mathlib.Omega.{arith}
use lib.Dec.{T}
use lib.ListN.{length, take, drop, length-append, length-drop}
use lib.Seq.{drop_at, drop-drop, take-add}
use lib.Ieee.{Float, binary32, binary64, of_bits, to_bits, fits}
use lib.Ieee.Bits.{of_bits-to_bits, to_bits-of_bits, to_bits-lt}
use Rattle.journal_records.specs.Little.{le_at}
use Rattle.journal_records.proofs.Laws.{le_at_under}
use Rattle.stream.proofs.Stream.{impossible}
use Rattle.journal_forms.specs.declared.Form.{Form}
use Rattle.journal_forms.specs.declared.Form.TheVariants.{Wide, Narrow}
use Rattle.journal_forms.specs.Forms.{format_of, float_bytes}
use Rattle.journal_forms.specs.Body.{le_bytes, float_in, floats_in, float_to, floats_to, all_pass}
use Rattle.journal_forms.specs.Claims.{OfBytes, is_number}
use Rattle.journal_forms.proofs.Bytes.{bytes_long, read_written, written_read, bytes_drop}

-- ---- tests of all

pub and_both : (a b : Bool) → a && b ≡ true → (a ≡ true) × (b ≡ true)
and_both true b e = (refl, e)
and_both false b e = impossible cc

pub holds : (b : Bool) → b ≡ true → T b
holds b e = subst T (sym e) tt

and_assoc : (a b c : Bool) → (a && b) && c ≡ a && (b && c)
and_assoc true b c = refl
and_assoc false b c = refl

pub pass_append : (p : Float → Bool) (xs ys : List Float) → all_pass p (xs ++ ys) ≡ all_pass p xs && all_pass p ys
unfolding all_pass
pass_append p [] ys = refl
pass_append p (x ∷ xs) ys = ap (λ (b : Bool). p x && b) (pass_append p xs ys) ∙ sym (and_assoc (p x) (all_pass p xs) (all_pass p ys))

pub both_pass : (p : Float → Bool) (xs ys : List Float) → all_pass p (xs ++ ys) ≡ true → (all_pass p xs ≡ true) × (all_pass p ys ≡ true)
both_pass p xs ys e = and_both (all_pass p xs) (all_pass p ys) (sym (pass_append p xs ys) ∙ e)

-- ---- lengths

pub floats_count : (a : Form) (n : ℕ) (s : List ℕ) → length (floats_in a n s) ≡ n
unfolding floats_in
floats_count a zero s = refl
floats_count a (suc n) s = ap suc (floats_count a n (drop (float_bytes a) s))

pub floats_long : (b : Form) (xs : List Float) → length (floats_to b xs) ≡ length xs * float_bytes b
unfolding floats_to
floats_long b [] = omega arith
floats_long b (x ∷ xs) =
    omega (
      arith,
      length-append (float_to b x) (floats_to b xs),
      bytes_long (float_bytes b) (to_bits (format_of b) x),
      floats_long b xs,
      suc-mul (length xs) (float_bytes b),
    )

-- ---- one more at the end

pub floats_more : (a : Form) (n : ℕ) (s : List ℕ) → floats_in a (suc n) s ≡ floats_in a n s ++ (float_in a (drop (n * float_bytes a) s) ∷ [])
unfolding floats_in
floats_more a zero s = let e : 0 * float_bytes a ≡ 0 = omega arith in rw e refl
floats_more a (suc n) s =
    let w = float_bytes a in
    let e : w + n * w ≡ suc n * w = omega (arith, suc-mul n w) in
    ap (λ (l : List Float). float_in a s ∷ l)
    (floats_more a n (drop w s) ∙ ap (λ (u : List ℕ). floats_in a n (drop w s) ++ (float_in a u ∷ [])) (drop-drop (n * w) w s ∙ ap (λ (j : ℕ). drop j s) e))

pub to_append : (b : Form) (xs ys : List Float) → floats_to b (xs ++ ys) ≡ floats_to b xs ++ floats_to b ys
unfolding floats_to
to_append b [] ys = refl
to_append b (x ∷ xs) ys = ap (λ (l : List ℕ). float_to b x ++ l) (to_append b xs ys) ∙ sym (append_assoc (float_to b x) (floats_to b xs) (floats_to b ys))

-- ---- written, and read again

-- the pattern of a float that the form holds has the form's width
pattern_under : (b : Form) (x : Float) → T (fits (format_of b) x) → to_bits (format_of b) x < 256 ^ float_bytes b
pattern_under Wide x h = to_bits-lt binary64 x h
pattern_under Narrow x h = to_bits-lt binary32 x h

float_back : (b : Form) (x : Float) (t : List ℕ) → T (fits (format_of b) x) → float_in b (float_to b x ++ t) ≡ x
float_back b x t h =
    ap (of_bits (format_of b)) (read_written (float_bytes b) (to_bits (format_of b) x) t (pattern_under b x h)) ∙ of_bits-to_bits (format_of b) x h

pub floats_back : (b : Form) (xs : List Float) (t : List ℕ) → all_pass (fits (format_of b)) xs ≡ true → floats_in b (length xs) (floats_to b xs ++ t) ≡ xs
unfolding floats_in floats_to all_pass
floats_back b [] t h = refl
floats_back b (x ∷ xs) t h =
    let u = floats_to b xs ++ t in
    let k = and_both (fits (format_of b) x) (all_pass (fits (format_of b)) xs) h in
    let e : (float_to b x ++ floats_to b xs) ++ t ≡ float_to b x ++ u = append_assoc (float_to b x) (floats_to b xs) t in
    rw e
    (ap₂ (λ (y : Float) (ys : List Float). y ∷ ys) (float_back b x u (holds (fits (format_of b) x) k.0))
    (ap (floats_in b (length xs)) (drop_at (float_to b x) u (float_bytes b) (bytes_long (float_bytes b) (to_bits (format_of b) x))) ∙ floats_back b xs t k.1))

-- ---- read, and written again: numbers, and no NaN

pattern_read : (a : Form) (s : List ℕ) → OfBytes s → le_at s 0 (float_bytes a) < 256 ^ float_bytes a
pattern_read a s b = le_at_under s 0 (float_bytes a) (float_bytes a) b (omega arith)

float_same : (a : Form) (s : List ℕ) → float_bytes a ≤ length s → OfBytes s → is_number (float_in a s) ≡ true → float_to a (float_in a s) ≡ take (float_bytes a) s
float_same Wide s h b k =
    ap (le_bytes 8) (to_bits-of_bits binary64 (le_at s 0 8) (pattern_read Wide s b) (holds (is_number (float_in Wide s)) k)) ∙ written_read s 8 h b
float_same Narrow s h b k =
    ap (le_bytes 4) (to_bits-of_bits binary32 (le_at s 0 4) (pattern_read Narrow s b) (holds (is_number (float_in Narrow s)) k)) ∙ written_read s 4 h b

pub floats_same : (a : Form) (n : ℕ) (s : List ℕ) → n * float_bytes a ≤ length s → OfBytes s → all_pass is_number (floats_in a n s) ≡ true
    → floats_to a (floats_in a n s) ≡ take (n * float_bytes a) s
unfolding floats_in floats_to all_pass
floats_same a zero s h b k = let e : 0 * float_bytes a ≡ 0 = omega arith in rw e refl
floats_same a (suc n) s h b k =
    let w = float_bytes a in
    let e : suc n * w ≡ w + n * w = omega (arith, suc-mul n w) in
    let j = and_both (is_number (float_in a s)) (all_pass is_number (floats_in a n (drop w s))) k in
    ap₂ (λ (x y : List ℕ). x ++ y) (float_same a s (omega (arith, e)) b j.0) (floats_same a n (drop w s) (omega (arith, e, length-drop w s)) (bytes_drop w s b) j.1)
    ∙ sym (ap (λ (i : ℕ). take i s) e ∙ take-add w (n * w) s)

-- ---- one of them

-- the place of float i
pub float_place : (a : Form) (s : List ℕ) (at place i : ℕ) → place ≡ at + i * float_bytes a → drop (i * float_bytes a) (drop at s) ≡ drop place s
float_place a s at place i e = drop-drop (i * float_bytes a) at s ∙ ap (λ (j : ℕ). drop j s) (sym e)

pub pass_at : (p : Float → Bool) (a : Form) (n : ℕ) (s : List ℕ) (i : ℕ) → i < n → all_pass p (floats_in a n s) ≡ true → p (float_in a (drop (i * float_bytes a) s)) ≡ true
unfolding floats_in all_pass
pass_at p a zero s i h e = absurd (omega arith)
pass_at p a (suc n) s zero h e =
    let z : 0 * float_bytes a ≡ 0 = omega arith in
    rw z (and_both (p (float_in a s)) (all_pass p (floats_in a n (drop (float_bytes a) s))) e).0
pass_at p a (suc n) s (suc i) h e =
    let w = float_bytes a in
    let k : w + i * w ≡ suc i * w = omega (arith, suc-mul i w) in
    let q : drop (i * w) (drop w s) ≡ drop (suc i * w) s = drop-drop (i * w) w s ∙ ap (λ (j : ℕ). drop j s) k in
    ap (λ (u : List ℕ). p (float_in a u)) (sym q) ∙ pass_at p a n (drop w s) i (omega arith) (and_both (p (float_in a s)) (all_pass p (floats_in a n (drop w s))) e).1

-- where one fails, not all pass
pub fail_at : (p : Float → Bool) (a : Form) (n : ℕ) (s : List ℕ) (i : ℕ) → i < n → p (float_in a (drop (i * float_bytes a) s)) ≡ false → all_pass p (floats_in a n s) ≡ false
fail_at p a n s i h e = by (all_pass p (floats_in a n s)) refl
  where
    by : (t : Bool) → all_pass p (floats_in a n s) ≡ t → all_pass p (floats_in a n s) ≡ false
    by true q = let z : true ≡ false = sym (pass_at p a n s i h q) ∙ e in impossible cc
    by false q = q

-- one more passes
pub pass_more : (p : Float → Bool) (a : Form) (n : ℕ) (s : List ℕ) → all_pass p (floats_in a n s) ≡ true → p (float_in a (drop (n * float_bytes a) s)) ≡ true → all_pass p (floats_in a (n + 1) s) ≡ true
unfolding all_pass
pass_more p a n s e f =
    let x = float_in a (drop (n * float_bytes a) s) in
    rw add-one (ap (all_pass p) (floats_more a n s) ∙ pass_append p (floats_in a n s) (x ∷ []) ∙ rw (e, f) refl)
