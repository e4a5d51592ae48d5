-- The definition of the rounding is the nearest whole number, of an exact half the even one, and
-- that alone; so is what a margin prints.
use Prim.Native.Nat.{ℕ, zero, suc, ◌+◌, ◌*◌, ◌/◌, ◌%◌, ◌≤◌, ◌<◌, compare, Ordering}
use mathlib.Core.Path.{◌≡◌, refl, sym, ap, subst, ◌∙◌}
use mathlib.Core.Bool.{Bool, true, false, not}
use native.Mathlib.Omega.{arith}
use native.Mathlib.Decide.{ℕ_discrete, dec_le, dec_lt}
use native.Mathlib.Nat.{add-mul, div-add-mod', mod-lt, mul-le-mul_right, le_antisymm}
use borrow.Author.Tests.{lt-ltb, le-ltb}
use lib.Dec.{T, is_le, compare_is_eq, eqb, leb→le, nleb→lt, eqb→eq, eqb_refl}
use lib.IntN.{ℤ, nat_abs}
use lib.Ieee.{fin, up, down, nearest}
use lib.Ieee.Fits.{down_pos}
use Rattle.margin.specs.declared.Margin.TheVariants.{Millis}
use Rattle.margin.specs.Margin.{nearest_whole, far_of, signed, margin_of}
use Rattle.margin.specs.Nearest.{Nearest, PrintedAs, PrintedNearest}

module _ (num den : ℕ) (D : 0 < den) where
  whole : num / den * den + num % den ≡ num
  whole = div-add-mod' num den

  more : (n k : ℕ) → (n + k) * den ≡ n * den + k * den
  more n k = add-mul n k den

  up_near : den ≤ num % den * 2 → (num % den * 2 ≡ den → (num / den + 1) % 2 ≡ 0) → Nearest num den (num / den + 1)
  up_near h half =
      let e = whole in
      let a = more (num / den) 1 in
      record { within = omega (arith, mod-lt num D); even = λ t. half (omega (arith, mod-lt num D)) }

  down_near : num % den * 2 ≤ den → (num % den * 2 ≡ den → num / den % 2 ≡ 0) → Nearest num den (num / den)
  down_near h half = let e = whole in record { within = omega arith; even = λ t. half (omega arith) }

  half_near : num % den * 2 ≡ den → Dec (num / den % 2 ≡ 0) → Nearest num den (num / den + num / den % 2)
  half_near h (yes e) = subst (Nearest num den) (omega arith) (down_near (omega arith) (λ t. e))
  half_near h (no e) = subst (Nearest num den) (omega arith) (up_near (omega arith) (λ t. omega arith))

  -- the rounded number is the nearest whole number, of a half the even one
  pub nearest_is : Nearest num den (nearest_whole num den)
  unfolding nearest_whole
  nearest_is = by_rest (compare twice den) (leb→le twice den) (nleb→lt twice den) (eqb→eq twice den) (λ (e : twice ≡ den). subst (λ (x : ℕ). T (eqb twice x)) e (eqb_refl twice))
    where
      twice : ℕ
      twice = num % den * 2

      by_rest : (o : Ordering) → (T (is_le o) → twice ≤ den) → (T (not (is_le o)) → den < twice) → (T (compare_is_eq o) → twice ≡ den) → (twice ≡ den → T (compare_is_eq o)) → Nearest num den (nearest (num / den) o)
      by_rest Ordering.lt le gt eq same = down_near (le tt) (λ t. absurd (same t))
      by_rest Ordering.eq le gt eq same = half_near (eq tt) (ℕ_discrete _ _)
      by_rest Ordering.gt le gt eq same = subst (Nearest num den) (omega arith) (up_near (omega (arith, gt tt)) (λ t. absurd (same t)))

  -- two numbers that are a half from num / den are next to each other, and one of them is odd
  one_way : (n w : ℕ) → Nearest num den n → Nearest num den w → Dec (w ≤ n) → Dec (w ≡ n + 1) → w ≤ n
  one_way n w p q (yes h) d = h
  one_way n w p q (no h) (yes e) =
      let a = ap (λ (x : ℕ). x * den) e ∙ more n 1 in
      let f : n % 2 ≡ 0 = p.even (omega (arith, p.within, q.within)) in
      let g : w % 2 ≡ 0 = q.even (omega (arith, p.within, q.within)) in
      absurd (omega arith)
  one_way n w p q (no h) (no d) =
      let a : (n + 2) * den ≤ w * den = mul-le-mul_right den (omega arith) in
      let b = more n 2 in
      absurd (omega (arith, p.within, q.within))

  -- and no other whole number is
  pub nearest_one : (n w : ℕ) → Nearest num den n → Nearest num den w → n ≡ w
  nearest_one n w p q = le_antisymm (one_way w n q p (dec_le _ _) (ℕ_discrete _ _)) (one_way n w p q (dec_le _ _) (ℕ_discrete _ _))

  -- the two cases
  pub goes_up : den ≤ num % den * 2 → (num % den * 2 ≡ den → (num / den + 1) % 2 ≡ 0) → nearest_whole num den ≡ num / den + 1
  goes_up h half = nearest_one _ _ nearest_is (up_near h half)

  pub goes_down : num % den * 2 ≤ den → (num % den * 2 ≡ den → num / den % 2 ≡ 0) → nearest_whole num den ≡ num / den
  goes_down h half = nearest_one _ _ nearest_is (down_near h half)

-- ---- the margin

nat_abs_signed : (s : Bool) (n : ℕ) → nat_abs (signed s n) ≡ n
nat_abs_signed true zero = refl
nat_abs_signed true (suc n) = refl
nat_abs_signed false n = refl

module _ (s : Bool) (m : ℕ) (e z : ℤ) (h : margin_of (fin s m e) ≡ Millis z) where
  printed_by : Dec (999999 < nearest_whole (m * up e * 1000) (down e)) → PrintedAs s (m * up e) (down e) z
  unfolding margin_of
  printed_by (yes p) = absurd (far_no s (rw (lt-ltb _ _ p) at h))
    where
      far_no : (b : Bool) → far_of b ≡ Millis z → ⊥
      far_no true q = let c : ◌≡◌ {A = ℕ} 0 1 = cc in omega arith
      far_no false q = let c : ◌≡◌ {A = ℕ} 0 1 = cc in omega arith
  printed_by (no p) =
      let num = m * up e * 1000 in
      let n = nearest_whole num (down e) in
      let q : Millis (signed s n) ≡ Millis z = rw (le-ltb 999999 n (omega arith)) at h in
      let r : signed s n ≡ z = cc in
      let a : nat_abs z ≡ n = ap nat_abs (sym r) ∙ nat_abs_signed s n in
      let near : Nearest num (down e) (nat_abs z) = rw a (nearest_is num (down e) (down_pos e)) in
      record {
        sign = rw a (sym r);
        nearest = near;
        only = λ w k. nearest_one num (down e) (down_pos e) w (nat_abs z) k near;
        in_range = rw a (omega arith);
      }

-- what a finite margin prints is the nearest whole number of millimetres, and the only one
pub printed_nearest : PrintedNearest
printed_nearest s m e z h = printed_by s m e z h (dec_lt 999999 _)
