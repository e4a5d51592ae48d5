-- The clamp cause by arithmetic (specs/ClampCause): `clamp_cause_lem`, and what the code's proof takes of it.
use mathlib.Core.Path.{◌≡◌, refl, sym, ap, ap₂, ◌∙◌, subst}
use mathlib.Core.Bool.{true, false, not}
use mathlib.Core.List.{List, [], ◌∷◌}
use mathlib.Core.Logic.{◌⊎◌, inl, inr}
use Prim.Native.Nat.{ℕ, zero, suc, ◌+◌, ◌-◌, ◌*◌, ◌/◌, ◌%◌, ◌^◌, ◌<◌, suc-le-suc}
use native.Mathlib.Nat.{one-mul, zero-mul, zero-div, div-one, lt_irrefl, le_of_suc-le-suc, not-suc-le-zero, zero-lt-suc, mod-lt, mod-mod, add_comm, div-add-mod'}
use native.Mathlib.Numerals.{add-one}
use native.Mathlib.Omega.{arith}
use borrow.Author.Tests.{ne_eqb}
use lib.Arith.{lt-one}
use lib.Dec.{eqb, lit<}
use lib.Bits.{bit_and, and_high, and_mask, and_mod, and_le_r}
use lib.Count.{count_trailing_zeros, under}
use lib.ListN.{get_or}
use lib.Pow.{high_ones, pow_pos, field, mod-mod-pow, shr-shr, shr_lt}
use Rattle.lictor_core.specs.declared.reason.ReasonCode.{ReasonCode}
use Rattle.lictor_core.specs.declared.reason.ReasonCode.TheVariants as R
use Rattle.lictor_core.specs.Codes.{reason_code}
use Rattle.lictor_core.specs.Masks.{any_of, tier0_soft}
use Rattle.lictor_table.specs.Helpers.{clamp_reason}
use Rattle.lictor_table.specs.ClampCause.{bit_at, Lowest, NoneSet, SameBits, soft_bits, ClampCause}

-- ---- the tests of the definition are tests of bits

bit_and_lem : (n i : ℕ) → bit_and n (2 ^ i) ≡ bit_at n i * 2 ^ i
bit_and_lem n i = ap (λ (x : ℕ). bit_and n x) (sym (high_ones 1 i ∙ one-mul (2 ^ i))) ∙ and_high n 1 i

bit_same : (n m i : ℕ) → bit_at n i ≡ bit_at m i → any_of n (2 ^ i) ≡ any_of m (2 ^ i)
unfolding any_of
bit_same n m i e = ap (λ (x : ℕ). not (eqb x 0)) (bit_and_lem n i ∙ ap (λ (b : ℕ). b * 2 ^ i) e ∙ sym (bit_and_lem m i))

bit_off : (n i : ℕ) → bit_at n i ≡ 0 → any_of n (2 ^ i) ≡ false
unfolding any_of
bit_off n i e = ap (λ (x : ℕ). not (eqb x 0)) (bit_and_lem n i ∙ ap (λ (b : ℕ). b * 2 ^ i) e ∙ zero-mul (2 ^ i))

bit_on : (n i : ℕ) → bit_at n i ≡ 1 → any_of n (2 ^ i) ≡ true
unfolding any_of
bit_on n i e =
    ap (λ (x : ℕ). not (eqb x 0)) (bit_and_lem n i ∙ ap (λ (b : ℕ). b * 2 ^ i) e ∙ one-mul (2 ^ i))
    ∙ ap not (ne_eqb (2 ^ i) 0 (λ p. lt_irrefl 0 (subst (λ (x : ℕ). 0 < x) p (pow_pos i))))

-- ---- the cause of each lowest bit

abbrev causes : List ReasonCode
causes = R.ClampWorkspace ∷ R.ClampSpeed ∷ R.ClampAccel ∷ R.ClampJerk ∷ R.ClampReach ∷ R.ClampContact ∷ []

abbrev pub cause_at : ℕ → ReasonCode
cause_at j = get_or causes j R.ClampContact

-- a bit below the lowest one
off : (s j i : ℕ) → Lowest soft_bits s j → i < j → any_of s (2 ^ i) ≡ false
off s j i l h = bit_off s i (l.zeros i h)

cause_at_lem : (s j : ℕ) → Lowest soft_bits s j → clamp_reason s ≡ cause_at j
unfolding clamp_reason
cause_at_lem s zero l = rw (bit_on s 0 l.set)
cause_at_lem s (suc zero) l = rw (off s 1 0 l (lit< tt), bit_on s 1 l.set)
cause_at_lem s (suc (suc zero)) l = rw (off s 2 0 l (lit< tt), off s 2 1 l (lit< tt), bit_on s 2 l.set)
cause_at_lem s (suc (suc (suc zero))) l = rw (off s 3 0 l (lit< tt), off s 3 1 l (lit< tt), off s 3 2 l (lit< tt), bit_on s 3 l.set)
cause_at_lem s (suc (suc (suc (suc zero)))) l =
    rw (off s 4 0 l (lit< tt), off s 4 1 l (lit< tt), off s 4 2 l (lit< tt), off s 4 3 l (lit< tt), bit_on s 4 l.set)
cause_at_lem s (suc (suc (suc (suc (suc zero))))) l =
    rw (off s 5 0 l (lit< tt), off s 5 1 l (lit< tt), off s 5 2 l (lit< tt), off s 5 3 l (lit< tt), off s 5 4 l (lit< tt))
cause_at_lem s (suc (suc (suc (suc (suc (suc j)))))) l = absurd (omega (arith, l.within))

cause_none : (s : ℕ) → NoneSet soft_bits s → clamp_reason s ≡ R.ClampContact
unfolding clamp_reason
cause_none s h =
    let none : (i : ℕ) → i < soft_bits → any_of s (2 ^ i) ≡ false = λ i q. bit_off s i (h i q) in
    rw (none 0 (lit< tt), none 1 (lit< tt), none 2 (lit< tt), none 3 (lit< tt), none 4 (lit< tt))

cause_same : (s m : ℕ) → SameBits soft_bits s m → clamp_reason s ≡ clamp_reason m
unfolding clamp_reason
cause_same s m h =
    let same : (i : ℕ) → i < soft_bits → any_of s (2 ^ i) ≡ any_of m (2 ^ i) = λ i q. bit_same s m i (h i q) in
    rw (same 0 (lit< tt), same 1 (lit< tt), same 2 (lit< tt), same 3 (lit< tt), same 4 (lit< tt))

-- ---- the lowest bit and the count of zeros

-- the bits of the half are those of the whole from the second on
half_bit : (n i : ℕ) → bit_at (n / 2) i ≡ bit_at n (suc i)
half_bit n i = ap (λ (x : ℕ). x % 2) (shr-shr n 1 i) ∙ ap (λ (j : ℕ). bit_at n j) (add_comm 1 i ∙ add-one i)

first_bit : (n : ℕ) → bit_at n 0 ≡ n % 2
first_bit n = ap (λ (x : ℕ). x % 2) (div-one n)

-- n is even, so that its bits are a zero and the bits of its half
zeros_even : (k n : ℕ) → n % 2 ≡ 0 → NoneSet k (n / 2) → NoneSet (suc k) n
zeros_even k n e f zero h = first_bit n ∙ e
zeros_even k n e f (suc i) h = sym (half_bit n i) ∙ f i (le_of_suc-le-suc h)

lowest_even : (k n j : ℕ) → n % 2 ≡ 0 → Lowest k (n / 2) j → Lowest (suc k) n (suc j)
lowest_even k n j e l = record { within = suc-le-suc l.within; set = sym (half_bit n j) ∙ l.set; zeros = zeros_even j n e l.zeros }

lowest_odd : (k n : ℕ) → n % 2 ≡ 1 → Lowest (suc k) n 0
lowest_odd k n e = record { within = zero-lt-suc k; set = first_bit n ∙ e; zeros = λ i h. absurd (not-suc-le-zero h) }

-- one of the first k bits is the lowest that is set, or none is
find : (k n : ℕ) → ((j : ℕ) × Lowest k n j) ⊎ NoneSet k n
find zero n = inr (λ i h. absurd (not-suc-le-zero h))
find (suc k) n = go (n % 2) refl (mod-lt n (zero-lt-suc 1)) (find k (n / 2))
  where
    go : (b : ℕ) → n % 2 ≡ b → b < 2
        → ((j : ℕ) × Lowest k (n / 2) j) ⊎ NoneSet k (n / 2) → ((j : ℕ) × Lowest (suc k) n j) ⊎ NoneSet (suc k) n
    go zero e h (inl (j, l)) = inl (suc j, lowest_even k n j e l)
    go zero e h (inr f) = inr (zeros_even k n e f)
    go (suc zero) e h _ = inl (zero, lowest_odd k n e)
    go (suc (suc b)) e h _ = absurd (omega (arith, h))

-- where there are fewer zeros than bits, the lowest that is set comes after them
after_zeros : (k n : ℕ) → count_trailing_zeros k n < k → Lowest k n (count_trailing_zeros k n)
unfolding count_trailing_zeros
after_zeros zero n h = absurd (not-suc-le-zero h)
after_zeros (suc k) n h = go (after_zeros k (n / 2)) (n % 2) refl (mod-lt n (zero-lt-suc 1)) h
  where
    go : (count_trailing_zeros k (n / 2) < k → Lowest k (n / 2) (count_trailing_zeros k (n / 2))) → (b : ℕ) → n % 2 ≡ b → b < 2
        → under b (count_trailing_zeros k (n / 2)) < suc k → Lowest (suc k) n (under b (count_trailing_zeros k (n / 2)))
    go half zero e q t = lowest_even k n (count_trailing_zeros k (n / 2)) e (half (le_of_suc-le-suc t))
    go half (suc zero) e q t = lowest_odd k n e
    go half (suc (suc b)) e q t = absurd (omega (arith, q))

-- a number below 2 ^ k that is not 0 has fewer than k zeros below its lowest bit, of any w bits
few_zeros : (w k n : ℕ) → n < 2 ^ k → (n ≡ 0 → ⊥) → count_trailing_zeros w n < k
unfolding count_trailing_zeros
few_zeros w zero n h z = absurd (z (lt-one h))
few_zeros zero (suc k) n h z = zero-lt-suc k
few_zeros (suc w) (suc k) n h z = go (few_zeros w k (n / 2) (shr_lt k 1 (subst (λ (x : ℕ). n < 2 ^ x) (sym (add-one k)) h))) (n % 2) refl
  where
    go : ((n / 2 ≡ 0 → ⊥) → count_trailing_zeros w (n / 2) < k) → (b : ℕ) → n % 2 ≡ b → under b (count_trailing_zeros w (n / 2)) < suc k
    go half zero e = suc-le-suc (half (λ q. z (sym (div-add-mod' n 2) ∙ ap₂ (λ (x y : ℕ). x * 2 + y) q e)))
    go half (suc b) e = zero-lt-suc k

-- ---- the law

-- the number of each cause, from 3 on
cause_number : (j : ℕ) → j < soft_bits → reason_code (cause_at j) ≡ 3 + j
cause_number zero h = refl
cause_number (suc zero) h = refl
cause_number (suc (suc zero)) h = refl
cause_number (suc (suc (suc zero))) h = refl
cause_number (suc (suc (suc (suc zero)))) h = refl
cause_number (suc (suc (suc (suc (suc zero))))) h = refl
cause_number (suc (suc (suc (suc (suc (suc j)))))) h = absurd (omega (arith, h))

pub clamp_cause_lem : (trips : ℕ) → ClampCause trips
clamp_cause_lem trips = record {
  either = find soft_bits trips;
  lowest = λ j l. ap reason_code (cause_at_lem trips j l) ∙ cause_number j l.within;
  none = λ f. ap reason_code (cause_none trips f);
  higher = cause_same trips;
}

-- ---- for the code, which counts the zeros of b, the soft bits of s

low_bit : (n i : ℕ) → i < soft_bits → bit_at (n % 2 ^ soft_bits) i ≡ bit_at n i
low_bit n i h =
    let six : soft_bits ≡ 5 - i + 1 + i = omega (arith, h) in
    ap (λ (w : ℕ). bit_at (n % 2 ^ w) i) six ∙ ap (λ (x : ℕ). x % 2) (field n (5 - i + 1) i) ∙ mod-mod-pow (n / 2 ^ i) (5 - i) 1

-- a mask that has the six soft bits keeps them
pub masked : (s m : ℕ) → m % 2 ^ soft_bits ≡ tier0_soft → SameBits soft_bits (bit_and s m) s
masked s m e i h =
    let low : bit_and s m % 2 ^ soft_bits ≡ s % 2 ^ soft_bits =
    and_mod s m soft_bits ∙ ap (λ (x : ℕ). bit_and (s % 2 ^ soft_bits) x) e ∙ and_mask (s % 2 ^ soft_bits) soft_bits ∙ mod-mod s (2 ^ soft_bits) in
    sym (low_bit (bit_and s m) i h) ∙ ap (λ (x : ℕ). bit_at x i) low ∙ low_bit s i h

pub by_none : (s b : ℕ) → SameBits soft_bits b s → b ≡ 0 → R.ClampContact ≡ clamp_reason s
by_none s b h e = sym (cause_none s (λ i q. sym (h i q) ∙ ap (λ (x : ℕ). bit_at x i) e ∙ ap (λ (x : ℕ). x % 2) (zero-div (2 ^ i))))

-- z counts the zeros, and o was added to make the number n
pub by_zeros : (s b o z n : ℕ) → SameBits soft_bits b s → o + z ≡ n → z ≡ count_trailing_zeros 32 b → n - o < soft_bits → cause_at (n - o) ≡ clamp_reason s
by_zeros s b o z n h e t q =
    let count : count_trailing_zeros 32 b ≡ n - o = omega (arith, e, t) in
    let l = rw count at (after_zeros 32 b (omega (arith, count, q))) in
    sym (cause_at_lem s (n - o) (record {
      within = q;
      set = sym (h (n - o) q) ∙ l.set;
      zeros = λ i p. sym (h i (omega (arith, p, q))) ∙ l.zeros i p;
    }))

-- a mask without other bits leaves at most five zeros
pub zeros_most : (s m : ℕ) → (bit_and s m ≡ 0 → ⊥) → m < 2 ^ soft_bits → count_trailing_zeros 32 (bit_and s m) < soft_bits
zeros_most s m z h = few_zeros 32 soft_bits (bit_and s m) (omega (arith, h, and_le_r s m)) z

-- the same of the soft bits of s themselves, for the code
pub cause_of_zeros : (s j : ℕ) → count_trailing_zeros 32 (bit_and s tier0_soft) ≡ j → j < soft_bits → cause_at j ≡ clamp_reason s
cause_of_zeros s j e q =
    let same : j - 0 ≡ j = omega arith in
    rw same at (by_zeros s (bit_and s tier0_soft) 0 j j (masked s tier0_soft refl) (omega arith) (sym e) (omega (arith, q)))

pub cause_of_none : (s : ℕ) → bit_and s tier0_soft ≡ 0 → R.ClampContact ≡ clamp_reason s
cause_of_none s e = by_none s (bit_and s tier0_soft) (masked s tier0_soft refl) e

pub zeros_of_soft : (s : ℕ) → (bit_and s tier0_soft ≡ 0 → ⊥) → count_trailing_zeros 32 (bit_and s tier0_soft) < soft_bits
zeros_of_soft s z = zeros_most s tier0_soft z (lit< tt)
