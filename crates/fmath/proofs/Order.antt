-- Which argument `min_of` and `max_of` give, and the laws of `max_of`: the proofs of specs/Larger.
-- Assumes nothing.
use mathlib.Core.Path.{◌≡◌, refl, sym, ◌∙◌}
use mathlib.Core.Logic.{◌⊎◌, inl, inr}
use mathlib.Core.Bool.{Bool, true, false, not, cond, true≢false}
use lib.Dec.{T}
use lib.Ieee.{Float, nan, inf, fin, lt, is_nan}
use Rattle.floats.proofs.Nan.{the_nan}
use Rattle.fmath.specs.Rank.{Number}
use Rattle.fmath.specs.Float.{min_of, max_of, clamp_of}
use Rattle.fmath.specs.Larger.{rust_max, rust_clamp, LargerTold}
use Rattle.fmath.proofs.Rank.{below_nan, nan_below, lower_is_number, higher_is_number, lt_transitive, not_lt_transitive, lt_irreflexive, lt_asymmetric, lowest}

-- ---- min: the first where it is less, and the second otherwise
pub min_less : (a b : Float) → lt a b ≡ true → min_of a b ≡ a
unfolding min_of
min_less a b e = rw e

pub min_not_less : (a b : Float) → lt a b ≡ false → min_of a b ≡ b
unfolding min_of
min_not_less a b e = rw e

pub min_nan : (a : Float) → min_of a nan ≡ nan
min_nan a = min_not_less a nan (below_nan a)

pub min_of_nan : (b : Float) → min_of nan b ≡ b
min_of_nan b = min_not_less nan b (nan_below b)

-- a number as the second argument: the answer is a number
pub min_number : (a b : Float) → Number b → Number (min_of a b)
min_number a b n = go (lt a b) refl
  where
    go : (t : Bool) → lt a b ≡ t → Number (min_of a b)
    go true e = rw (min_less a b e) (lower_is_number a b e)
    go false e = rw (min_not_less a b e) n

-- ---- max: the first where the second is a NaN or less, and the second otherwise
untold : (t : Bool) → T (not t) → t ≡ false
untold true n = absurd n
untold false n = refl

told : (t : Bool) → t ≡ false → T (not t)
told t e = rw e tt

pub max_number : (a b : Float) → Number b → max_of a b ≡ cond (lt b a) a b
unfolding max_of
max_number a b n = rw (untold (is_nan b) n)

pub max_nan : (a : Float) → max_of a nan ≡ a
unfolding max_of is_nan
max_nan a = refl

pub max_greater : (a b : Float) → lt b a ≡ true → max_of a b ≡ a
max_greater a b e = max_number a b (lower_is_number b a e) ∙ rw e

pub max_not_greater : (a b : Float) → Number b → lt b a ≡ false → max_of a b ≡ b
max_not_greater a b n e = max_number a b n ∙ rw e

-- what holds of the first where it is given, and of the second where it is, holds of the larger
by_max : (P : Float → Type 0) (a b : Float) → (b ≡ nan → P a) → (lt b a ≡ true → P a) → (Number b → lt b a ≡ false → P b) → P (max_of a b)
by_max P a b f g h = go (is_nan b) refl (lt b a) refl
  where
    go : (s : Bool) → is_nan b ≡ s → (t : Bool) → lt b a ≡ t → P (max_of a b)
    go true d t e = let z : b ≡ nan = the_nan b d in rw (z, max_nan a) (f z)
    go false d true e = rw (max_greater a b e) (g e)
    go false d false e = rw (max_not_greater a b (told (is_nan b) d) e) (h (told (is_nan b) d) e)

pub max_of_nan : (b : Float) → max_of nan b ≡ b
max_of_nan b = by_max (λ r. r ≡ b) nan b sym (λ e. absurd (true≢false (sym e ∙ below_nan b))) (λ n e. refl)

-- ---- the larger is one of the two, none of the two is greater, and it is a number where one of
-- them is
pub max_either : (a b : Float) → (max_of a b ≡ a) ⊎ (max_of a b ≡ b)
max_either a b = by_max (λ r. (r ≡ a) ⊎ (r ≡ b)) a b (λ e. inl refl) (λ e. inl refl) (λ n e. inr refl)

pub max_above_first : (a b : Float) → lt (max_of a b) a ≡ false
max_above_first a b = by_max (λ r. lt r a ≡ false) a b (λ e. lt_irreflexive a) (λ e. lt_irreflexive a) (λ n e. e)

pub max_above_second : (a b : Float) → lt (max_of a b) b ≡ false
max_above_second a b = by_max (λ r. lt r b ≡ false) a b (λ e. rw e (below_nan a)) (λ e. lt_asymmetric b a e) (λ n e. lt_irreflexive b)

pub max_number_first : (a b : Float) → Number a → Number (max_of a b)
max_number_first a b m = by_max Number a b (λ e. m) (λ e. m) (λ n e. n)

pub max_number_second : (a b : Float) → Number b → Number (max_of a b)
max_number_second a b m = rw (max_number a b m) (go (lt b a) refl)
  where
    go : (t : Bool) → lt b a ≡ t → Number (cond t a b)
    go true e = higher_is_number b a e
    go false e = m

pub max_self : (a : Float) → max_of a a ≡ a
max_self a = by_max (λ r. r ≡ a) a a (λ e. refl) (λ e. refl) (λ n e. refl)

-- ---- minus infinity changes no number, on either side
pub max_from_lowest : (b : Float) → Number b → max_of (inf true) b ≡ b
max_from_lowest b n = max_not_greater (inf true) b n (lowest b)

pub max_to_lowest : (a : Float) → Number a → max_of a (inf true) ≡ a
unfolding lt is_nan
max_to_lowest nan n = absurd n
max_to_lowest (inf true) n = max_self (inf true)
max_to_lowest (inf false) n = max_greater (inf false) (inf true) refl
max_to_lowest (fin s m e) n = max_greater (fin s m e) (inf true) refl

-- of a NaN it makes itself
pub max_lowest_nan : max_of (inf true) nan ≡ inf true
max_lowest_nan = max_nan (inf true)

pub max_nan_lowest : max_of nan (inf true) ≡ inf true
max_nan_lowest = max_of_nan (inf true)

-- ---- associative, with NaNs, both zeros and the infinities: of the largest it is the last one
assoc_numbers : (a b c : Float) → Number b → Number c → max_of (max_of a b) c ≡ max_of a (max_of b c)
assoc_numbers a b c n m = go (lt b a) refl (lt c b) refl
  where
    go : (s : Bool) → lt b a ≡ s → (t : Bool) → lt c b ≡ t → max_of (max_of a b) c ≡ max_of a (max_of b c)
    go true d true e = rw (max_greater a b d, max_greater b c e, max_greater a b d) (max_greater a c (lt_transitive c b a e d))
    go true d false e = rw (max_greater a b d, max_not_greater b c m e)
    go false d true e = rw (max_not_greater a b n d, max_greater b c e) (sym (max_not_greater a b n d))
    go false d false e = rw (max_not_greater a b n d, max_not_greater b c m e) (sym (max_not_greater a c m (not_lt_transitive c b a n e d)))

pub max_assoc : (a b c : Float) → max_of (max_of a b) c ≡ max_of a (max_of b c)
max_assoc a b c = go (is_nan b) refl (is_nan c) refl
  where
    go : (s : Bool) → is_nan b ≡ s → (t : Bool) → is_nan c ≡ t → max_of (max_of a b) c ≡ max_of a (max_of b c)
    go s d true e = rw (the_nan c e, max_nan (max_of a b), max_nan b)
    go true d false e = rw (the_nan b d, max_nan a, max_of_nan c)
    go false d false e = assoc_numbers a b c (told (is_nan b) d) (told (is_nan c) e)

-- ---- beside the Rust's
pub max_as_rust : (a b : Float) → Number b → max_of a b ≡ rust_max a b
unfolding rust_max
max_as_rust a b n = max_number a b n

pub clamp_as_rust : (x lo hi : Float) → Number hi → clamp_of x lo hi ≡ rust_clamp x lo hi
unfolding clamp_of rust_clamp
clamp_as_rust x lo hi n = max_as_rust lo (min_of x hi) (min_number x hi n)

-- ---- the claim
pub larger_told : LargerTold
larger_told = record {
  ignores_second = max_nan;
  ignores_first = max_of_nan;
  otherwise = max_as_rust;
  clamp = clamp_as_rust;
  first_below = max_above_first;
  second_below = max_above_second;
  associative = max_assoc;
}
