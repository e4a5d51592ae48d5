-- For numbers `lt` is `<` of whole numbers at a common scale, so it is a strict weak order:
-- the infinities are its ends, and the two zeros are level. Assumes nothing.
--     lt_is                    the law; `cover_three` gives a scale and a bound for any three
-- numbers
--     lt_irreflexive, lt_transitive, lt_asymmetric     also where one of the values is a NaN
--     not_lt_transitive        through a number; the two at the ends may be NaNs
use mathlib.Core.Path.{◌≡◌, refl, sym, ap, ◌∙◌}
use mathlib.Core.Bool.{Bool, true, false, not, ◌&&◌, ◌||◌, true≢false}
use Prim.Native.Nat.{ℕ, zero, suc, ◌+◌, ◌-◌, ◌*◌, ◌%◌, ◌^◌, ◌≤◌, ◌<◌, zero-le}
use native.Mathlib.Nat.{mul-one, one-mul, zero-mul, mul_comm, mul-lt-mul_of_pos_right, lt_of_mul-lt-mul_right, mul-pos, eq_of_mul-eq-mul_right, not-le_of_lt, le_of_lt, pow-suc}
use native.Mathlib.Decide.{dec_lt, ℕ_discrete}
use native.Mathlib.Omega.{arith}
use borrow.Author.Tests.{lt-ltb, le-ltb, ltb-true, ltb-false, eq-eqb, ne_eqb}
use lib.Dec.{T, leb, ltb, eqb, leb→le, ltb→lt, eqb→eq}
use lib.Pow.{pow-add, pow_pos, pow-lt}
use lib.IntN.{ℤ, pos, negsuc}
use lib.Ieee.{Float, nan, inf, fin, is_nan, up, down, below, level, lt, eq, le, binary64, fits, prec, low, emax}
use lib.Ieee.Fits.{down_pos, and_l, and_r}
use lib.Ieee.Scale.{finite}
use Rattle.fmath.specs.Rank.{Number, units_in, depth, size_at, signed_from, rank, rank_of, Covers}

-- ---- tests of whole numbers
ltb_same : (a b c d : ℕ) → (a < b → c < d) → (c < d → a < b) → ltb a b ≡ ltb c d
ltb_same a b c d f g = go (dec_lt a b)
  where
    go : Dec (a < b) → ltb a b ≡ ltb c d
    go (yes h) = rw (lt-ltb a b h, lt-ltb c d (f h))
    go (no h) = let k : ¬ (c < d) = λ p. h (g p) in rw (le-ltb a b (omega arith), le-ltb c d (omega arith))

ltb_through : (a b c : ℕ) → ltb a b ≡ true → ltb b c ≡ true → ltb a c ≡ true
ltb_through a b c p q = lt-ltb a c (omega (arith, ltb-true a b p, ltb-true b c q))

ltb_not_through : (a b c : ℕ) → ltb a b ≡ false → ltb b c ≡ false → ltb a c ≡ false
ltb_not_through a b c p q = le-ltb a c (omega (arith, ltb-false a b p, ltb-false b c q))

ltb_self : (a : ℕ) → ltb a a ≡ false
ltb_self a = le-ltb a a (omega arith)

-- two fractions with positive denominators: the order of the one pair is that of the other
scaled : (a b m n p q : ℕ) → 0 < p → 0 < q → a * p ≡ m * q → b * p ≡ n * q → ltb a b ≡ ltb m n
scaled a b m n p q P Q e f =
    ltb_same a b m n
    (λ h. let g : a * p < b * p = mul-lt-mul_of_pos_right h P in lt_of_mul-lt-mul_right q (rw (e, f) at g))
    (λ h. let g : m * q < n * q = mul-lt-mul_of_pos_right h Q in lt_of_mul-lt-mul_right p (rw (← e, ← f) at g))

-- ---- finite numbers
units_are : (k : ℕ) (s : Bool) (m : ℕ) (e : ℤ) → depth (fin s m e) ≤ k → up e * 2 ^ k ≡ units_in k e * down e
unfolding depth units_in
units_are k s m (pos e) h = sym (pow-add 2 e k) ∙ sym (mul-one (2 ^ (e + k)))
units_are k s m (negsuc j) h =
    let z : k ≡ k - suc j + suc j = omega arith in
    one-mul (2 ^ k) ∙ ap (λ (i : ℕ). 2 ^ i) z ∙ pow-add 2 (k - suc j) (suc j)

across : (m u p d g w : ℕ) → u * p ≡ w * g → m * u * d * p ≡ m * w * (g * d)
across m u p d g w e = let f : m * (u * p) * d ≡ m * (w * g) * d = ap (λ (z : ℕ). m * z * d) e in omega arith

below_is : (b : ℕ) (s t : Bool) (x y m n p q : ℕ) → 0 < p → 0 < q → x * p ≡ m * q → y * p ≡ n * q → m ≤ b → n ≤ b → below s x t y ≡ ltb (signed_from b s m) (signed_from b t n)
below_is b false false x y m n p q P Q e f i j = scaled x y m n p q P Q e f ∙ ltb_same m n (suc b + m) (suc b + n) (λ h. omega arith) (λ h. omega arith)
below_is b false true x y m n p q P Q e f i j = sym (le-ltb (suc b + m) (suc b - n) (omega arith))
below_is b true false x y m n p q P Q e f i j =
    scaled 0 (x + y) 0 (m + n) p q P Q (omega arith) (omega arith) ∙ ltb_same 0 (m + n) (suc b - m) (suc b + n) (λ h. omega arith) (λ h. omega arith)
below_is b true true x y m n p q P Q e f i j = scaled y x n m p q P Q f e ∙ ltb_same n m (suc b - m) (suc b - n) (λ h. omega arith) (λ h. omega arith)

-- ---- the law
pub lt_is : (k b : ℕ) (x y : Float) → Covers k b x → Covers k b y → lt x y ≡ ltb (rank k b x) (rank k b y)
unfolding lt rank is_nan
lt_is k b nan y p q = absurd p.number
lt_is k b (inf s) nan p q = absurd q.number
lt_is k b (inf true) (inf true) p q = refl
lt_is k b (inf true) (inf false) p q = sym (lt-ltb 0 (b + b + 2) (omega arith))
lt_is k b (inf false) (inf true) p q = sym (le-ltb (b + b + 2) 0 (omega arith))
lt_is k b (inf false) (inf false) p q = sym (le-ltb (b + b + 2) (b + b + 2) (omega arith))
lt_is k b (inf true) (fin true n d) p q = sym (lt-ltb 0 (suc b - size_at k (fin true n d)) (omega arith))
lt_is k b (inf true) (fin false n d) p q = sym (lt-ltb 0 (suc b + size_at k (fin false n d)) (omega arith))
lt_is k b (inf false) (fin true n d) p q = sym (le-ltb (b + b + 2) (suc b - size_at k (fin true n d)) (omega arith))
lt_is k b (inf false) (fin false n d) p q = sym (le-ltb (b + b + 2) (suc b + size_at k (fin false n d)) (omega arith))
lt_is k b (fin s m e) nan p q = absurd q.number
lt_is k b (fin true m e) (inf true) p q = sym (le-ltb (suc b - size_at k (fin true m e)) 0 (omega arith))
lt_is k b (fin false m e) (inf true) p q = sym (le-ltb (suc b + size_at k (fin false m e)) 0 (omega arith))
lt_is k b (fin true m e) (inf false) p q = sym (lt-ltb (suc b - size_at k (fin true m e)) (b + b + 2) (omega arith))
lt_is k b (fin false m e) (inf false) p q = sym (lt-ltb (suc b + size_at k (fin false m e)) (b + b + 2) (omega arith))
lt_is k b (fin s m e) (fin t n d) p q =
    below_is b s t (m * up e * down d) (n * up d * down e) (m * units_in k e) (n * units_in k d) (2 ^ k) (down e * down d) (pow_pos k) (mul-pos (down_pos e) (down_pos d))
    (across m (up e) (2 ^ k) (down d) (down e) (units_in k e) (units_are k s m e p.fine))
    (across n (up d) (2 ^ k) (down e) (down d) (units_in k d) (units_are k t n d q.fine) ∙ ap (λ (z : ℕ). n * units_in k d * z) (mul_comm (down d) (down e)))
    p.wide
    q.wide

-- ---- equal, and less or equal
eqb_same : (a b c d : ℕ) → (a ≡ b → c ≡ d) → (c ≡ d → a ≡ b) → eqb a b ≡ eqb c d
eqb_same a b c d f g = go (ℕ_discrete a b)
  where
    go : Dec (a ≡ b) → eqb a b ≡ eqb c d
    go (yes h) = rw (eq-eqb a b h, eq-eqb c d (f h))
    go (no h) = rw (ne_eqb a b h, ne_eqb c d (λ e. h (g e)))

scaled_eq : (a b m n p q : ℕ) → 0 < p → 0 < q → a * p ≡ m * q → b * p ≡ n * q → eqb a b ≡ eqb m n
scaled_eq a b m n p q P Q e f =
    eqb_same a b m n
    (λ h. eq_of_mul-eq-mul_right q Q m n (sym e ∙ ap (λ (z : ℕ). z * p) h ∙ f))
    (λ h. eq_of_mul-eq-mul_right p P a b (e ∙ ap (λ (z : ℕ). z * q) h ∙ sym f))

and_true : (t : Bool) → (t && true) ≡ t
and_true true = refl
and_true false = refl

-- opposite signs: equal only where both are zero
both_zero : (m n c d : ℕ) → (m ≡ 0 → n ≡ 0 → c ≡ d) → (c ≡ d → m + n ≡ 0) → (eqb m n && eqb m 0) ≡ eqb c d
both_zero m n c d f g = go (ℕ_discrete m n) (ℕ_discrete m 0)
  where
    go : Dec (m ≡ n) → Dec (m ≡ 0) → (eqb m n && eqb m 0) ≡ eqb c d
    go (yes h) (yes k) = rw (eq-eqb m n h, eq-eqb m 0 k, eq-eqb c d (f k (omega arith)))
    go (yes h) (no k) = rw (eq-eqb m n h, ne_eqb m 0 k, ne_eqb c d (λ e. omega (arith, g e)))
    go (no h) k = rw (ne_eqb m n h, ne_eqb c d (λ e. omega (arith, g e)))

level_whole : (b : ℕ) (s t : Bool) (m n : ℕ) → m ≤ b → n ≤ b → level s m t n ≡ eqb (signed_from b s m) (signed_from b t n)
level_whole b false false m n i j = and_true (eqb m n) ∙ eqb_same m n (suc b + m) (suc b + n) (λ h. omega arith) (λ h. omega arith)
level_whole b true true m n i j = and_true (eqb m n) ∙ eqb_same m n (suc b - m) (suc b - n) (λ h. omega arith) (λ h. omega arith)
level_whole b false true m n i j = both_zero m n (suc b + m) (suc b - n) (λ h k. omega arith) (λ h. omega arith)
level_whole b true false m n i j = both_zero m n (suc b - m) (suc b + n) (λ h k. omega arith) (λ h. omega arith)

level_is : (b : ℕ) (s t : Bool) (x y m n p q : ℕ) → 0 < p → 0 < q → x * p ≡ m * q → y * p ≡ n * q → m ≤ b → n ≤ b → level s x t y ≡ eqb (signed_from b s m) (signed_from b t n)
level_is b s t x y m n p q P Q e f i j =
    rw (scaled_eq x y m n p q P Q e f, scaled_eq x 0 m 0 p q P Q e (omega arith)) (level_whole b s t m n i j)

pub eq_is : (k b : ℕ) (x y : Float) → Covers k b x → Covers k b y → eq x y ≡ eqb (rank k b x) (rank k b y)
unfolding eq rank is_nan
eq_is k b nan y p q = absurd p.number
eq_is k b (inf s) nan p q = absurd q.number
eq_is k b (inf true) (inf true) p q = refl
eq_is k b (inf true) (inf false) p q = sym (ne_eqb 0 (b + b + 2) (λ e. omega arith))
eq_is k b (inf false) (inf true) p q = sym (ne_eqb (b + b + 2) 0 (λ e. omega arith))
eq_is k b (inf false) (inf false) p q = sym (eq-eqb (b + b + 2) (b + b + 2) refl)
eq_is k b (inf true) (fin true n d) p q = sym (ne_eqb 0 (suc b - size_at k (fin true n d)) (λ e. omega arith))
eq_is k b (inf true) (fin false n d) p q = sym (ne_eqb 0 (suc b + size_at k (fin false n d)) (λ e. omega arith))
eq_is k b (inf false) (fin true n d) p q = sym (ne_eqb (b + b + 2) (suc b - size_at k (fin true n d)) (λ e. omega arith))
eq_is k b (inf false) (fin false n d) p q = sym (ne_eqb (b + b + 2) (suc b + size_at k (fin false n d)) (λ e. omega arith))
eq_is k b (fin s m e) nan p q = absurd q.number
eq_is k b (fin true m e) (inf true) p q = sym (ne_eqb (suc b - size_at k (fin true m e)) 0 (λ e. omega arith))
eq_is k b (fin false m e) (inf true) p q = sym (ne_eqb (suc b + size_at k (fin false m e)) 0 (λ e. omega arith))
eq_is k b (fin true m e) (inf false) p q = sym (ne_eqb (suc b - size_at k (fin true m e)) (b + b + 2) (λ e. omega arith))
eq_is k b (fin false m e) (inf false) p q = sym (ne_eqb (suc b + size_at k (fin false m e)) (b + b + 2) (λ e. omega arith))
eq_is k b (fin s m e) (fin t n d) p q =
    level_is b s t (m * up e * down d) (n * up d * down e) (m * units_in k e) (n * units_in k d) (2 ^ k) (down e * down d) (pow_pos k) (mul-pos (down_pos e) (down_pos d))
    (across m (up e) (2 ^ k) (down d) (down e) (units_in k e) (units_are k s m e p.fine))
    (across n (up d) (2 ^ k) (down e) (down d) (units_in k d) (units_are k t n d q.fine) ∙ ap (λ (z : ℕ). n * units_in k d * z) (mul_comm (down d) (down e)))
    p.wide
    q.wide

-- for numbers the tests `x <= y` and `!(y < x)` are one
not_above : (a b : ℕ) → (ltb a b || eqb a b) ≡ not (ltb b a)
not_above a b = go (dec_lt a b) (dec_lt b a)
  where
    go : Dec (a < b) → Dec (b < a) → (ltb a b || eqb a b) ≡ not (ltb b a)
    go (yes h) d = rw (lt-ltb a b h, le-ltb b a (omega arith))
    go (no h) (yes g) = rw (le-ltb a b (omega arith), ne_eqb a b (λ e. omega arith), lt-ltb b a g)
    go (no h) (no g) = rw (le-ltb a b (omega arith), eq-eqb a b (omega arith), le-ltb b a (omega arith))

-- ---- a scale and a bound for any three numbers
abbrev scale_of : Float → Float → Float → ℕ
scale_of x y z = depth x + depth y + depth z

abbrev bound_of : ℕ → Float → Float → Float → ℕ
bound_of k x y z = size_at k x + size_at k y + size_at k z

pub record CoverThree (x y z : Float) : Type 0 where
  pub k : ℕ
  pub b : ℕ
  pub first : Covers k b x
  pub second : Covers k b y
  pub third : Covers k b z

pub cover_three : (x y z : Float) → Number x → Number y → Number z → CoverThree x y z
cover_three x y z p q r =
    let k = scale_of x y z in
    let b = bound_of k x y z in
    record {
      k = k;
      b = b;
      first = record { number = p; fine = omega arith; wide = omega arith };
      second = record { number = q; fine = omega arith; wide = omega arith };
      third = record { number = r; fine = omega arith; wide = omega arith };
    }

-- ---- a NaN is less than nothing and nothing is less than it
pub below_nan : (a : Float) → lt a nan ≡ false
unfolding lt
below_nan nan = refl
below_nan (inf s) = refl
below_nan (fin s m e) = refl

pub nan_below : (b : Float) → lt nan b ≡ false
unfolding lt
nan_below b = refl

-- what is less than something, and what something is less than, is a number
pub lower_is_number : (x y : Float) → lt x y ≡ true → Number x
unfolding lt is_nan
lower_is_number nan y e = absurd (true≢false (sym e))
lower_is_number (inf s) y e = tt
lower_is_number (fin s m d) y e = tt

pub higher_is_number : (x y : Float) → lt x y ≡ true → Number y
unfolding is_nan
higher_is_number x nan e = absurd (true≢false (sym e ∙ below_nan x))
higher_is_number x (inf s) e = tt
higher_is_number x (fin s m d) e = tt

-- ---- a strict weak order
module _ (x y z : Float) (c : CoverThree x y z) where
  abbrev at : Float → ℕ
  at v = rank c.k c.b v

  xy : lt x y ≡ ltb (at x) (at y)
  xy = lt_is c.k c.b x y c.first c.second

  yz : lt y z ≡ ltb (at y) (at z)
  yz = lt_is c.k c.b y z c.second c.third

  xz : lt x z ≡ ltb (at x) (at z)
  xz = lt_is c.k c.b x z c.first c.third

  self : lt x x ≡ false
  self = lt_is c.k c.b x x c.first c.first ∙ ltb_self (at x)

  through : lt x y ≡ true → lt y z ≡ true → lt x z ≡ true
  through p q = xz ∙ ltb_through (at x) (at y) (at z) (sym xy ∙ p) (sym yz ∙ q)

  not_through : lt x y ≡ false → lt y z ≡ false → lt x z ≡ false
  not_through p q = xz ∙ ltb_not_through (at x) (at y) (at z) (sym xy ∙ p) (sym yz ∙ q)

pub lt_transitive : (x y z : Float) → lt x y ≡ true → lt y z ≡ true → lt x z ≡ true
lt_transitive x y z p q = through x y z (cover_three x y z (lower_is_number x y p) (higher_is_number x y p) (higher_is_number y z q)) p q

pub not_lt_transitive : (x y z : Float) → Number y → lt x y ≡ false → lt y z ≡ false → lt x z ≡ false
unfolding is_nan
not_lt_transitive nan y z n p q = nan_below z
not_lt_transitive (inf s) y nan n p q = below_nan (inf s)
not_lt_transitive (inf s) y (inf t) n p q = not_through (inf s) y (inf t) (cover_three (inf s) y (inf t) tt n tt) p q
not_lt_transitive (inf s) y (fin t m e) n p q = not_through (inf s) y (fin t m e) (cover_three (inf s) y (fin t m e) tt n tt) p q
not_lt_transitive (fin s i d) y nan n p q = below_nan (fin s i d)
not_lt_transitive (fin s i d) y (inf t) n p q = not_through (fin s i d) y (inf t) (cover_three (fin s i d) y (inf t) tt n tt) p q
not_lt_transitive (fin s i d) y (fin t m e) n p q = not_through (fin s i d) y (fin t m e) (cover_three (fin s i d) y (fin t m e) tt n tt) p q

pub lt_irreflexive : (x : Float) → lt x x ≡ false
unfolding is_nan
lt_irreflexive nan = nan_below nan
lt_irreflexive (inf s) = self (inf s) (inf s) (inf s) (cover_three (inf s) (inf s) (inf s) tt tt tt)
lt_irreflexive (fin s m e) = self (fin s m e) (fin s m e) (fin s m e) (cover_three (fin s m e) (fin s m e) (fin s m e) tt tt tt)

pub lt_asymmetric : (x y : Float) → lt x y ≡ true → lt y x ≡ false
lt_asymmetric x y p = go (lt y x) refl
  where
    go : (b : Bool) → lt y x ≡ b → b ≡ false
    go true q = sym (lt_transitive x y x p q) ∙ lt_irreflexive x
    go false q = refl

-- less than a number, or not less than it and so level with it or above, go on through `lt`
pub lt_not_lt : (x y z : Float) → Number z → lt x y ≡ true → lt z y ≡ false → lt x z ≡ true
lt_not_lt x y z n p q = go (lt x z) refl
  where
    go : (b : Bool) → lt x z ≡ b → b ≡ true
    go true r = refl
    go false r = sym (not_lt_transitive x z y n r q) ∙ p

pub not_lt_lt : (x y z : Float) → Number x → lt y x ≡ false → lt y z ≡ true → lt x z ≡ true
not_lt_lt x y z n p q = go (lt x z) refl
  where
    go : (b : Bool) → lt x z ≡ b → b ≡ true
    go true r = refl
    go false r = sym (not_lt_transitive y x z n p r) ∙ q

-- ---- the ends, and the zeros
pub lowest : (x : Float) → lt x (inf true) ≡ false
unfolding lt
lowest nan = refl
lowest (inf true) = refl
lowest (inf false) = refl
lowest (fin s m e) = refl

pub highest : (x : Float) → lt (inf false) x ≡ false
unfolding lt
highest nan = refl
highest (inf s) = refl
highest (fin s m e) = refl

pub above_lowest : (x : Float) → finite x ≡ true → lt (inf true) x ≡ true
unfolding lt
above_lowest nan e = absurd (true≢false (sym e))
above_lowest (inf s) e = absurd (true≢false (sym e))
above_lowest (fin s m d) e = refl

pub below_highest : (x : Float) → finite x ≡ true → lt x (inf false) ≡ true
unfolding lt
below_highest nan e = absurd (true≢false (sym e))
below_highest (inf s) e = absurd (true≢false (sym e))
below_highest (fin s m d) e = refl

pub zeros_level : (s t : Bool) (e d : ℤ) → lt (fin s 0 e) (fin t 0 d) ≡ false
unfolding lt
zeros_level false false e d = simp zero-mul
zeros_level false true e d = refl
zeros_level true false e d = simp zero-mul
zeros_level true true e d = simp zero-mul

pub le_is : (x y : Float) → Number x → Number y → le x y ≡ not (lt y x)
unfolding le
le_is x y p q =
    let c = cover_three x x y p p q in
    rw (lt_is c.k c.b x y c.first c.third, eq_is c.k c.b x y c.first c.third, lt_is c.k c.b y x c.third c.first)
    (not_above (rank c.k c.b x) (rank c.k c.b y))

-- ---- binary64: one scale for all its numbers
depth_le : (k j : ℕ) → 2 ^ suc j ≤ 2 ^ k → suc j ≤ k
depth_le k j h = go (dec_lt k (suc j))
  where
    go : Dec (k < suc j) → suc j ≤ k
    go (yes l) = absurd (not-le_of_lt (pow-lt l) h)
    go (no l) = omega arith

deep_enough : (k : ℕ) (s : Bool) (m : ℕ) (e : ℤ) → down e ≤ 2 ^ k → depth (fin s m e) ≤ k
unfolding depth
deep_enough k s m (pos e) h = zero-le
deep_enough k s m (negsuc j) h = depth_le k j h

wide_enough : (k l : ℕ) (s : Bool) (m : ℕ) (e : ℤ) → depth (fin s m e) ≤ k → m * up e < 2 ^ l * down e → m * units_in k e < 2 ^ (l + k)
wide_enough k l s m e d h =
    let g : m * up e * 2 ^ k < 2 ^ l * down e * 2 ^ k = mul-lt-mul_of_pos_right h (pow_pos k) in
    let u : m * (up e * 2 ^ k) ≡ m * (units_in k e * down e) = ap (λ (z : ℕ). m * z) (units_are k s m e d) in
    let w : m * units_in k e * down e < 2 ^ l * 2 ^ k * down e = spread m (up e) (2 ^ k) (units_in k e) (down e) (2 ^ l) u g in
    rw (pow-add 2 l k) (lt_of_mul-lt-mul_right (down e) w)
  where
    spread : (m u p w d l : ℕ) → m * (u * p) ≡ m * (w * d) → m * u * p < l * d * p → m * w * d < l * p * d
    spread m u p w d l e h = omega arith

no_fraction : (s : Bool) (e : ℤ) → up e * down e ≡ 1 → depth (fin s 0 e) ≡ 0
unfolding depth
no_fraction s (pos k) h = refl
no_fraction s (negsuc j) h = absurd (two j h)
  where
    two : (j : ℕ) → 1 * 2 ^ suc j ≡ 1 → ⊥
    two j h = omega (arith, pow_pos j, pow-suc 2 j)

pub covers_all : (x : Float) → T (fits binary64 x) → Number x → Covers 1074 (2 ^ 2098) x
unfolding fits is_nan size_at depth
covers_all nan f n = absurd n
covers_all (inf s) f n = record { number = tt; fine = zero-le; wide = zero-le }
covers_all (fin s zero e) f n = record {
  number = tt;
  fine = rw (no_fraction s e (eqb→eq (up e * down e) 1 f)) zero-le;
  wide = rw (zero-mul (units_in 1074 e)) zero-le;
}
covers_all (fin s (suc m) e) f n =
    let a = eqb (suc m % 2) 1 in
    let b = ltb (suc m) (2 ^ prec binary64) in
    let c = leb (down e) (2 ^ low binary64) in
    let d = ltb (suc m * up e) (2 ^ suc (emax binary64) * down e) in
    let g : depth (fin s (suc m) e) ≤ 1074 = deep_enough 1074 s (suc m) e (leb→le (down e) (2 ^ 1074) (and_r (a && b) c (and_l (a && b && c) d f))) in
    record { number = tt; fine = g; wide = le_of_lt (wide_enough 1074 1024 s (suc m) e g (ltb→lt (suc m * up e) (2 ^ 1024 * down e) (and_r (a && b && c) d f))) }

pub lt_by_rank : (x y : Float) → T (fits binary64 x) → T (fits binary64 y) → Number x → Number y → lt x y ≡ ltb (rank_of x) (rank_of y)
lt_by_rank x y f g p q = lt_is 1074 (2 ^ 2098) x y (covers_all x f p) (covers_all y g q)
