-- No component is less than zero from a face: where p is not above q, the rounded difference q - p is
-- not below zero. So with a width of zero no line is a `within`.
use Prim.Native.Nat.{ℕ, zero, suc, ◌+◌, ◌-◌, ◌*◌, ◌^◌, ◌≤◌, ◌<◌}
use mathlib.Core.Bool.{Bool, true, false, not, cond, ◌&&◌, ◌||◌}
use mathlib.Core.List.{List}
use mathlib.Core.Path.{◌≡◌, refl, sym, ap, ◌∙◌}
use native.Mathlib.Nat.{mul-pos, zero-mul}
use native.Mathlib.Omega.{arith}
use borrow.Author.Tests.{ltb-true, eqb-true, le-ltb, eq-eqb}
use lib.Dec.{T, eqb, ltb}
use lib.IntN.{ℤ}
use lib.Pow.{pow_pos}
use lib.Ieee.{Float, nan, inf, fin, Format, binary64, prec, emax, low, up, down, odd, units, round, neg, sum, add, sub, below, level, lt, eq, le}
use lib.Ieee.Fits.{up_pos, down_pos}
use lib.Ieee.Exact.{HasValue, round_exact}
use Rattle.lictor_core.specs.declared.envelope.FuseConfig.{FuseConfig}
use Rattle.lictor_core.specs.Initial.{zero_float}
use Rattle.lictor_core.specs.Rows.{place_of}
use Rattle.proximity_text.specs.Near.{inside, near}
use Rattle.proximity_text.specs.declared.Word.{Word}
use Rattle.proximity_text.specs.declared.Word.TheVariants.{Within as within, Out as out}
use Rattle.proximity_text.specs.History.{Moment, IsOut, Says}
use Rattle.proximity_text.specs.ZeroWidth.{ZeroWidth}

-- not below zero, or no number
abbrev upward : Float → Bool
upward nan = true
upward (inf s) = not s
upward (fin s m e) = not s || eqb m 0

falsehood : {A : Type 0} → false ≡ true → A
falsehood e = let z : ◌≡◌ {A = ℕ} 0 1 = cc in absurd (omega (arith, z))

-- ---- a product is zero only with a factor that is

no_factor : (n u : ℕ) → 0 < u → n * u ≡ 0 → n ≡ 0
no_factor zero u h e = refl
no_factor (suc n) u h e =
    let some : 0 < suc n = omega arith in
    let product : 0 < suc n * u = mul-pos some h in
    absurd (omega (arith, product, e))

-- ---- rounding keeps the sign

units_by : (b : Bool) (d q k l : ℕ) → upward (cond b (odd d false q k l) (inf false)) ≡ true
unfolding odd
units_by true d zero k l = refl
units_by true d (suc q) k l = refl
units_by false d q k l = refl

units_up : (f : Format) (q k : ℕ) → upward (units f false q k) ≡ true
unfolding units
units_up f q k = units_by (ltb (q * 2 ^ k) (2 ^ (low f + suc (emax f)))) (suc (prec f)) q k (low f)

round_up : (f : Format) (a c : ℕ) → upward (round f false a c) ≡ true
unfolding round
round_up f a c = units_up f _ _

-- and zero
value_up : (x : Float) (s : Bool) (c : ℕ) → 0 < c → HasValue x s 0 c → upward x ≡ true
value_up nan s c h v = absurd v
value_up (inf t) s c h v = absurd v
value_up (fin t m e) s c h v =
    let none : m ≡ 0 = no_factor m (up e) (up_pos e) (no_factor (m * up e) c h (v.1 ∙ zero-mul (down e))) in
    either t (eqb m 0) (eq-eqb m 0 none)
  where
    either : (a b : Bool) → b ≡ true → (not a || b) ≡ true
    either true b q = q
    either false b q = refl

round_zero : (f : Format) (s : Bool) (c : ℕ) → 0 < c → upward (round f s 0 c) ≡ true
round_zero f s c h =
    value_up (round f s 0 c) s c h (round_exact f s 0 c 0 0 h (pow_pos (prec f)) (pow_pos (low f + suc (emax f))) (zero-mul (2 ^ low f) ∙ sym (zero-mul c)))

-- ---- a sum of ±a / c and ∓b / c, where the second is not above the first

or_cases : (a b : Bool) {A : Type 0} → (a || b) ≡ true → (a ≡ true → A) → (b ≡ true → A) → A
or_cases true b e f g = f refl
or_cases false b e f g = g e

and_first : (a b : Bool) → (a && b) ≡ true → a ≡ true
and_first true b e = refl
and_first false b e = e

and_second : (a b : Bool) → (a && b) ≡ true → b ≡ true
and_second true b e = e
and_second false b e = falsehood e

-- below or level is not above
not_above : (a b : ℕ) (x : Bool) → (ltb a b || (eqb a b && x)) ≡ true → a ≤ b
not_above a b x e = or_cases (ltb a b) (eqb a b && x) e (λ p. omega (arith, ltb-true a b p)) (λ p. omega (arith, eqb-true a b (and_first (eqb a b) x p)))

module _ (f : Format) (a b c : ℕ) (h : 0 < c) where
  larger_up : b ≤ a → upward (cond (ltb a b) (round f true (b - a) c) (round f false (a - b) c)) ≡ true
  larger_up q = rw (le-ltb a b q) (round_up f (a - b) c)

  smaller_by : (t : Bool) → a ≤ b → upward (cond t (round f false (b - a) c) (round f (ltb b a) (a - b) c)) ≡ true
  smaller_by true q = round_up f (b - a) c
  smaller_by false q = rw (le-ltb b a q) (round_up f (a - b) c)

  zeros_up : (eqb b a && eqb b 0) ≡ true → upward (round f true (a + b) c) ≡ true
  zeros_up e =
      let z : b ≡ 0 = eqb-true b 0 (and_second (eqb b a) (eqb b 0) e) in
      let y : b ≡ a = eqb-true b a (and_first (eqb b a) (eqb b 0) e) in
      let w : a + b ≡ 0 = omega (arith, z, y) in
      rw w (round_zero f true c h)

  sum_up : (s t : Bool) → (below t b s a || level t b s a) ≡ true → upward (sum f s a (not t) b c) ≡ true
  unfolding sum
  sum_up false false e = larger_up (not_above b a (true || eqb b 0) e)
  sum_up false true e = round_up f (a + b) c
  sum_up true false e = zeros_up e
  sum_up true true e = smaller_by (ltb a b) (not_above a b true (turned (ltb a b) (eqb b a) (eqb a b) (eqb_turn b a) e))
    where
      eqb_turn : (x y : ℕ) → eqb x y ≡ true → eqb y x ≡ true
      eqb_turn x y p = eq-eqb y x (sym (eqb-true x y p))

      turned : (l p q : Bool) → (p ≡ true → q ≡ true) → (l || (p && (true || eqb b 0))) ≡ true → (l || (q && true)) ≡ true
      turned true p q g r = refl
      turned false true q g r = rw (g refl) refl
      turned false false q g r = falsehood r

-- ---- a difference

difference_up : (f : Format) (p q : Float) → le p q ≡ true → upward (sub f q p) ≡ true
unfolding sub add neg le lt eq
difference_up f p nan h = refl
difference_up f nan (inf s) h = refl
difference_up f nan (fin s m e) h = refl
difference_up f (inf true) (inf true) h = refl
difference_up f (inf true) (inf false) h = refl
difference_up f (inf false) (inf true) h = falsehood h
difference_up f (inf false) (inf false) h = refl
difference_up f (inf true) (fin s m e) h = refl
difference_up f (inf false) (fin s m e) h = falsehood h
difference_up f (fin t n d) (inf true) h = falsehood h
difference_up f (fin t n d) (inf false) h = refl
difference_up f (fin t n d) (fin s m e) h = sum_up f (m * up e * down d) (n * up d * down e) (down e * down d) (mul-pos (down_pos e) (down_pos d)) s t h

-- ---- nothing that is not below zero is below a zero

zero_size : (s : Bool) (m : ℕ) (e : ℤ) → eq (fin s m e) zero_float ≡ true → m ≡ 0
unfolding eq
zero_size s m e h =
    let z : m * up e * 1 ≡ 0 * 1 * down e = eqb-true _ _ (and_first _ _ h) in
    no_factor m (up e) (up_pos e) (omega (arith, z))

below_zero : (s : Bool) (a b : ℕ) (t : Bool) → b ≡ 0 → (not s || eqb a 0) ≡ true → below s a t b ≡ false
below_zero false a b false z u = le-ltb a b (omega (arith, z))
below_zero false a b true z u = refl
below_zero true a b false z u = le-ltb 0 (a + b) (omega (arith, z, eqb-true a 0 u))
below_zero true a b true z u = le-ltb b a (omega (arith, z, eqb-true a 0 u))

scaled_zero : (s : Bool) (m k : ℕ) → (not s || eqb m 0) ≡ true → (not s || eqb (m * k) 0) ≡ true
scaled_zero false m k u = refl
scaled_zero true m k u = let z : m * k ≡ 0 = ap (λ (x : ℕ). x * k) (eqb-true m 0 u) ∙ zero-mul k in eq-eqb (m * k) 0 z

not_less : (x z : Float) → upward x ≡ true → eq z zero_float ≡ true → lt x z ≡ false
unfolding lt eq
not_less x nan u h = falsehood h
not_less x (inf s) u h = falsehood h
not_less nan (fin t n d) u h = refl
not_less (inf true) (fin t n d) u h = falsehood u
not_less (inf false) (fin t n d) u h = refl
not_less (fin s m e) (fin t n d) u h =
    let none : n * up d * down e ≡ 0 = ap (λ (x : ℕ). x * up d * down e) (zero_size t n d h) ∙ ap (λ (x : ℕ). x * down e) (zero-mul (up d)) ∙ zero-mul (down e) in
    below_zero s (m * up e * down d) (n * up d * down e) t none (scaled_zero s (m * up e) (down d) (scaled_zero s m (up e) u))

-- ---- the law

none_near : (width lo hi p : Float) → eq width zero_float ≡ true → inside lo hi p ≡ true → near width lo hi p ≡ false
unfolding inside near
none_near width lo hi p z i =
    let above = not_less (sub binary64 hi p) width (difference_up binary64 p hi (and_second (le lo p) (le p hi) i)) z in
    let under = not_less (sub binary64 p lo) width (difference_up binary64 lo p (and_first (le lo p) (le p hi) i)) z in
    rw (above, under) refl

is_true : (b : Bool) → T b → b ≡ true
is_true true h = refl
is_true false h = absurd h

only_out : (cfg : FuseConfig) (width : Float) (past : List Moment) (pos : List Float) (c : ℕ) (word : Word) → eq width zero_float ≡ true → Says cfg width past pos c word → word ≡ out
only_out cfg width past pos c out z s = refl
only_out cfg width past pos c within z s =
    let lo = place_of cfg.box_lo c in
    let hi = place_of cfg.box_hi c in
    let none = none_near width lo hi (place_of pos c) z (is_true (inside lo hi (place_of pos c)) s.inside) in
    absurd (rw none at s.near)

out_alike : (cfg : FuseConfig) (width other : Float) (past : List Moment) (pos : List Float) (c : ℕ) (word : Word) → word ≡ out → Says cfg width past pos c word → Says cfg other past pos c word
out_alike cfg width other past pos c word e s = let o : IsOut cfg past pos c = rw e at s in rw e o

pub zero_width : ZeroWidth
zero_width = record {
  none_near = none_near;
  only_out = λ cfg width history e z l. only_out cfg width l.past l.pos e.component e.word z l.says;
  out_alike = λ cfg width other history e q l.
      record {
        past = l.past;
        later = l.later;
        pos = l.pos;
        at = l.at;
        place = l.place;
        says = out_alike cfg width other l.past l.pos e.component e.word q l.says;
      };
}
