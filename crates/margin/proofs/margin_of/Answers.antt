use Prim.Native.Nat.{ℕ, ◌+◌, ◌-◌, ◌*◌, ◌^◌, ◌<◌}
use mathlib.Core.Path.{◌≡◌, sym, ap, subst, ◌∙◌}
use mathlib.Core.Bool.{not}
use native.Mathlib.Omega.{arith}
use lib.Dec.{T}
use lib.Ieee.{Float, binary64, fits, to_bits, of_bits, is_nan}
use lib.Ieee.Bits.{of_bits-to_bits}
use Rattle.floats.proofs.Nan.{the_nan}
use Rattle.margin.specs.Margin.{nearest_whole, millis_of, margin_of}
use Rattle.margin.proofs.Double.{margin_far, margin_low, margin_mid, sign, exponent, digits}
use borrow.Author.Rules.{rules}
use Rattle.margin.proofs.margin_of.Goals as goal

pub returns-then-is_nan : goal.returns-then-is_nan
unfolding margin_of
returns-then-is_nan c = sym (ap margin_of (the_nan c.args.x (sym c.is_nan.ensures.value ∙ c.if-is_nan.true)))

pub returns-then-exponent-ge-KILOMETRE : goal.returns-then-exponent-ge-KILOMETRE
returns-then-exponent-ge-KILOMETRE c = let x = c.args.x in
    let f : T (fits binary64 x) = search rules in
    let b = to_bits binary64 x in
    let k : margin_of (of_bits binary64 b) ≡ margin_of x = ap margin_of (of_bits-to_bits binary64 x f) in
    let n : T (not (is_nan (of_bits binary64 b))) = subst (λ (v : Float). T (not (is_nan v))) (sym (of_bits-to_bits binary64 x f)) (rw (sym c.is_nan.ensures.value ∙ c.if-is_nan.false) tt) in
    c.far_of.ensures ∙ sym (margin_far b c.if-exponent-ge-KILOMETRE.true n) ∙ k

pub returns-then-exponent-eq0 : goal.returns-then-exponent-eq0
returns-then-exponent-eq0 c = let x = c.args.x in
    let f : T (fits binary64 x) = search rules in
    let b = to_bits binary64 x in
    let k : margin_of (of_bits binary64 b) ≡ margin_of x = ap margin_of (of_bits-to_bits binary64 x f) in
    c.millis_of.ensures ∙ ap (millis_of (sign b)) c.millis.ensures ∙ sym (margin_low b c.if-exponent-eq0.true) ∙ k

pub returns : goal.returns
returns c = let x = c.args.x in
    let f : T (fits binary64 x) = search rules in
    let b = to_bits binary64 x in
    let k : margin_of (of_bits binary64 b) ≡ margin_of x = ap margin_of (of_bits-to_bits binary64 x f) in
    let z = c.if-exponent-eq0.false in
    let p : 0 < exponent b = omega arith in
    let e : digits b + 4503599627370496 ≡ 4503599627370496 + digits b = omega arith in
    c.millis_of-2.ensures
    ∙ ap (millis_of (sign b)) (c.millis-2.ensures ∙ ap (λ (m : ℕ). nearest_whole (m * 1000) (2 ^ (1075 - exponent b))) e)
    ∙ sym (margin_mid b p c.if-exponent-ge-KILOMETRE.false)
    ∙ k
