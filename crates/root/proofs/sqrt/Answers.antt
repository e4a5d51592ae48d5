-- `root::sqrt` meets its contract. Each way out is a law of `proofs/Whole.antt`. Assumes nothing.
use mathlib.Core.Path.{sym, ◌∙◌}
use Prim.Native.Nat.{◌<◌}
use native.Mathlib.Omega.{arith}
use lib.Ieee.{binary64, to_bits, div, of_bits}
use Rattle.std.proofs.lemmas.Float.{T_from_true}
use Rattle.root.proofs.Whole.{at_nan, at_minus_zero, at_below, at_plus_zero, at_infinity, pattern_lt, at_normal, at_low, field_zero, digits_pos, field_pos}
use Rattle.root.proofs.sqrt.Goals as goal

pub returns-then-is_nan : goal.returns-then-is_nan
returns-then-is_nan c = at_nan c.args.x (sym c.is_nan.ensures.value ∙ c.if-is_nan.true)

pub returns-then-bits : goal.returns-then-bits
returns-then-bits c = at_minus_zero c.args.x (T_from_true _ c.well_formed.0.1) c.if-bits.true

pub returns-then-bits-gt-MINUS_ZERO : goal.returns-then-bits-gt-MINUS_ZERO
unfolding div of_bits
returns-then-bits-gt-MINUS_ZERO c = at_below c.args.x (T_from_true _ c.well_formed.0.1) c.if-bits-gt-MINUS_ZERO.true

pub returns-then-bits-eq0 : goal.returns-then-bits-eq0
returns-then-bits-eq0 c = at_plus_zero c.args.x (T_from_true _ c.well_formed.0.1) c.if-bits-eq0.true

pub returns-then-bits-eq-INF : goal.returns-then-bits-eq-INF
returns-then-bits-eq-INF c = at_infinity c.args.x (T_from_true _ c.well_formed.0.1) c.if-bits-eq-INF.true

-- past the five tests the pattern is that of a finite number above zero
finite : (c : goal.Else-field-eq0) → to_bits binary64 c.args.x < 0x7ff0_0000_0000_0000
finite c = pattern_lt c.args.x (T_from_true _ c.well_formed.0.1) (sym c.is_nan.ensures.value ∙ c.if-is_nan.false) c.if-bits.false c.if-bits-gt-MINUS_ZERO.false c.if-bits-eq-INF.false

pub pattern-requires-else-field-eq0 : goal.pattern-requires-else-field-eq0
pattern-requires-else-field-eq0 c = omega (arith, finite c)

pub returns-then-field-eq0 : goal.returns-then-field-eq0
returns-then-field-eq0 c = let b = to_bits binary64 c.args.x in
    at_low c.args.x c.normed-n.result.m c.normed-n.result.up c.pattern.result (T_from_true _ c.well_formed.0.1) (digits_pos b c.if-field-eq0.true c.if-bits-eq0.false) (field_zero b c.if-field-eq0.true) c.normed-n.ensures c.pattern.ensures

pub returns-else-field-eq0 : goal.returns-else-field-eq0
returns-else-field-eq0 c = at_normal c.args.x c.pattern-else-field-eq0.result (T_from_true _ c.well_formed.0.1) (field_pos (to_bits binary64 c.args.x) c.if-field-eq0.false) (finite c.before) c.pattern-else-field-eq0.ensures
