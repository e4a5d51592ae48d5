-- `narrow::widen` meets its contract. Assumes nothing.
use mathlib.Core.Path.{sym}
use mathlib.Core.Bool.{not}
use lib.Ieee.{binary32, binary64, of_bits, fits, is_nan}
use lib.Ieee.Bits.{of_bits-fits}
use lib.Ieee.Fits.{fits_widens, and_i}
use Rattle.binary32.proofs.Nans.{not_nan_at, no_nan}
use Rattle.binary32.proofs.Laws.{nan_widens}
use Rattle.binary32.proofs.widen.Goals as goal

pub returns-then-pattern-gt2139095040 : goal.returns-then-pattern-gt2139095040
returns-then-pattern-gt2139095040 c = sym (nan_widens c.args.pattern c.if-pattern-gt2139095040.true)

pub float_from_bits-number : goal.float_from_bits-number
float_from_bits-number c = not_nan_at binary32 c.args.pattern c.if-pattern-gt2139095040.false

pub float_to_float-result : goal.float_to_float-result
float_to_float-result c = let n = c.args.pattern in
    and_i (fits binary64 (of_bits binary32 n)) (not (is_nan (of_bits binary32 n))) (fits_widens (of_bits binary32 n) (of_bits-fits binary32 n)) (no_nan binary32 n c.if-pattern-gt2139095040.false)

pub float_to_bits-result : goal.float_to_bits-result
float_to_bits-result c = no_nan binary32 c.args.pattern c.if-pattern-gt2139095040.false
