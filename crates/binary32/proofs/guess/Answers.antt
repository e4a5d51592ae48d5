-- `narrow::guess` meets its contract: a lemma of Wide for each way out. Assumes nothing.
use borrow.Author.Rules.{rules}
use native.Mathlib.Omega.{arith}
use Rattle.binary32.proofs.Wide.{too_large, in_normal, few_le, in_few, too_small}
use Rattle.binary32.proofs.guess.Goals as goal

pub returns-then-exponent-ge1151 : goal.returns-then-exponent-ge1151
returns-then-exponent-ge1151 c = (search rules, too_large c.args.bits c.if-exponent-ge1151.true)

pub returns-then-exponent-ge897 : goal.returns-then-exponent-ge897
returns-then-exponent-ge897 c = (search rules, in_normal c.args.bits c.if-exponent-ge897.true c.if-exponent-ge1151.false)

pub returns-then-exponent-ge874 : goal.returns-then-exponent-ge874
returns-then-exponent-ge874 c = (omega (arith, few_le c.args.bits c.if-exponent-ge897.false), in_few c.args.bits c.if-exponent-ge874.true c.if-exponent-ge897.false)

pub returns : goal.returns
returns c = (search rules, too_small c.args.bits c.if-exponent-ge874.false)
