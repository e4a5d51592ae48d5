-- `binary32::narrow` meets its contract. Assumes nothing.
use Rattle.std.proofs.Common.{rules, tests}
use mathlib.Core.Path.{sym}
use Rattle.binary32.proofs.Laws.{nan_narrows, tested}
use Rattle.binary32.proofs.narrow.Goals as goal

pub returns-then-bits-gt-INF : goal.returns-then-bits-gt-INF
returns-then-bits-gt-INF c = sym (nan_narrows c.args.pattern c.if-bits-gt-INF.true)

pub returns : goal.returns
returns c = rw (c.then_some.ensures, c.widen.ensures) (tested c.args.pattern c.guess.result _ (search rules) c.if-bits-gt-INF.false c.guess.ensures (λ e. search (rules, tests)) (λ e f. search (rules, tests)))
