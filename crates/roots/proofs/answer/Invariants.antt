use mathlib.Core.Path.{◌≡◌}
use Rattle.roots.proofs.Laws.{Answering}
use Rattle.roots.proofs.answer.Given as goal

abbrev pub invariant-loop-line : goal.invariant-loop-line
invariant-loop-line l = (l.line-iterator.size ≡ 17) × Answering l.s l.initial.out l.out l.line-iterator.rest.now l.n
