use Rattle.report.proofs.Laws.{Traced}
use Rattle.report.proofs.render.put_trace.Given as goal

abbrev pub invariant-loop-k : goal.invariant-loop-k
invariant-loop-k l = Traced l.v l.rt l.initial.out l.n l.out l.at l.k
