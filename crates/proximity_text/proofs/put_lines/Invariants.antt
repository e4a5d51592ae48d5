use Rattle.proximity_text.proofs.Laws.{Lined}
use Rattle.proximity_text.proofs.put_lines.Given as goal

abbrev pub invariant-loop-c : goal.invariant-loop-c
invariant-loop-c l = Lined l.before l.t l.lo l.hi l.pos l.dims l.initial.out l.n l.out l.at l.c
