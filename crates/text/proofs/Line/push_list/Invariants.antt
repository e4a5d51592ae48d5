use Rattle.std.proofs.Common.{◌≡◌, map, take}
use Rattle.text.specs.Line.{push_of}
use Rattle.text.specs.Commas.{after_commas}
use Rattle.text.proofs.Line.push_list.Given as goal

abbrev pub invariant-loop-x : goal.invariant-loop-x
invariant-loop-x g l = l.self ≡ push_of l.initial.self (after_commas (map g.T.Printed.text (take l.x-index l.others)))
