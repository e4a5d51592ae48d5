use Rattle.std.proofs.Common.{◌≡◌, take}
use Rattle.text.specs.Line.{push_of}
use Rattle.report.specs.Lines.{fields_text}
use Rattle.report.proofs.push_fields.Given as goal

abbrev pub invariant-loop-x : goal.invariant-loop-x
invariant-loop-x l = l.l ≡ push_of l.initial.l (fields_text (take l.x-index l.numbers))
