use mathlib.Core.Path.{ap}
use Rattle.text.specs.Ascii.{ascii}
use Rattle.text.specs.Line.{line_of}
use Rattle.report.specs.Lines.{end_text, stopped_of}
use Rattle.report.proofs.Laws.{two_fields}
use Rattle.report.proofs.end_line.Goals as goal

pub returns : goal.returns
unfolding end_text stopped_of
returns c = rw (c.fields_line.ensures, c.from.ensures, c.from-2.ensures) (ap line_of (two_fields (ascii "end") _ _))
