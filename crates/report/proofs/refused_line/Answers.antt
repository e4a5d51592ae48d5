use mathlib.Core.Path.{ap}
use Rattle.text.specs.Ascii.{ascii}
use Rattle.text.specs.Line.{line_of}
use Rattle.report.specs.Lines.{refused_text}
use Rattle.report.proofs.Laws.{two_fields}
use Rattle.report.proofs.refused_line.Goals as goal

pub returns : goal.returns
unfolding refused_text
returns c = rw (c.fields_line.ensures, c.from.ensures) (ap line_of (two_fields (ascii "refused") _ _))
