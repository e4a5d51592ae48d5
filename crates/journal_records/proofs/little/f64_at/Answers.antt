use mathlib.Core.Path.{◌∙◌, ap}
use lib.Ieee.{binary64, of_bits}
use Rattle.journal_records.specs.Little.{float_at}
use Rattle.journal_records.proofs.little.f64_at.Goals as goal

pub returns : goal.returns
unfolding float_at
returns c = c.double.ensures ∙ ap (of_bits binary64) c.le64.ensures
