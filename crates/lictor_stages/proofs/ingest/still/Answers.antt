use Rattle.std.proofs.Common.{rules}
use lib.Ieee.{of_bits}
use Rattle.lictor_core.proofs.RowLaws.{row_is}
use Rattle.lictor_stages.specs.Ingest.{at_rest, still_row}
use Rattle.lictor_stages.proofs.ingest.still.Goals as goal

pub returns : goal.returns
unfolding still_row of_bits
returns c = row_is at_rest _ _ _ _ c.first_by.ensures (λ i y l p. search rules)
