use Rattle.journal_reader.specs.State.{start_reader}
use Rattle.journal_records.specs.Body.{ack_of, head_of}
use Rattle.lictor_core.specs.Codes.{decision_of}
use Rattle.journal_records.specs.Little.{le_at}
use Rattle.journal_reader.proofs.waiting.Reader.start.Goals as goal

pub returns : goal.returns
unfolding start_reader ack_of head_of decision_of le_at
returns c = rw c.read_outcome.ensures
