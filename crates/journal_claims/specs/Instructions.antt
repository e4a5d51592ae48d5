-- A journal as a list of instructions (01-scope.md, Journal): settings, reset and tick. What these
-- do to the fuse, and the events that they give: journal, specs/Events. A width is for no fuse
-- (journal, specs/Widths).
use Rattle.std.specs.Prelude.{List, ℕ}
use Rattle.stream.specs.Stream.{settled}
use Rattle.journal_reader.specs.Reading.{Instruction, on_bytes}
use Rattle.journal.specs.Journal.{start_state}
use Rattle.journal.specs.Widths.{for_fuse}

-- All that a journal tells up to its end, or up to the record that is refused.
-- The run state has no part in it (journal_reader, specs/Reading).
unfoldable pub told_in : List ℕ → List ℕ → List Instruction
told_in kinds s = (settled (on_bytes kinds) start_state s).told

-- of these, what the fuse obeys
abbrev pub instructions_of : List ℕ → List ℕ → List Instruction
instructions_of kinds s = for_fuse (told_in kinds s)
