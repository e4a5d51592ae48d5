use Rattle.trace_text.proofs.Parts.{of_verdict, of_run, of_tally}
use Rattle.trace_text.proofs.trace_line.Goals as goal

pub returns-then-at-lt-VERDICT_LINES : goal.returns-then-at-lt-VERDICT_LINES
returns-then-at-lt-VERDICT_LINES c = of_verdict _ _ _ _ c.if-at-lt-VERDICT_LINES.true c.verdict_line.ensures

pub returns-then-at : goal.returns-then-at
returns-then-at c = of_run _ _ _ _ c.if-at-lt-VERDICT_LINES.false c.if-at.true c.run_line.ensures

pub returns : goal.returns
returns c = of_tally _ _ _ _ c.if-at.false c.tally_line.ensures
