use mathlib.Core.Path.{refl}
use Rattle.trace_text.proofs.Codes.{state_is, reason_is, source_is}
use Rattle.report.proofs.numbers_in.Goals as goal

pub returns : goal.returns
returns c = rw (state_is c.args.v.state, reason_is c.args.v.reason, source_is c.args.v.action_src, c.from.ensures, c.from-2.ensures, c.from-3.ensures) refl
