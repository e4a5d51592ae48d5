use Rattle.console.proofs.Playing.{numbered, step_is}
use Rattle.console.proofs.JournalMachine.step.Goals as goal

pub returns : goal.returns
returns g c h = step_is g.P.Printer.shows _ c.kinds_taken-kinds.ensures c.args.self.now _ _ h _ _ _ c.feed-played.ensures _ (numbered _ _ _ _ _ (λ x y q. q) c.map.ensures.cases)
