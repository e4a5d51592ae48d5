use Rattle.console.proofs.Playing.{numbered}
use Rattle.converter.proofs.Converting.{step_is}
use Rattle.converter.proofs.ConversionMachine.step.Goals as goal

pub returns : goal.returns
returns c h = step_is c.args.self.now _ _ h _ _ c.convert-converted.ensures _ (numbered _ _ _ _ _ (λ x y q. q) c.map.ensures.cases)
