use Rattle.console.proofs.phases.Phase.refused.Goals as goal

pub returns-in-InputOver : goal.returns-in-InputOver
returns-in-InputOver c = rw c.in-InputOver.is c.left_over.ensures
