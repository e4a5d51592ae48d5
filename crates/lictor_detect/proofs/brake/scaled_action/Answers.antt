use Rattle.std.proofs.Common.{◌∙◌}
use Rattle.lictor_core.proofs.RowLaws.{row_is}
use Rattle.lictor_detect.specs.Brake.{scaled_component, scaled_row, scaled_action}
use Rattle.lictor_detect.proofs.brake.scaled_action.Goals as goal

pub returns : goal.returns
unfolding scaled_action scaled_row scaled_component
returns c =
    row_is (scaled_component c.args.vel c.args.k c.args.cfg.pos_dim) _ _ _ _ c.first_by.ensures (λ i y l p. p) ∙ rw (c.no_row.ensures)
