use Rattle.std.proofs.Common.{◌∙◌}
use Rattle.lictor_core.proofs.RowLaws.{row_is}
use Rattle.lictor_detect.specs.Brake.{component, boxed_component, boxed_row, boxed_action}
use Rattle.lictor_detect.proofs.brake.boxed_action.Goals as goal

pub returns : goal.returns
unfolding boxed_action boxed_row boxed_component component
returns c = let cfg = c.args.cfg in
    row_is (boxed_component c.args.row cfg.box_lo cfg.box_hi cfg.pos_dim) _ _ _ _ c.first_by.ensures (λ i y l p. p) ∙ rw (c.no_row.ensures)
