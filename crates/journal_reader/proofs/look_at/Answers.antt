use mathlib.Core.Path.{sym, ◌∙◌}
use native.Mathlib.Omega.{arith}
use lib.ListN.{drop}
use Rattle.journal_frames.specs.declared.Frame.TheVariants.{Waits, Unknown}
use Rattle.journal_reader.proofs.Steps.{body_part, look_is, look_fits, look_whole}
use Rattle.journal_reader.proofs.look_at.Goals as goal

pub overflow_add-from : goal.overflow_add-from
overflow_add-from c = let a = c.args in
    omega (arith, look_fits a.kinds.now a.s.now a.at _ _ (sym c.frame_at.ensures ∙ c.in-Whole.is))

pub overflow_add-end : goal.overflow_add-end
overflow_add-end c = let a = c.args in
    omega (arith, look_fits a.kinds.now a.s.now a.at _ _ (sym c.frame_at.ensures ∙ c.in-Whole.is))

pub slice_bounds-look_in-end : goal.slice_bounds-look_in-end
slice_bounds-look_in-end c = let a = c.args in
    omega (arith, look_fits a.kinds.now a.s.now a.at _ _ (sym c.frame_at.ensures ∙ c.in-Whole.is))

pub returns-in-Waits : goal.returns-in-Waits
returns-in-Waits c = look_is _ _ _ Waits (sym c.in-Waits.is ∙ c.frame_at.ensures)

pub returns-in-Unknown : goal.returns-in-Unknown
returns-in-Unknown c = look_is _ _ _ Unknown (sym c.in-Unknown.is ∙ c.frame_at.ensures)

pub returns-in-Whole : goal.returns-in-Whole
returns-in-Whole c = let a = c.args in
    let x = c.in-Whole in
    look_whole a.kinds.now a.seen (drop a.at a.s.now) x.kind x.len _ _ (sym c.frame_at.ensures ∙ x.is) (body_part a.s.now a.at x.len) c.look_in.ensures
