use Rattle.std.proofs.Common.{ℕ, get_or, rules}
use Rattle.std.specs.Float.{nan}
use Rattle.fmath.specs.Float.{clamp_of}
use Rattle.lictor_core.proofs.RowLaws.{row_is}
use Rattle.lictor_table.specs.Helpers.{latched_of}
use Rattle.lictor_fsm.proofs.hold.latched.Goals as goal

pub returns : goal.returns
unfolding latched_of
returns c = let a = c.args in
    row_is (λ (k : ℕ). clamp_of (get_or a.pos k nan) (get_or a.lo k nan) (get_or a.hi k nan)) _ _ _ _ c.first_by.ensures (λ i y l p. search rules)
