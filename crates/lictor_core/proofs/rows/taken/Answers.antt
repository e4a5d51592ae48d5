use Rattle.std.proofs.Common.{◌≡◌, ◌∙◌, min, length, arith, rules}
use Rattle.lictor_core.specs.Rows.{place_of, taken_row}
use Rattle.lictor_core.proofs.RowLaws.{row_is}
use Rattle.lictor_core.proofs.rows.taken.Goals as goal

pub returns : goal.returns
unfolding taken_row
returns c =
    let a = c.args in
    let fits : min (min a.n (length a.s.now)) 8 ≡ min (min a.n 8) (length a.s.now) = omega arith in
    row_is (place_of a.s.now) _ _ _ _ c.first_by.ensures (λ i y l p. search rules) ∙ rw (c.min.ensures, fits)
