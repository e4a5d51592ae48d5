use mathlib.Core.Path.{ap, ◌∙◌}
use native.Mathlib.Omega.{arith}
use lib.ListN.{take}
use Rattle.std.specs.Int.{to_le_bytes, w64}
use Rattle.journal_forms.proofs.Putting.{number_put}
use Rattle.journal_forms.proofs.body.put_number.Goals as goal

pub returns-in-Wide : goal.returns-in-Wide
returns-in-Wide c = rw c.in-Wide.is (number_put _ _ 8 c.args.number _ (omega arith) (c.copy_from_slice.ensures.after ∙ c.to_le_bytes-bytes.ensures ∙ ap (to_le_bytes w64) (omega arith)))

pub returns-in-Narrow : goal.returns-in-Narrow
returns-in-Narrow c =
    rw c.in-Narrow.is
    (number_put _ _ 4 c.args.number _ (omega arith) (c.copy_from_slice-in-Narrow.ensures.after ∙ ap (take 4) (c.to_le_bytes-bytes.ensures ∙ ap (to_le_bytes w64) (omega arith))))
