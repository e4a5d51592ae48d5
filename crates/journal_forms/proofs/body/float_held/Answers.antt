use Prim.Native.Nat.{ℕ}
use mathlib.Core.Path.{sym, ap, ◌∙◌}
use lib.Ieee.{binary32, binary64, of_bits, fits}
use Rattle.std.proofs.Common.{is_some}
use Rattle.journal_forms.proofs.Bytes.{le_at_front}
use Rattle.journal_forms.proofs.Held.{narrow_some}
use Rattle.journal_forms.proofs.body.float_held.Goals as goal

pub returns-in-Wide : goal.returns-in-Wide
returns-in-Wide c =
    rw c.in-Wide.is
    (c.is_some.ensures ∙ ap is_some c.narrow.ensures ∙ narrow_some _ ∙ ap (λ (n : ℕ). fits binary32 (of_bits binary64 n)) (c.le64.ensures ∙ sym (le_at_front c.args.s.now c.args.at 8)))
