use Prim.Native.Nat.{ℕ}
use mathlib.Core.Path.{refl, sym, ap, ◌∙◌}
use lib.Ieee.{binary32, binary64, of_bits, to_bits}
use Rattle.journal_forms.proofs.Bytes.{le_at_front}
use Rattle.journal_forms.proofs.Held.{narrow_at}
use Rattle.journal_forms.proofs.body.pattern_at.Goals as goal

pub unwrap-requires : goal.unwrap-requires
unwrap-requires c = rw (narrow_at c.args.s.now c.args.at _ _ c.narrow.ensures c.le64.ensures (rw c.in-Wide.is at c.requires)) refl

pub returns-in-Wide : goal.returns-in-Wide
returns-in-Wide c =
    let e = sym c.unwrap.ensures ∙ narrow_at c.args.s.now c.args.at _ _ c.narrow.ensures c.le64.ensures (rw c.in-Wide.is at c.requires) in
    rw c.in-Wide.is (cc)

pub returns-in-Narrow : goal.returns-in-Narrow
returns-in-Narrow c =
    rw c.in-Narrow.is
    (c.widen.ensures ∙ ap (λ (n : ℕ). to_bits binary64 (of_bits binary32 n)) (c.le32.ensures ∙ sym (le_at_front c.args.s.now c.args.at 4)))
