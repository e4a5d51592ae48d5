use Rattle.std.proofs.Common.{◌≡◌, ◌∷◌, [], ap, ◌∙◌}
use mir.Syntax.{w32}
use mir.Val.{to_z, of_z}
use mir.ValLaws.{to_z-of_z}
use lib.IntN.{nat_abs, pos}
use lib.Signed.{lt_z}
use mathlib.Core.Bool.{true, false}
use Rattle.text.specs.Line.{push_of}
use Rattle.text.specs.Number.{decimal_of}
use Rattle.text.proofs.Lines.{push_append}
use Rattle.text.proofs.Signs.{below_zero, not_below}
use Rattle.text.proofs.Line.push_signed.Goals as goal
use Rattle.text.proofs.Line.push_signed.Goals.{then-minus, else-minus}

pub returns : goal.returns
returns c =
    let z = c.args.z in
    let l = c.args.self.now in
    let e : to_z w32 (of_z w32 z) ≡ z = to_z-of_z w32 z c.ranges.z in
    let size : c.from.result ≡ nat_abs z = c.from.ensures ∙ c.unsigned_abs.ensures.value ∙ ap nat_abs e in
    elim c.if-minus.branch [
      | then-minus w ↦
          let t : lt_z z (pos 0) ≡ true = rw e at w.if-minus.true in
          let on : c.if-minus.self ≡ push_of l (45 ∷ []) = w.self-is ∙ w.push.ensures in
          rw ((below_zero z t).1, push_append l (45 ∷ []) (decimal_of (nat_abs z))) (rw (on, size) at c.push_number.ensures)
      | else-minus w ↦
          let t : lt_z z (pos 0) ≡ false = rw e at w.if-minus.false in
          rw ((not_below z t).1) (rw (w.self-is, size) at c.push_number.ensures)
    ]
