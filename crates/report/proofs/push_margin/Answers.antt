use mathlib.Core.Path.{◌∙◌, ap}
use borrow.Author.Rules.{rules}
use mir.Syntax.{w32}
use mir.Val.{SFits}
use mir.ValLaws.{to_z-of_z}
use Rattle.text.specs.Line.{push_of}
use Rattle.text.specs.Number.{signed_of}
use Rattle.report.specs.Lines.{margin_text}
use Rattle.report.proofs.push_margin.Goals as goal

pub returns-in-Millis : goal.returns-in-Millis
unfolding margin_text
returns-in-Millis c =
    let fits : SFits w32 c.in-Millis.z = search rules in
    rw c.in-Millis.is (c.push_signed.ensures ∙ ap (λ z. push_of c.args.l.now (signed_of z)) (to_z-of_z w32 c.in-Millis.z fits))
