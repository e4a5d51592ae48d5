use mathlib.Core.List.{◌++◌}
use mathlib.Core.Path.{refl}
use Rattle.text.specs.Ascii.{ascii}
use Rattle.text.proofs.Lines.{push_append}
use Rattle.margin.specs.Margin.{margin_of}
use Rattle.report.specs.Lines.{fields_text, numbers_in, numbers_of, margin_text, tick_text}
use Rattle.report.proofs.push_tick.Goals as goal

pub returns : goal.returns
unfolding tick_text
returns c =
    let l = c.args.l.now in
    let v = c.args.v in
    let m = margin_text (margin_of v.brake_margin) in
    rw (
      c.push-3.ensures,
      c.push_margin.ensures,
      c.from.ensures,
      c.push-2.ensures,
      c.push_fields.ensures,
      c.numbers_in.ensures,
      c.push.ensures,
      push_append l (numbers_of v ++ ascii " " ++ m) (ascii "\n"),
      push_append l (numbers_of v ++ ascii " ") m,
      push_append l (numbers_of v) (ascii " "),
      push_append l (ascii "tick") (fields_text (numbers_in v)),
    )
    refl
