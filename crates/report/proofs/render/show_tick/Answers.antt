use mathlib.Core.Path.{◌≡◌, sym, ◌∙◌}
use mathlib.Core.List.{[]}
use Rattle.text.specs.Line.{bytes_of}
use Rattle.text.proofs.Lines.{push_line}
use Rattle.text.proofs.Puts.{no_room}
use Rattle.report.specs.Lines.{tick_text}
use Rattle.report.proofs.Fits.{tick_whole}
use Rattle.report.proofs.render.show_tick.Goals as goal

pub returns-then-not-has_room : goal.returns-then-not-has_room
returns-then-not-has_room c = no_room _ _ _ _ (sym c.has_room.ensures ∙ c.if-not-has_room.true)

pub returns : goal.returns
returns c =
    let v = c.args.v in
    let whole : bytes_of c.push_tick.new.l ≡ tick_text v = rw (c.push_tick.ensures, c.new-l.ensures, push_line [] (tick_text v)) (tick_whole v) in
    rw whole at c.show_line.ensures
