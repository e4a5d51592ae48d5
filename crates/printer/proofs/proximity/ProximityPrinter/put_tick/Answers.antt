use mathlib.Core.Path.{sym, ◌∙◌}
use Rattle.printer.proofs.Rooms.{fault_lines, no_width_lines, some_tick_lines}
use Rattle.printer.proofs.proximity.ProximityPrinter.put_tick.Goals as goal

pub returns-in-Some : goal.returns-in-Some
returns-in-Some c h = let a = c.args in
    some_tick_lines a.notes.measure a.pos.now a.guard a.verdict a.run.config _ _ (sym c.is_clean.ensures ∙ c.if-is_clean.true) _ c.in-Some.is h _ _ c.show_lines.ensures

pub returns-in_default : goal.returns-in_default
returns-in_default c h = let a = c.args in
    fault_lines a.notes.measure a.pos.now a.guard a.verdict a.run.config _ _ (sym c.is_clean.ensures ∙ c.if-is_clean.false)

pub returns-in_default-2 : goal.returns-in_default-2
returns-in_default-2 c h = let a = c.args in
    no_width_lines a.notes.measure a.pos.now a.guard a.verdict a.run.config _ _ c.in_default.is
