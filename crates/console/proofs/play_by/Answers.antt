use Rattle.printer.proofs.Numbers.{shows_trace, shows_pages, shows_proximity, shows_lines}
use Rattle.console.proofs.play_by.Goals as goal

pub returns-then-shows-eq-TRACE : goal.returns-then-shows-eq-TRACE
returns-then-shows-eq-TRACE c = rw (shows_trace _ c.if-shows-eq-TRACE.true) c.play.ensures

pub returns-then-shows-eq-PAGES : goal.returns-then-shows-eq-PAGES
returns-then-shows-eq-PAGES c = rw (shows_pages _ c.if-shows-eq-PAGES.true) c.play-then-shows-eq-PAGES.ensures

pub returns-then-shows-eq-PROXIMITY : goal.returns-then-shows-eq-PROXIMITY
returns-then-shows-eq-PROXIMITY c = rw (shows_proximity _ c.if-shows-eq-PROXIMITY.true) c.play-then-shows-eq-PROXIMITY.ensures

pub returns-else-shows-eq-PROXIMITY : goal.returns-else-shows-eq-PROXIMITY
returns-else-shows-eq-PROXIMITY c = rw (shows_lines _ c.if-shows-eq-TRACE.false c.if-shows-eq-PAGES.false c.if-shows-eq-PROXIMITY.false) c.play-else-shows-eq-PROXIMITY.ensures
