use native.Mathlib.Omega.{arith}
use mathlib.Core.Path.{refl}
use Rattle.report.proofs.Fits.{refused_fits}
use Rattle.printer.specs.Printer.{closing_text, ending_by}
use Rattle.printer.proofs.Rooms.{closing_fits, closed_room, closed_then, line_put, ending_not_put}
use Rattle.printer.proofs.ended.Goals as goal

pub returns-then-out-lt-ENDING_ROOM : goal.returns-then-out-lt-ENDING_ROOM
returns-then-out-lt-ENDING_ROOM g c = ending_not_put _ _ (omega arith)

pub returns-in-Some : goal.returns-in-Some
unfolding ending_by
returns-in-Some g c = let s = closing_text g.P.Printer.shows c.args.notes in
    let fits = closing_fits g.P.Printer.shows c.args.notes in
    let q = c.put_closing-closed.ensures (omega arith) in
    closed_then s _ fits (omega arith) _ _ q _ _ (rw c.in-Some.is refl) _ _
    (line_put _ _ c.refused_line.ensures (refused_fits _ _) _ _ (closed_room s _ fits (omega arith) _ _ q c.put_closing-closed.auto.out) _ _ c.put_line.ensures)

pub returns-in-None : goal.returns-in-None
unfolding ending_by
returns-in-None g c = let sh = g.P.Printer.shows in
    let s = closing_text sh c.args.notes in
    let fits = closing_fits sh c.args.notes in
    let q = c.put_closing-closed.ensures (omega arith) in
    closed_then s _ fits (omega arith) _ _ q _ _ (rw c.in-None.is refl) _ _ (c.put_end.ensures (closed_room s _ fits (omega arith) _ _ q c.put_closing-closed.auto.out))
