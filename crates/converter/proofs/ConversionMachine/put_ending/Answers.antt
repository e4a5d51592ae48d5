use native.Mathlib.Omega.{arith}
use Rattle.report.proofs.Fits.{refused_fits}
use Rattle.printer.proofs.Rooms.{line_put}
use Rattle.converter.proofs.ConversionMachine.put_ending.Goals as goal

pub returns-in-Some : goal.returns-in-Some
returns-in-Some c h = rw c.in-Some.is (line_put _ _ c.refused_line.ensures (refused_fits _ _) _ _ (omega (arith, h)) _ _ c.put_line.ensures)
