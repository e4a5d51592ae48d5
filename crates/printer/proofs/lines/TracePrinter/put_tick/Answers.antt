use Rattle.printer.proofs.Rooms.{trace_there}
use Rattle.printer.proofs.lines.TracePrinter.put_tick.Goals as goal

pub returns : goal.returns
returns c h = trace_there _ _ _ h _ _ c.show_tick-end.ensures c.args.run.rt c.show_tick-end.auto.out _ _ c.show_trace.ensures
