use Prim.Native.Nat.{◌≤◌}
use mathlib.Core.Path.{◌≡◌}
use native.Mathlib.Omega.{arith}
use lib.ListN.{length-take}
use Rattle.text.specs.Line.{line_room}
use Rattle.trace_text.specs.Trace.{trace_count}
use Rattle.text.proofs.Puts.{put_there}
use Rattle.report.proofs.Laws.{traced_none, traced_more, line_most}
use Rattle.report.proofs.render.put_trace.Goals as goal

pub loop-k-init : goal.loop-k-init
loop-k-init c = traced_none _ _ _ _

pub loop-k-preserved : goal.loop-k-preserved
loop-k-preserved c = let m = c.loop-k.invariant in
    let line = c.trace_line in
    let put = c.put_line-at in
    let most : line.result.n ≤ line_room = rw line.ensures (line_most _) in
    let p = put_there _ _ _ (omega (arith, m.few, m.long, most, length-take line.result.n line.result.text)) _ _ put.ensures in
    traced_more _ _ _ _ _ _ _ _ _ _ (omega arith) put.auto.out line.ensures p m

pub shape_of-out : goal.shape_of-out
shape_of-out c = c.loop-k.invariant.long

pub returns : goal.returns
returns c =
    let e : c.loop-k.k ≡ trace_count = omega (arith, c.loop-k.auto.k-end) in
    rw e at c.loop-k.invariant.so_far
