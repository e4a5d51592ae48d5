use Rattle.std.proofs.Common.{◌-◌, ◌≤◌, refl, drop, length, arith, length-drop, length-take}
use Rattle.channels.proofs.Reading.{counted_by, came_none, came_is}
use Rattle.channels.proofs.Front.{not_both}
use Rattle.channels.proofs.intake.read_more.Goals as goal
use Rattle.channels.proofs.intake.read_more.Goals.{then-came-ne0, else-came-ne0}

pub returns-then-reads-ge-MOST_READS : goal.returns-then-reads-ge-MOST_READS
returns-then-reads-ge-MOST_READS c =
    came_none c.args.buf.now c.args.have _ c.min-front.ensures c.args.reads (omega arith) c.if-reads-ge-MOST_READS.true

pub returns : goal.returns
returns c =
    let b = c.args.buf.now in
    let a = c.min-front.result in
    let k : c.read-came.result ≤ length b - a = omega (arith, c.read-came.ensures, c.read-came.auto.buf, length-take (length b - a) (drop a b), length-drop a b) in
    elim c.if-came-ne0.branch [
      | then-came-ne0 w ↦
          rw w.last-is
          (came_is b c.args.have a c.min-front.ensures c.read-came.new.buf c.read-came.auto.buf c.read-came.result c.args.reads _ k refl refl
          (omega (arith, c.if-reads-ge-MOST_READS.false), refl) (λ z. not_both z))
      | else-came-ne0 w ↦
          rw w.last-is
          (came_is b c.args.have a c.min-front.ensures c.read-came.new.buf c.read-came.auto.buf c.read-came.result c.args.reads _ k refl refl
          (counted_by w.none_came-last.result c.args.reads.made w.none_came-last.ensures.0 c.if-reads-ge-MOST_READS.false) (λ z. w.if-came-ne0.false))
    ]
