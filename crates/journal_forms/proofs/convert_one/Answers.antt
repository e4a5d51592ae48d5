use lib.ListN.{drop}
use Rattle.journal_forms.specs.Forms.{other}
use native.Mathlib.Omega.{arith}
use Rattle.journal_forms.proofs.Whole.{framed_by, one_waits, one_unknown, whole_end, whole_asks, one_whole}
use Rattle.journal_forms.proofs.convert_one.Goals as goal

pub overflow_add-end : goal.overflow_add-end
overflow_add-end c = let known = c in
    let framed = known in
    let start = framed in
    omega (arith, whole_end start.args.from start.args.s.now start.args.p.at _ _ (framed_by start.args.from start.args.kinds.now (drop start.args.p.at start.args.s.now) _ _ start.requires.0 framed.frame_at.ensures known.in-Whole.is))

pub slice_bounds-convert_whole-end : goal.slice_bounds-convert_whole-end
slice_bounds-convert_whole-end c = let known = c in
    let framed = known in
    let start = framed in
    omega (arith, whole_end start.args.from start.args.s.now start.args.p.at _ _ (framed_by start.args.from start.args.kinds.now (drop start.args.p.at start.args.s.now) _ _ start.requires.0 framed.frame_at.ensures known.in-Whole.is))

pub convert_whole-requires : goal.convert_whole-requires
convert_whole-requires c = let known = c in
    let framed = known in
    let start = framed in
    let asks = whole_asks start.args.from start.args.s.now start.args.p.at _ _ (framed_by start.args.from start.args.kinds.now (drop start.args.p.at start.args.s.now) _ _ start.requires.0 framed.frame_at.ensures known.in-Whole.is) in
    (asks.0, asks.1, omega (arith, asks.2), start.requires.2)

pub returns-in-Waits : goal.returns-in-Waits
returns-in-Waits c = let told = c in
    let framed = told in
    let start = framed in
    one_waits start.args.from (other start.args.from) start.args.p (drop start.args.p.at start.args.s.now) start.args.out.now (framed_by start.args.from start.args.kinds.now (drop start.args.p.at start.args.s.now) _ _ start.requires.0 framed.frame_at.ensures told.in-Waits.is) _ c.stopped.ensures

pub returns-in-Unknown : goal.returns-in-Unknown
returns-in-Unknown c = let told = c in
    let framed = told in
    let start = framed in
    one_unknown start.args.from (other start.args.from) start.args.p (drop start.args.p.at start.args.s.now) start.args.out.now (framed_by start.args.from start.args.kinds.now (drop start.args.p.at start.args.s.now) _ _ start.requires.0 framed.frame_at.ensures told.in-Unknown.is) _ c.stopped-in-Unknown.ensures

pub returns-in-Whole : goal.returns-in-Whole
returns-in-Whole c = let whole = c in
    let known = whole in
    let framed = known in
    let start = framed in
    one_whole start.args.from start.args.s.now start.args.p.at _ _ (framed_by start.args.from start.args.kinds.now (drop start.args.p.at start.args.s.now) _ _ start.requires.0 framed.frame_at.ensures known.in-Whole.is) (other start.args.from) start.args.p start.args.out.now _ _ whole.convert_whole.ensures
