use mathlib.Core.Path.{refl}
use native.Mathlib.Omega.{arith}
use Rattle.player.proofs.Feeding.{on_waits, on_refuses, on_begins, on_resets, on_ticks, on_width, end_within, body_within}
use Rattle.player.proofs.play_on.Goals as goal

pub overflow_add-end : goal.overflow_add-end
overflow_add-end g c = let q = c.read-progress.ensures in
    omega (arith, (end_within c.args.kinds.now g.P.Printer.shows c.args.p _ c.args.s.now c.requires.0 _ _ q.0 q.1).1, c.well_formed)

pub overflow_add-body : goal.overflow_add-body
overflow_add-body g c = let q = c.read-progress.ensures in
    let e = end_within c.args.kinds.now g.P.Printer.shows c.args.p _ c.args.s.now c.requires.0 _ _ q.0 q.1 in
    omega (arith, e.0, e.1, c.well_formed)

pub overflow_add-body-in-Begins : goal.overflow_add-body-in-Begins
overflow_add-body-in-Begins g c = let q = c.read-progress.ensures in
    let e = end_within c.args.kinds.now g.P.Printer.shows c.args.p _ c.args.s.now c.requires.0 _ _ q.0 q.1 in
    omega (arith, body_within c.args.kinds.now g.P.Printer.shows c.args.p _ c.args.s.now c.requires.0 _ _ q.0 q.1 c.in-Begins.is, e.1, c.well_formed)

pub slice_bounds-begin-count : goal.slice_bounds-begin-count
slice_bounds-begin-count g c = let q = c.read-progress.ensures in
    omega (arith, body_within c.args.kinds.now g.P.Printer.shows c.args.p _ c.args.s.now c.requires.0 _ _ q.0 q.1 c.in-Begins.is)

pub slice_bounds-begin-start : goal.slice_bounds-begin-start
slice_bounds-begin-start g c = let q = c.read-progress.ensures in
    let e = end_within c.args.kinds.now g.P.Printer.shows c.args.p _ c.args.s.now c.requires.0 _ _ q.0 q.1 in
    omega (arith, body_within c.args.kinds.now g.P.Printer.shows c.args.p _ c.args.s.now c.requires.0 _ _ q.0 q.1 c.in-Begins.is, e.1)

pub slice_bounds-begin-end : goal.slice_bounds-begin-end
slice_bounds-begin-end g c = let q = c.read-progress.ensures in
    let e = end_within c.args.kinds.now g.P.Printer.shows c.args.p _ c.args.s.now c.requires.0 _ _ q.0 q.1 in
    omega (arith, body_within c.args.kinds.now g.P.Printer.shows c.args.p _ c.args.s.now c.requires.0 _ _ q.0 q.1 c.in-Begins.is, e.1)

pub begin-requires : goal.begin-requires
begin-requires g c = c.requires.1

pub tick-requires : goal.tick-requires
tick-requires g c = c.requires.1

pub give_width-requires : goal.give_width-requires
give_width-requires g c = c.requires.1

pub returns-in-Waits : goal.returns-in-Waits
returns-in-Waits g c = let q = c.read-progress.ensures in
    rw c.stopped.ensures (on_waits _ _ c.args.p _ c.args.s.now c.requires.0 _ _ q.0 q.1 _ c.requires.1 c.in-Waits.is)

pub returns-in-Refuses : goal.returns-in-Refuses
returns-in-Refuses g c = let q = c.read-progress.ensures in
    rw c.stopped-in-Refuses.ensures (on_refuses _ _ c.args.p _ c.args.s.now c.requires.0 _ _ q.0 q.1 _ c.requires.1 _ c.in-Refuses.is)

pub returns-in-Begins : goal.returns-in-Begins
returns-in-Begins g c = let q = c.read-progress.ensures in
    on_begins _ _ c.args.p _ c.args.s.now c.requires.0 _ _ q.0 q.1 _ c.requires.1 c.in-Begins.is _ refl _ _ c.begin.ensures

pub returns-in-Resets : goal.returns-in-Resets
returns-in-Resets g c = let q = c.read-progress.ensures in
    on_resets _ _ c.args.p _ c.args.s.now c.requires.0 _ _ q.0 q.1 _ c.requires.1 c.in-Resets.is _ _ c.restart.ensures

pub returns-in-Ticks : goal.returns-in-Ticks
returns-in-Ticks g c = let q = c.read-progress.ensures in
    on_ticks _ _ c.args.p _ c.args.s.now c.requires.0 _ _ q.0 q.1 _ c.requires.1 _ c.in-Ticks.is _ _ c.tick.ensures

pub returns-in-GivesWidth : goal.returns-in-GivesWidth
returns-in-GivesWidth g c = let q = c.read-progress.ensures in
    on_width _ _ c.args.p _ c.args.s.now c.requires.0 _ _ q.0 q.1 _ c.requires.1 _ c.in-GivesWidth.is _ _ c.give_width.ensures
