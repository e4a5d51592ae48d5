use mathlib.Core.Path.{refl}
use native.Mathlib.Omega.{arith}
use Rattle.printer.specs.Printer.{showing}
use Rattle.player.specs.Play.{playing_from}
use Rattle.player.proofs.Feeding.{on_less, since_first, since_more, goes_on_is, fed_is}
use Rattle.player.proofs.feed.Goals as goal

pub loop-lists-init : goal.loop-lists-init
loop-lists-init g c = let a = c.args in
    since_first a.kinds.now (playing_from (showing g.P.Printer.shows a.notes) a.rd a.run a.lists.now) _ _

pub play_on-played-requires : goal.play_on-played-requires
play_on-played-requires g c = (c.loop-lists.invariant.plays.within, (goes_on_is _ _ _ _ c.goes_on.ensures c.loop-lists-test.true).1)

pub loop-lists-smaller : goal.loop-lists-smaller
loop-lists-smaller g c = let o = c.play_on-played.ensures in
    on_less _ _ _ o.plays.from o.plays.within _ _ (goes_on_is _ _ _ _ c.goes_on.ensures c.loop-lists-test.true).0 o.further

pub loop-lists-preserved : goal.loop-lists-preserved
loop-lists-preserved g c = since_more _ _ _ _ _ _ _ _ _ _ _ _ (omega arith) c.play_on-played.auto.out c.loop-lists.invariant c.play_on-played.ensures

pub shape_of-out : goal.shape_of-out
shape_of-out g c = c.loop-lists.invariant.long

pub returns : goal.returns
returns g c = let a = c.args in
    fed_is a.kinds.now (playing_from (showing g.P.Printer.shows a.notes) a.rd a.run a.lists.now) _ _ _ _ _ _ refl c.goes_on.ensures c.loop-lists-test.false c.loop-lists.invariant
