use mathlib.Core.Path.{refl, sym, ◌∙◌}
use native.Mathlib.Omega.{arith}
use Rattle.console.proofs.Stepping.{past_first, sound_first, past_on}
use Rattle.console.proofs.rounds.run_rounds.Goals as goal

pub loop-streams-init : goal.loop-streams-init
loop-streams-init g c =
    (past_first _ _ g.met.M.Machine.laws _ _ _ _ c.none.ensures c.nothing.ensures, sound_first _ _ _ _ _ c.none.ensures c.nothing.ensures, refl, refl)

pub go_on-round-requires : goal.go_on-round-requires
go_on-round-requires g c = let i = c.loop-streams.invariant in
    (i.1, sym c.is_going.ensures ∙ c.loop-streams-test.true, c.requires.0 ∙ sym i.2, omega (arith, i.3, c.requires.1))

pub loop-streams-smaller : goal.loop-streams-smaller
loop-streams-smaller g c = c.go_on-round.ensures.less

pub loop-streams-preserved : goal.loop-streams-preserved
loop-streams-preserved g c = let i = c.loop-streams.invariant in
    let n = c.go_on-round.ensures in
    (past_on _ _ g.met.M.Machine.laws _ _ _ _ _ _ _ i.0 n, n.sound, c.go_on-round.auto.buf ∙ i.2, c.go_on-round.auto.out ∙ i.3)

pub shape_of-buf : goal.shape_of-buf
shape_of-buf g c = c.loop-streams.invariant.2

pub shape_of-out : goal.shape_of-out
shape_of-out g c = c.loop-streams.invariant.3

pub returns : goal.returns
returns g c = let i = c.loop-streams.invariant in
    record { past = i.0; sound = i.1; over = sym c.is_going.ensures ∙ c.loop-streams-test.false }
