use mathlib.Core.Path.{sym, ◌∙◌}
use native.Mathlib.Omega.{arith}
use Rattle.console.proofs.ByPhase.{plays_unless_waiting, waits_is}
use Rattle.console.proofs.Stepping.{room_left, round_read_lem, round_stepped_lem}
use Rattle.console.proofs.rounds.go_on.Goals as goal

pub read_round-requires : goal.read_round-requires
read_round-requires g c = let waits = waits_is c.args.r.phase (sym c.is_waiting.ensures ∙ c.if-is_waiting.true) in
    omega (arith, room_left _ _ g.met.M.Machine.laws _ c.args.r _ c.requires.0 waits, c.requires.2)

pub returns-then-is_waiting : goal.returns-then-is_waiting
returns-then-is_waiting g c = let waits = waits_is _ (sym c.is_waiting.ensures ∙ c.if-is_waiting.true) in
    round_read_lem _ _ g.met.M.Machine.laws _ c.args.r _ c.requires.0 waits _ _ (c.read_round.auto.buf ∙ sym c.requires.2) c.read_round.ensures

pub returns : goal.returns
returns g c = round_stepped_lem _ _ _ c.args.r _ c.requires.0.fits (plays_unless_waiting _ c.requires.1 (sym c.is_waiting.ensures ∙ c.if-is_waiting.false)) _ _ _ _ c.step_round.ensures
