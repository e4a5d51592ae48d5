use mathlib.Core.Path.{sym, ◌∙◌}
use native.Mathlib.Omega.{arith}
use Rattle.journal_forms.proofs.Whole.{whole_inside, whole_room, whole_put, whole_refused}
use Rattle.journal_forms.proofs.convert_whole.Goals as goal

pub is_held-requires : goal.is_held-requires
is_held-requires c = let looked = c in
    let start = looked in
    whole_inside start.args.from start.args.kind start.args.body.now start.requires.0 start.requires.1 _ looked.runs_of-runs.ensures

pub put_body-n-requires : goal.put_body-n-requires
put_body-n-requires c = let tested = c in
    let looked = tested in
    let start = looked in
    let a = start.args in (
      whole_inside a.from a.kind a.body.now start.requires.0 start.requires.1 _ looked.runs_of-runs.ensures,
      whole_room a.from a.kind a.body.now start.requires.0 start.requires.1 _ looked.runs_of-runs.ensures a.out.now a.p.n start.requires.3,
      sym tested.is_held.ensures ∙ tested.if-is_held.true,
    )

pub returns-then-is_held : goal.returns-then-is_held
returns-then-is_held c = let put = c in
    let tested = put in
    let looked = tested in
    let start = looked in
    let a = start.args in
    whole_put a.from a.kind a.body.now start.requires.0 start.requires.1 _ looked.runs_of-runs.ensures a.p a.out.now start.requires.3
    (sym tested.is_held.ensures ∙ tested.if-is_held.true) _ _ put.put_body-n.ensures _ (omega arith)

pub returns : goal.returns
returns c = let tested = c in
    let looked = tested in
    let start = looked in
    let a = start.args in
    whole_refused a.from a.kind a.body.now start.requires.0 start.requires.1 _ looked.runs_of-runs.ensures a.p a.out.now
    (sym tested.is_held.ensures ∙ tested.if-is_held.false) _ c.stopped.ensures
