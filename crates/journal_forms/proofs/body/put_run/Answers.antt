use Rattle.journal_forms.specs.Forms.{other}
use mathlib.Core.Path.{refl}
use Rattle.journal_forms.proofs.Putting.{run_first, run_second, run_all}
use Rattle.journal_forms.proofs.body.put_run.Goals as goal

pub put_floats-requires : goal.put_floats-requires
put_floats-requires c = let put = c in
    let start = put in
    let a = start.args in
    let copied = run_first a.from (other a.from) a.run a.s.now a.at start.requires.0 a.out.now a.n start.requires.1 _ refl _ _ put.put_part-end.ensures in
    run_second a.from (other a.from) a.run a.s.now a.at start.requires.0 a.out.now a.n start.requires.1 _ start.requires.2 _ refl _ _ copied put.put_part-end.auto.out

pub returns : goal.returns
returns c = let floats = c in
    let put = floats in
    let start = put in
    let a = start.args in
    let copied = run_first a.from (other a.from) a.run a.s.now a.at start.requires.0 a.out.now a.n start.requires.1 _ refl _ _ put.put_part-end.ensures in
    run_all a.from (other a.from) a.run a.s.now a.at start.requires.0 a.out.now a.n start.requires.1 _ refl _ _ copied _ _ floats.put_floats.ensures
