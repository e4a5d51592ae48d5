use mathlib.Core.Path.{ap}
use native.Mathlib.Omega.{arith}
use Rattle.console.specs.declared.rounds.Ended.{Ended}
use Rattle.console.specs.Rounds.{number_in, ended_with}
use Rattle.console.proofs.Numbers.{put_by_number}
use Rattle.console.proofs.rounds.run.Goals as goal

pub close-ended-requires : goal.close-ended-requires
close-ended-requires g c = let f = c.run_rounds-last.ensures.sound.fits in
    (omega arith, f.text, f.beside)

pub returns : goal.returns
unfolding ended_with
returns g c =
    let t = c.run_rounds-last.ensures in
    let last = c.run_rounds-last.result in
    let ended = c.close-ended.result in
    let closed = c.close-ended.ensures in
    let is = ap (λ (e : Ended). record { place = e.place; refused = number_in last; reads = e.reads; written = ended.written; phase = e.phase }) closed.is in
    record {
      round = last;
      buf = _;
      out = _;
      through = t;
      closed = record { put = put_by_number _ _ _ _ t.sound t.over _ _ _ _ closed.put; is = rw c.refused.ensures is };
    }
