-- What is not there counts as 0, as the places do that nothing was copied to.
use Rattle.std.proofs.Common.{◌≡◌}
use Rattle.journal_records.proofs.Laws.{padded}
use Rattle.journal_records.proofs.little.filled_up.Goals as goal

pub returns : goal.returns
returns g c = λ k h. let e : c.copy_from_slice.new.self ≡ c.args.there.now = cc in rw e (padded c.args.there.now g.row.N k h)
