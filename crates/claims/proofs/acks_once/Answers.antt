use mathlib.Core.Path.{refl}
use borrow.Author.Rules.{rules}
use Rattle.claims.specs.Nonces.{nonces_of, Eight}
use Rattle.claims.proofs.Nonces.{acks_from}
use Rattle.claims.proofs.acks_once.Goals as goal

pub returns : goal.returns
returns c = let e : Eight (nonces_of c.args.rt) = search rules in
    (refl, e, acks_from c.args.rt e)
