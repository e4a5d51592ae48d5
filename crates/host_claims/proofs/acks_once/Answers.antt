use mathlib.Core.Path.{◌≡◌, refl}
use lib.ListN.{length}
use borrow.Author.Rules.{rules}
use Rattle.host_layout.specs.State.{control_in, state_in}
use Rattle.host_claims.proofs.HostAcks.{host_acks}
use Rattle.host_claims.proofs.acks_once.Goals as goal

pub returns : goal.returns
unfolding state_in control_in
returns c = let e : length c.args.rt.control.last_nonce ≡ 8 = search rules in
    (refl, host_acks c.args.rt e)
