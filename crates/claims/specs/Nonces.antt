-- The stored nonces: what each call makes of them (01-scope.md, Transitions, the accepted
-- acknowledgement; 02-change-requests.md, Ask 6).
-- Proved in proofs/Nonces, `nonces_told`.
use Rattle.std.specs.Prelude.{◌≡◌, not, List, ℕ, T, length, set, Option}
use Rattle.lictor_core.specs.declared.ack.VerifiedAck.{VerifiedAck}
use Rattle.lictor_core.specs.declared.fuse.FuseRt.{FuseRt}
use Rattle.lictor_core.specs.Cases.{by_option}
use Rattle.lictor_core.specs.Initial.{no_nonces, new_of, reset_of}
use Rattle.lictor_core.specs.Sizes.{operators}
use Rattle.claims.specs.Calls.{Call, settings_pass, tick_answer, took_of}

abbrev pub nonces_of : FuseRt → List ℕ
nonces_of r = r.control.last_nonce

-- Eight are stored, one for each slot. A definition has lists of any length, so it is said here:
-- every run state that the code can hold meets it, as `acks_once` promises (src/lib.rt), and every
-- call keeps it.
abbrev pub Eight : List ℕ → Type 0
Eight nonces = length nonces ≡ operators

-- with the nonce of what was consumed in its slot, and the other seven as they were
abbrev pub stored_in : List ℕ → Option VerifiedAck → List ℕ
stored_in nonces taken = by_option taken nonces (λ a. set nonces a.operator_slot a.nonce)

-- nothing else writes a nonce
pub record NoncesTold : Type 0 where
  -- a tick stores what it consumes (Calls, took_of)
  pub tick : (r : FuseRt) (c : Call) → T (settings_pass c) → nonces_of (tick_answer r c).rt ≡ stored_in (nonces_of r) (took_of r c)
  -- a refused call and a reset leave them all
  pub refused : (r : FuseRt) (c : Call) → T (not (settings_pass c)) → nonces_of (tick_answer r c).rt ≡ nonces_of r
  pub reset : (r : FuseRt) → nonces_of (reset_of r) ≡ nonces_of r
  -- settings make them zero
  pub settings : nonces_of new_of ≡ no_nonces
