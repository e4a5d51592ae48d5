-- The clamp cause by arithmetic (02-change-requests.md, Ask 4): the cause that `clamp_reason` finds
-- bit by bit has the number 3 plus the count of zero bits below the lowest soft trip.
-- Proved in proofs/ClampCause, `clamp_cause_lem`.
use Rattle.std.specs.Prelude.{◌≡◌, ◌⊎◌, ℕ, ◌+◌, ◌/◌, ◌%◌, ◌^◌, ◌<◌}
use Rattle.lictor_core.specs.Codes.{reason_code}
use Rattle.lictor_table.specs.Helpers.{clamp_reason}

-- bit i of n: 0 or 1
abbrev pub bit_at : ℕ → ℕ → ℕ
bit_at n i = n / 2 ^ i % 2

-- of the first k bits of n none is set
abbrev pub NoneSet : ℕ → ℕ → Type 0
NoneSet k n = (i : ℕ) → i < k → bit_at n i ≡ 0

-- of the first k bits of n the lowest that is set is bit j: below it there are j bits, all zero
pub record Lowest (k n j : ℕ) : Type 0 where
  pub within : j < k
  pub set : bit_at n j ≡ 1
  pub zeros : NoneSet j n

-- the first k bits of n and m are the same
abbrev pub SameBits : ℕ → ℕ → ℕ → Type 0
SameBits k n m = (i : ℕ) → i < k → bit_at n i ≡ bit_at m i

-- the soft trips are bits 0 to 5
abbrev pub soft_bits : ℕ
soft_bits = 6

-- Of all trips: one soft bit is the lowest, or none is set; the cause's number is 3 plus the zeros
-- below the lowest, and 8 where there is none; the bits from 6 on have no part in it.
pub record ClampCause (trips : ℕ) : Type 0 where
  pub either : ((j : ℕ) × Lowest soft_bits trips j) ⊎ NoneSet soft_bits trips
  pub lowest : (j : ℕ) → Lowest soft_bits trips j → reason_code (clamp_reason trips) ≡ 3 + j
  pub none : NoneSet soft_bits trips → reason_code (clamp_reason trips) ≡ 8
  pub higher : (other : ℕ) → SameBits soft_bits trips other → clamp_reason trips ≡ clamp_reason other
