-- The rules by which the fields of a tally go (tally.rs).
use Rattle.std.specs.Prelude.{Bool, true, false, cond, not, ◌&&◌, ◌||◌, List, [], ◌∷◌, ℕ, ◌+◌, ◌/◌, ◌%◌, ◌^◌, eqb, get_or, Float, None, Some, Option}
use Rattle.std.specs.Float.{nan}
use Rattle.fmath.specs.Float.{max_of}
use Rattle.lictor_core.specs.Codes.{is_state}
use Rattle.lictor_core.specs.Num.{sat_up}
use Rattle.lictor_core.specs.declared.state.FuseState.{FuseState}
use Rattle.lictor_core.specs.declared.state.FuseState.TheVariants as S
use Rattle.lictor_core.specs.declared.reason.ReasonCode.{ReasonCode}

-- ---- a count: one more where it moves, up to the largest number of 32 bits

unfoldable pub count : Bool → ℕ → ℕ
count moves n = cond moves (sat_up 32 n) n

-- Idle and Armed count as nominal
abbrev pub is_nominal : FuseState → Bool
is_nominal s = is_state s S.Idle || is_state s S.Armed

-- bit b of a mask
unfoldable pub bit_of : ℕ → ℕ → Bool
bit_of mask b = not (eqb (mask / 2 ^ b % 2) 0)

unfoldable pub count_bit : ℕ → ℕ → ℕ → ℕ
count_bit mask b n = count (bit_of mask b) n

-- each element of a list by the rule of its place, places counted from i
unfoldable pub each_from : {X : Type 0} → ℕ → (ℕ → X → X) → List X → List X
each_from i f [] = []
each_from i f (x ∷ l) = f i x ∷ each_from (i + 1) f l

-- a count for each bit of a mask
unfoldable pub count_bits : ℕ → List ℕ → List ℕ
count_bits mask l = each_from 0 (count_bit mask) l

-- ---- a mark: set once, where it happens for the first time

abbrev pub is_never : Option ℕ → Bool
is_never None = true
is_never (Some t) = false

unfoldable pub first : Bool → ℕ → Option ℕ → Option ℕ
first happens t m = cond (happens && is_never m) (Some t) m

-- the reason that is written with the mark m
unfoldable pub first_reason : Bool → Option ℕ → ReasonCode → Option ReasonCode → Option ReasonCode
first_reason happens m w old = cond (happens && is_never m) (Some w) old

-- ---- a maximum: by fmath's max; of the channels only those in the mask `live`

unfoldable pub most_at : ℕ → List Float → ℕ → Float → Float
most_at live z j m = cond (bit_of live j) (max_of m (get_or z j nan)) m

unfoldable pub most_live : ℕ → List Float → List Float → List Float
most_live live z l = each_from 0 (most_at live z) l
