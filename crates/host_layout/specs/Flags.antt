-- A flag as a number: 0 is no and 1 is yes, and the library gives no other.
-- Any other value is taken as the safe choice: yes where a yes tells a fault or has something
-- checked, no where a yes lets something through. In the run state, which the library alone writes,
-- it is yes. No paper and no Rust file has this: docs/DECISIONS.md, The library for C and Rust,
-- says why.
use Rattle.std.specs.Prelude.{Bool, cond, not, ℕ, eqb}

-- any number but 0 is a yes
unfoldable pub flag_of : ℕ → Bool
flag_of n = not (eqb n 0)

-- 1 alone is a yes
unfoldable pub sure_of : ℕ → Bool
sure_of n = eqb n 1

unfoldable pub flag_code : Bool → ℕ
flag_code b = cond b 1 0
