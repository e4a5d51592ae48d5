-- Machines over bytes that come in parts: such a machine takes whole records off the front of the
-- bytes at hand, and waits where the last one is not there whole. A journal is such a list of bytes
-- (01-scope.md, Journal). Nothing here knows of records; specs/Reading gives the machine.
use Rattle.std.specs.Prelude.{ℕ, zero, suc, ◌+◌, ◌-◌, ◌≤◌, ◌<◌, Bool, true, false, List, [], ◌∷◌, ◌++◌, ◌≡◌, length, take, drop}

-- What a machine with states R does with the bytes at hand: it waits for more; it halts, for a
-- reason H, and changes nothing; or it goes on past n bytes in a new state, and may tell an E.
pub data Next (R E H : Type 0) : Type 0 where
  wait : Next R E H
  halt : H → Next R E H
  go : R → ℕ → Next R E H
  tell : R → ℕ → E → Next R E H

-- why it takes no more bytes
pub data End (H : Type 0) : Type 0 where
  awaits : End H
  halted : H → End H

-- where it settles: its state, the bytes that it did not take, all that it told, and why it takes
-- no more
pub record Settled (R E H : Type 0) : Type 0 where
  pub state : R
  pub rest : List ℕ
  pub told : List E
  pub end : End H

-- the same, with these told before
abbrev pub telling : {R E H : Type 0} → List E → Settled R E H → Settled R E H
telling es a = record { state = a.state; rest = a.rest; told = es ++ a.told; end = a.end }

abbrev pub after : {R E H : Type 0} → R → List ℕ → Next R E H → (R → ℕ → Settled R E H) → Settled R E H
after r s wait k = record { state = r; rest = s; told = []; end = awaits }
after r s (halt h) k = record { state = r; rest = s; told = []; end = halted h }
after r s (go r' n) k = k r' n
after r s (tell r' n e) k = telling (e ∷ []) (k r' n)

-- at most so many records
unfoldable pub settle : {R E H : Type 0} → (R → List ℕ → Next R E H) → ℕ → R → List ℕ → Settled R E H
settle next zero r s = record { state = r; rest = s; told = []; end = awaits }
settle next (suc f) r s = after r s (next r s) (λ r' n. settle next f r' (drop n s))

-- all records: there are no more of them than bytes
unfoldable pub settled : {R E H : Type 0} → (R → List ℕ → Next R E H) → R → List ℕ → Settled R E H
settled next r s = settle next (suc (length s)) r s

-- how far a machine goes without telling anything: the state there, the bytes up to there, and what
-- it does next
pub record Advanced (R E H : Type 0) : Type 0 where
  pub state : R
  pub used : ℕ
  pub next : Next R E H

abbrev pub past : {R E H : Type 0} → ℕ → Advanced R E H → Advanced R E H
past n a = record { state = a.state; used = n + a.used; next = a.next }

abbrev pub up_to : {R E H : Type 0} → R → Next R E H → (R → ℕ → Advanced R E H) → Advanced R E H
up_to r wait k = record { state = r; used = 0; next = wait }
up_to r (halt h) k = record { state = r; used = 0; next = halt h }
up_to r (go r' n) k = past n (k r' n)
up_to r (tell r' n e) k = record { state = r; used = 0; next = tell r' n e }

unfoldable pub advance : {R E H : Type 0} → (R → List ℕ → Next R E H) → ℕ → R → List ℕ → Advanced R E H
advance next zero r s = record { state = r; used = 0; next = wait }
advance next (suc f) r s = up_to r (next r s) (λ r' n. advance next f r' (drop n s))

unfoldable pub advanced : {R E H : Type 0} → (R → List ℕ → Next R E H) → R → List ℕ → Advanced R E H
advanced next r s = advance next (suc (length s)) r s

-- from one place of s to another by records that tell nothing
pub record Reached {R E H : Type 0} (next : R → List ℕ → Next R E H) (r : R) (s : List ℕ) (at : ℕ) (r' : R) (at' : ℕ) : Type 0 where
  pub from : at ≤ at'
  pub within : at' ≤ length s
  pub ahead : advanced next r (drop at s) ≡ past (at' - at) (advanced next r' (drop at' s))

-- whether a machine goes on by itself
abbrev pub goes_on : {R E H : Type 0} → Next R E H → Bool
goes_on wait = false
goes_on (halt h) = false
goes_on (go r n) = true
goes_on (tell r n e) = false

-- whether a machine takes a record, and how many bytes that has
abbrev pub takes : {R E H : Type 0} → Next R E H → Bool
takes wait = false
takes (halt h) = false
takes (go r n) = true
takes (tell r n e) = true

abbrev pub size : {R E H : Type 0} → Next R E H → ℕ
size wait = 0
size (halt h) = 0
size (go r n) = n
size (tell r n e) = n

-- What is asked of a machine: with no bytes it waits; what it takes is at least one byte, is there,
-- and is all that it looks at; and what it does with the bytes at hand, unless it waits, it does
-- with more after them.
pub record Machine {R E H : Type 0} (next : R → List ℕ → Next R E H) : Type 0 where
  pub idle : (r : R) → next r [] ≡ wait
  pub there : (r : R) (s : List ℕ) → takes (next r s) ≡ true → (0 < size (next r s)) × (size (next r s) ≤ length s)
  pub enough : (r : R) (s : List ℕ) → takes (next r s) ≡ true → next r (take (size (next r s)) s) ≡ next r s
  pub stands : (r : R) (s t : List ℕ) → (next r s ≡ wait → ⊥) → next r (s ++ t) ≡ next r s

-- feeding a list of parts, each with what was left over before it
unfoldable pub fed : {R E H : Type 0} → (R → List ℕ → Next R E H) → R → List ℕ → List (List ℕ) → Settled R E H
fed next r rest [] = settled next r rest
fed next r rest (s ∷ parts) =
    telling (settled next r (rest ++ s)).told (fed next (settled next r (rest ++ s)).state (settled next r (rest ++ s)).rest parts)

-- the parts as one
unfoldable pub whole : List (List ℕ) → List ℕ
whole [] = []
whole (s ∷ parts) = s ++ whole parts
