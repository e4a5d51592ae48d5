-- Laws of `le_at`, once for every width, and of `floats_at`.
use Prim.Native.Nat.{ℕ, zero, suc, ◌+◌, ◌*◌, ◌^◌, ◌≤◌, ◌<◌}
use mathlib.Core.Path.{◌≡◌, sym, ap, ◌∙◌}
use mathlib.Core.List.{List, [], ◌∷◌, ◌++◌}
use native.Mathlib.Nat.{pow-suc, one-le-pow}
use Rattle.std.proofs.Math.Nat.{pow-succ', mul_left_comm}
use native.Mathlib.Omega.{arith}
use lib.ListN.{length, get_or, drop, replicate, get_or-append, get_or-eq_default}
use lib.Seq.{get_or-append_right}
use Rattle.std.proofs.Common.{inl, inr}
use Rattle.std.proofs.lemmas.Bool.{cases_lt}
use Rattle.std.proofs.lemmas.List.{get_or-drop, get_or-replicate}
use lib.Dec.{lit<}
use lib.Ieee.{Float}
use Rattle.std.specs.Int.{byte_worth, sum_through}
use Rattle.journal_records.specs.Little.{byte_at, le_at, float_at, floats_at}

-- w bytes are below 256 ^ k for every k from w on
pub le_at_under : (s : List ℕ) (at w k : ℕ) → ((i : ℕ) → byte_at s i < 256) → w ≤ k → le_at s at w < 256 ^ k
unfolding le_at
le_at_under s at zero k h p = one-le-pow k 256 (lit< tt)
le_at_under s at (suc w) zero h p = omega arith
le_at_under s at (suc w) (suc k) h p =
    let ih : le_at s (suc at) w < 256 ^ k = le_at_under s (suc at) w k h (omega arith) in
    omega (arith, h at, pow-suc 256 k)

weight : (b n : ℕ) → b * 256 ^ suc n ≡ 256 * (b * 256 ^ n)
weight b n = rw pow-succ' (mul_left_comm b 256 (256 ^ n))

-- one byte more at the end
le_at_last : (s : List ℕ) (at n : ℕ) → le_at s at (suc n) ≡ le_at s at n + byte_at s (at + n) * 256 ^ n
unfolding le_at
le_at_last s at zero = let e : at + 0 ≡ at = omega arith in rw e (omega arith)
le_at_last s at (suc n) =
    let e : suc at + n ≡ at + suc n = omega arith in
    let ih : le_at s (suc at) (suc n) ≡ le_at s (suc at) n + byte_at s (at + suc n) * 256 ^ n = rw e at (le_at_last s (suc at) n) in
    omega (arith, weight (byte_at s (at + suc n)) n)

-- the bytes that were read, each times its worth
pub le_at_read : (s : List ℕ) (at n : ℕ) (bytes : List ℕ) → ((i : ℕ) → i < suc n → get_or bytes i 0 ≡ byte_at s (at + i)) → sum_through (λ i. byte_worth i (get_or bytes i 0)) n ≡ le_at s at (suc n)
unfolding le_at
le_at_read s at zero bytes h = let e : at + 0 ≡ at = omega arith in rw (h 0 (omega arith), e) (omega arith)
le_at_read s at (suc n) bytes h =
    let ih = le_at_read s at n bytes (λ i p. h i (omega arith)) in
    rw (h (suc n) (omega arith), ih) (sym (le_at_last s at (suc n)))

-- where bytes are copied to the front of zeros, a place that none was copied to has 0
pub padded : (there : List ℕ) (n k : ℕ) → k < n → get_or (there ++ drop (length there) (replicate n 0)) k 0 ≡ get_or there k 0
padded there n k h = elim (cases_lt k (length there)) [
  | inl p ↦ get_or-append there _ 0 k p
  | inr p ↦ grind (arith, get_or-append_right there (drop (length there) (replicate n 0)) k 0 p, get_or-drop, get_or-replicate, get_or-eq_default)
]

-- one float more at the end
pub floats_more : (s : List ℕ) (at n : ℕ) → floats_at s at (suc n) ≡ floats_at s at n ++ (float_at s (at + n * 8) ∷ [])
unfolding floats_at
floats_more s at zero = ap (λ (m : ℕ). float_at s m ∷ []) (omega arith)
floats_more s at (suc n) =
    ap (λ (l : List Float). float_at s at ∷ l)
    (floats_more s (at + 8) n ∙ ap (λ (m : ℕ). floats_at s (at + 8) n ++ (float_at s m ∷ [])) (omega arith))
