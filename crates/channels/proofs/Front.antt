-- The front of memory.
use Rattle.std.proofs.Common.{◌≡◌, ℕ, min, true, false, List, length, take, sym, ◌∙◌, arith, length-take, take_all, take-take}

-- as many of the first n bytes as there are
pub front_is : (b : List ℕ) (n : ℕ) → take n b ≡ take (min n (length b)) b
front_is b n = sym (take_all (min n (length b)) (take n b) (omega (arith, length-take n b))) ∙ take-take (min n (length b)) n b (omega arith)

-- a test that came out both ways
pub not_both : {X : Type 0} → true ≡ false → X
not_both z = absurd (let o : ◌≡◌ {A = ℕ} 0 1 = cc in omega arith)
