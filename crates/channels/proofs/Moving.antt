-- Bytes that are moved down to the front of memory.
use Rattle.std.proofs.Common.{◌≡◌, ℕ, ◌+◌, ◌-◌, ◌≤◌, min, List, ◌++◌, length, take, drop, sym, ap, ◌∙◌, ap₂, arith, length-drop, drop_of_length-le, length-take, length-take-le, take-add, drop_at}
use native.Mathlib.Decide.{dec_le}
use Rattle.channels.specs.Intake.{moved_down}
use Rattle.channels.proofs.Front.{front_is}

-- the bytes that are moved
part_by : (b : List ℕ) (at m : ℕ) → m ≤ length b → Dec (at ≤ m) → take (m - at) (drop at b) ≡ drop at (take m b)
part_by b at m h (yes k) =
    let x : m ≡ at + (m - at) = omega arith in
    sym
    (ap (λ (j : ℕ). drop at (take j b)) x
    ∙ ap (drop at) (take-add at (m - at) b)
    ∙ drop_at (take at b) (take (m - at) (drop at b)) at (length-take-le at b (omega arith)))
part_by b at m h (no k) =
    let z : m - at ≡ 0 = omega arith in
    let l : length (take m b) ≤ at = omega (arith, length-take-le m b h) in
    ap (λ (j : ℕ). take j (drop at b)) z ∙ sym (drop_of_length-le (take m b) l)

module _ (b : List ℕ) (at have end : ℕ) (q : end ≡ min have (length b)) where
  pub moved_is : take (end - at) (drop at b) ++ drop (0 + (end - at)) b ≡ moved_down at have b
  unfolding moved_down
  moved_is =
      let f : take have b ≡ take end b = front_is b have ∙ ap (λ (j : ℕ). take j b) (sym q) in
      let s : take (end - at) (drop at b) ≡ drop at (take have b) = rw f (part_by b at end (omega (arith, q)) (dec_le at end)) in
      let n : length (drop at (take have b)) ≡ 0 + (end - at) = omega (arith, q, length-drop at (take have b), length-take have b) in
      ap₂ ◌++◌ s (ap (λ (j : ℕ). drop j b) (sym n))

  pub moved_none : end ≤ at → b ≡ moved_down at have b
  moved_none h = let z : end - at ≡ 0 = omega (arith, h) in rw z at moved_is
