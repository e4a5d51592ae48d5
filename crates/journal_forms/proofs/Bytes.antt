-- Little-endian numbers, written and read.
use Prim.Native.Nat.{ℕ, zero, suc, ◌+◌, ◌*◌, ◌/◌, ◌%◌, ◌^◌, ◌≤◌, ◌<◌}
use mathlib.Core.Path.{◌≡◌, refl, sym, ap, ap₂, ◌∙◌}
use mathlib.Core.List.{List, [], ◌∷◌, ◌++◌}
use native.Mathlib.Nat.{pow-suc}
use native.Mathlib.Omega.{arith}
use lib.ListN.{length, take, drop}
use lib.Seq.{get_or-drop}
use Rattle.journal_records.specs.Little.{le_at}
use Rattle.journal_forms.specs.Body.{le_bytes}
use Rattle.journal_forms.specs.Claims.{OfBytes}

-- a part of the bytes
pub le_at_drop : (s : List ℕ) (k at w : ℕ) → le_at (drop k s) at w ≡ le_at s (k + at) w
unfolding le_at
le_at_drop s k at zero = refl
le_at_drop s k at (suc w) =
    let e : k + suc at ≡ suc (k + at) = omega arith in
    ap₂ (λ (x y : ℕ). x + 256 * y) (get_or-drop k s at 0) (le_at_drop s k (suc at) w ∙ ap (λ (j : ℕ). le_at s j w) e)

pub le_at_front : (s : List ℕ) (at w : ℕ) → le_at (drop at s) 0 w ≡ le_at s at w
le_at_front s at w = let e : at + 0 ≡ at = omega arith in le_at_drop s at 0 w ∙ ap (λ (j : ℕ). le_at s j w) e

-- after a first byte
after_one : (x : ℕ) (s : List ℕ) (w : ℕ) → le_at (x ∷ s) 1 w ≡ le_at s 0 w
after_one x s w = sym (le_at_drop (x ∷ s) 1 0 w)

pub bytes_long : (w n : ℕ) → length (le_bytes w n) ≡ w
unfolding le_bytes
bytes_long zero n = refl
bytes_long (suc w) n = ap suc (bytes_long w (n / 256))

-- what was written is read
pub read_written : (w n : ℕ) (t : List ℕ) → n < 256 ^ w → le_at (le_bytes w n ++ t) 0 w ≡ n
unfolding le_at le_bytes
read_written zero n t h = omega arith
read_written (suc w) n t h =
    let u = le_bytes w (n / 256) ++ t in
    let ih : le_at u 0 w ≡ n / 256 = read_written w (n / 256) t (omega (arith, pow-suc 256 w)) in
    omega (arith, after_one (n % 256) u w)

-- what was read is written, of bytes
pub written_read : (s : List ℕ) (w : ℕ) → w ≤ length s → OfBytes s → le_bytes w (le_at s 0 w) ≡ take w s
unfolding le_at le_bytes
written_read s zero h b = refl
written_read [] (suc w) h b = absurd (omega arith)
written_read (x ∷ s) (suc w) h b =
    let y = le_at (x ∷ s) 1 w in
    let low : (x + 256 * y) % 256 ≡ x = omega (arith, b 0) in
    let high : (x + 256 * y) / 256 ≡ y = omega (arith, b 0) in
    ap₂ (λ (i j : ℕ). i ∷ le_bytes w j) low (high ∙ after_one x s w) ∙ ap (λ (l : List ℕ). x ∷ l) (written_read s w (omega arith) (λ i. b (suc i)))

-- bytes after some, and the first of them
pub bytes_drop : (k : ℕ) (s : List ℕ) → OfBytes s → OfBytes (drop k s)
bytes_drop k s b i = omega (arith, get_or-drop k s i 0, b (k + i))

pub bytes_take : (n : ℕ) (s : List ℕ) → OfBytes s → OfBytes (take n s)
bytes_take zero s b i = omega arith
bytes_take (suc n) [] b i = omega arith
bytes_take (suc n) (x ∷ s) b zero = b 0
bytes_take (suc n) (x ∷ s) b (suc i) = bytes_take n s (λ j. b (suc j)) i
