-- Text put after text.
use Prim.Native.Nat.{ℕ, ◌≤◌, ◌+◌}
use mathlib.Core.Bool.{true, false}
use mathlib.Core.Path.{◌≡◌, refl, sym, ap, ap₂, ◌∙◌}
use mathlib.Core.List.{List, [], ◌++◌, append_assoc}
use native.Mathlib.Omega.{arith}
use borrow.Author.Tests.{le-leb}
use lib.ListN.{length, take, drop, length-append}
use lib.Seq.{paste, paste-zero, take-paste, drop-paste, take-length, length_paste_head, drop-drop}
use Rattle.text.specs.Memory.{Put, place_put, memory_put, has_room, place_with, memory_with}

pub put_none : (out : List ℕ) (n : ℕ) → Put out n [] n out
put_none out n = record { ends = (let e : n ≡ n + 0 = omega arith in e); memory = paste-zero out n [] }

-- where there is no room for s, and where there is
module _ (out : List ℕ) (n : ℕ) (s : List ℕ) where
  pub not_put : has_room (length s) n (length out) ≡ false → (n ≡ place_put (length out) n s) × (out ≡ memory_put out n s)
  unfolding place_put memory_put
  not_put h = rw h (refl, refl)

  pub all_put : has_room (length s) n (length out) ≡ true → (out' : List ℕ) → out' ≡ paste out n s (length s) → (n + length s ≡ place_put (length out) n s) × (out' ≡ memory_put out n s)
  unfolding place_put memory_put
  all_put h out' e = rw h (refl, e)

  -- what a caller learns who saw to the room
  pub put_there : n + length s ≤ length out → (r : ℕ) (out' : List ℕ) → (r ≡ place_put (length out) n s) × (out' ≡ memory_put out n s) → Put out n s r out'
  unfolding place_put memory_put
  put_there h r out' p = let y = le-leb (n + length s) (length out) h in record { ends = rw y at p.0; memory = rw y at p.1 }

-- text that is put where `need` bytes are left
module _ (need : ℕ) (out : List ℕ) (n : ℕ) (s : List ℕ) where
  pub no_room : has_room need n (length out) ≡ false → (n ≡ place_with need (length out) n s) × (out ≡ memory_with need out n s)
  unfolding place_with memory_with
  no_room h = rw h (refl, refl)

  pub with_room : has_room need n (length out) ≡ true → (r : ℕ) (out' : List ℕ) → Put out n s r out' → (r ≡ place_with need (length out) n s) × (out' ≡ memory_with need out n s)
  unfolding place_with memory_with
  with_room h r out' p = rw h (p.ends, p.memory)

  -- what a caller learns who saw to the room
  pub put_with : n + need ≤ length out → (r : ℕ) (out' : List ℕ) → (r ≡ place_with need (length out) n s) × (out' ≡ memory_with need out n s) → Put out n s r out'
  unfolding place_with memory_with
  put_with h r out' p = let y = le-leb (n + need) (length out) h in record { ends = rw y at p.0; memory = rw y at p.1 }

-- what is at the front then
pub put_shows : (out : List ℕ) (n : ℕ) (s : List ℕ) (r : ℕ) (out' : List ℕ) → n ≤ length out → Put out n s r out' → take r out' ≡ take n out ++ s
put_shows out n s r out' h p =
    ap₂ take p.ends p.memory ∙ take-paste out n s (length s) h (omega arith) ∙ ap (λ (x : List ℕ). take n out ++ x) (take-length s)

-- s, and t after it
pub put_on : (out : List ℕ) (n : ℕ) (s : List ℕ) (r : ℕ) (out' : List ℕ) (t : List ℕ) (r' : ℕ) (out'' : List ℕ) → n ≤ length out
    → Put out n s r out' → Put out' r t r' out'' → Put out n (s ++ t) r' out''
put_on out n s r out' t r' out'' h p q =
    let l = length-append s t in
    let back : drop (n + length s) out' ≡ drop (n + length s) out = ap (drop (n + length s)) p.memory ∙ drop-paste out n s (length s) h (omega arith) in
    let e : r + length t ≡ n + length s + length t = ap (λ (j : ℕ). j + length t) p.ends in
    let behind : drop (r + length t) out' ≡ drop (n + length (s ++ t)) out
    = ap (λ (j : ℕ). drop j out') e ∙ sym (drop-drop (length t) (n + length s) out') ∙ ap (drop (length t)) back ∙ drop-drop (length t) (n + length s) out
    ∙ ap (λ (j : ℕ). drop j out) (let f : n + length s + length t ≡ n + length (s ++ t) = omega (arith, l) in f) in
    record {
      ends = (let f : r' ≡ n + length (s ++ t) = omega (arith, l, p.ends, q.ends) in f);
      memory =
          q.memory
          ∙ ap₂ (λ (x y : List ℕ). x ++ y ++ drop (r + length t) out') (put_shows out n s r out' h p) (take-length t)
          ∙ ap₂ (λ (x y : List ℕ). x ++ y) (append_assoc (take n out) s t) behind
          ∙ ap (λ (x : List ℕ). take n out ++ x ++ drop (n + length (s ++ t)) out) (sym (take-length (s ++ t)));
    }

-- text ends within memory that kept its length
pub put_within : (out : List ℕ) (n : ℕ) (s : List ℕ) (r : ℕ) (out' : List ℕ) → n ≤ length out → Put out n s r out' → length out' ≡ length out → r ≤ length out'
put_within out n s r out' h p e =
    omega (arith, p.ends, ap length p.memory, length-append (take n out ++ take (length s) s) (drop (n + length s) out), length_paste_head out n s (length s) h (omega arith))
