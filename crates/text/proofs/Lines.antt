-- What is pushed after the line of some bytes is the line of both; what is pushed after any line, as
-- the bytes that are written into its array.
use Prim.Native.Nat.{ℕ, zero, suc, ◌+◌, ◌-◌, ◌≤◌, ◌<◌, min}
use mathlib.Core.Path.{◌≡◌, refl, sym, ap, ◌∙◌}
use mathlib.Core.List.{List, [], ◌∷◌, ◌++◌, append-nil, append_assoc}
use native.Mathlib.Omega.{arith}
use native.Mathlib.Decide.{dec_le}
use borrow.Author.Tests.{lt-ltb, le-ltb}
use lib.ListN.{length, take, drop, get_or, replicate, take-append-drop, length-append, length-take, length-replicate}
use lib.Seq.{paste, paste-zero, paste-suc, take_all, take-take, take-suc, take-length, take-append-le, set-append_seam, take-append_seam}
use Rattle.std.proofs.lemmas.List.Edits.{take-paste}
use Rattle.text.specs.declared.Line.{Line}
use Rattle.text.specs.Line.{line_of, bytes_of, put_of, push_of}

-- bytes in two parts
pub push_append : (l : Line) (s t : List ℕ) → push_of l (s ++ t) ≡ push_of (push_of l s) t
unfolding push_of
push_append l [] t = refl
push_append l (a ∷ s) t = push_append (put_of l a) s t

pub line_is : (x y : Line) → x.text ≡ y.text → x.n ≡ y.n → x ≡ y
line_is x y p q = λ i. record { text = p i; n = q i }

-- room for one more: it takes the place of the first zero
put_room : (s : List ℕ) (b : ℕ) → length s < 256 → put_of (line_of s) b ≡ line_of (s ++ (b ∷ []))
unfolding line_of put_of
put_room s b h =
    let e : length (s ++ (b ∷ [])) ≡ length s + 1 = length-append s (b ∷ []) in
    let m : min (length s) 256 ≡ length s = omega arith in
    let z : 256 - length s ≡ suc (256 - (length s + 1)) = omega arith in
    rw (m, lt-ltb (length s) 256 h)
    (line_is _ _
    (rw (take_all 256 s (omega arith), take_all 256 (s ++ (b ∷ [])) (omega arith), z, e)
    (set-append_seam s 0 (replicate (256 - (length s + 1)) 0) b ∙ sym (append_assoc s (b ∷ []) (replicate (256 - (length s + 1)) 0))))
    (rw e (omega arith)))

put_full : (s : List ℕ) (b : ℕ) → 256 ≤ length s → put_of (line_of s) b ≡ line_of (s ++ (b ∷ []))
unfolding line_of put_of
put_full s b h =
    let e : length (s ++ (b ∷ [])) ≡ length s + 1 = length-append s (b ∷ []) in
    let m : min (length s) 256 ≡ 256 = omega arith in
    let z : 256 - length s ≡ 256 - (length s + 1) = omega arith in
    rw (m)
    (line_is _ _
    (rw (take-append-le 256 s (b ∷ []) h, e, z) refl)
    (rw e (omega arith)))

put_by : (s : List ℕ) (b : ℕ) → Dec (256 ≤ length s) → put_of (line_of s) b ≡ line_of (s ++ (b ∷ []))
put_by s b (yes h) = put_full s b h
put_by s b (no h) = put_room s b (omega arith)

pub put_line : (s : List ℕ) (b : ℕ) → put_of (line_of s) b ≡ line_of (s ++ (b ∷ []))
put_line s b = put_by s b (dec_le 256 (length s))

pub push_line : (s t : List ℕ) → push_of (line_of s) t ≡ line_of (s ++ t)
unfolding push_of
push_line s [] = ap line_of (sym (append-nil s))
push_line s (b ∷ t) = ap (λ (l : Line). push_of l t) (put_line s b) ∙ push_line (s ++ (b ∷ [])) t ∙ ap line_of (append_assoc s (b ∷ []) t)

-- the bytes that a writer of the first n bytes writes
pub line_text : (s : List ℕ) → length s ≤ 256 → take (line_of s).n (line_of s).text ≡ s
unfolding line_of
line_text s h =
    let m : min (length s) 256 ≡ length s = omega arith in
    rw (m, take_all 256 s h) (take-append_seam s (replicate (256 - length s) 0))

-- the first n bytes of a line's array, as they are lent
pub held_within : (l : Line) (s : List ℕ) → l ≡ line_of s → l.n ≤ length l.text
unfolding line_of
held_within l s e = rw (e, length-append (take 256 s) (replicate (256 - length s) 0), length-take 256 s, length-replicate) (omega arith)

pub held_text : (l : Line) (s : List ℕ) → length s ≤ 256 → l ≡ line_of s → take l.n l.text ≡ s
held_text l s h e = rw e (line_text s h)

-- as many bytes as there is room for are written behind those that are there
written : (l : Line) (s : List ℕ) (k : ℕ) → length l.text ≡ 256 → k ≤ length s → l.n + k ≤ 256 → push_of l (take k s) ≡ record { text = paste l.text l.n s k; n = l.n + k }
unfolding push_of put_of
written l s zero e h r = line_is _ _ (paste-zero l.text l.n s) (omega arith)
written l s (suc k) e h r =
    let now : push_of l (take k s) ≡ record { text = paste l.text l.n s k; n = l.n + k } = written l s k e (omega arith) (omega arith) in
    ap (push_of l) (take-suc s k 0 (omega arith))
    ∙ push_append l (take k s) (get_or s k 0 ∷ [])
    ∙ rw (now, lt-ltb (l.n + k) 256 (omega arith)) (line_is _ _ (paste-suc l.text l.n s k 0 (omega arith) (omega arith)) (omega arith))

-- a line without room stays as it is
pub push_full : (l : Line) (s : List ℕ) → 256 ≤ l.n → push_of l s ≡ l
unfolding push_of put_of
push_full l [] h = refl
push_full l (b ∷ s) h = rw (le-ltb l.n 256 h) (push_full l s h)

-- all bytes, and the first k of them, which fill the line
pub push_all : (l : Line) (s : List ℕ) → length l.text ≡ 256 → l.n + length s ≤ 256 → push_of l s ≡ record { text = paste l.text l.n s (length s); n = l.n + length s }
push_all l s e r = ap (push_of l) (sym (take-length s)) ∙ written l s (length s) e (omega arith) r

pub push_most : (l : Line) (s : List ℕ) (k : ℕ) → length l.text ≡ 256 → k ≤ length s → l.n + k ≡ 256 → push_of l s ≡ record { text = paste l.text l.n (take k s) k; n = 256 }
push_most l s k e h r =
    let full : push_of l (take k s) ≡ record { text = paste l.text l.n (take k s) k; n = 256 } = written l s k e h (omega arith) ∙ line_is _ _ (rw (take-take k k s (omega arith)) refl) r in
    ap (push_of l) (sym (take-append-drop k s)) ∙ push_append l (take k s) (drop k s) ∙ rw full (push_full _ (drop k s) (omega arith))

-- in bytes: a line of some bytes holds as many of them as it has room for
pub line_bytes : (s : List ℕ) → bytes_of (line_of s) ≡ take 256 s
unfolding line_of
line_bytes s =
    let m : min (length s) 256 ≡ length (take 256 s) = omega (arith, length-take 256 s) in
    rw m (take-append_seam (take 256 s) (replicate (256 - length s) 0))

-- in bytes: what is pushed onto a full line, what has room in a line, and what fills it
module _ (l : Line) (s : List ℕ) (e : length l.text ≡ 256) where
  taken_full : 256 ≤ l.n → bytes_of (push_of l s) ≡ bytes_of l ++ take (256 - length (bytes_of l)) s
  taken_full h =
      let z : 256 - length (bytes_of l) ≡ 0 = omega (arith, length-take l.n l.text) in
      rw (push_full l s h, z) (sym (append-nil (bytes_of l)))

  taken_all : l.n + length s ≤ 256 → bytes_of (push_of l s) ≡ bytes_of l ++ take (256 - length (bytes_of l)) s
  taken_all h =
      let few : length s ≤ 256 - length (bytes_of l) = omega (arith, length-take l.n l.text) in
      rw (push_all l s e h, take_all (256 - length (bytes_of l)) s few)
      (take-paste l.text l.n s (length s) (omega arith) (omega arith) ∙ ap (λ (t : List ℕ). bytes_of l ++ t) (take-length s))

  taken_most : (k : ℕ) → k ≤ length s → l.n + k ≡ 256 → bytes_of (push_of l s) ≡ bytes_of l ++ take (256 - length (bytes_of l)) s
  taken_most k h r =
      let z : 256 - length (bytes_of l) ≡ k = omega (arith, length-take l.n l.text) in
      rw (push_most l s k e h r, z, sym r)
      (take-paste l.text l.n (take k s) k (omega arith) (omega (arith, length-take k s))
      ∙ ap (λ (t : List ℕ). bytes_of l ++ t) (take-take k k s (omega arith)))

  taken_by : Dec (256 ≤ l.n) → Dec (l.n + length s ≤ 256) → bytes_of (push_of l s) ≡ bytes_of l ++ take (256 - length (bytes_of l)) s
  taken_by (yes h) d = taken_full h
  taken_by (no h) (yes m) = taken_all m
  taken_by (no h) (no m) = taken_most (256 - l.n) (omega arith) (omega arith)

-- in bytes: of what is pushed, as much comes after the line's own bytes as there is room for
pub push_take : (l : Line) (s : List ℕ) → length l.text ≡ 256 → bytes_of (push_of l s) ≡ bytes_of l ++ take (256 - length (bytes_of l)) s
push_take l s e = taken_by l s e (dec_le 256 l.n) (dec_le (l.n + length s) 256)
