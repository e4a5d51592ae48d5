-- Memory with text put into it. It joins the code of `text::memory` to lists of bytes, and states
-- nothing of the papers.
use Rattle.std.specs.Prelude.{ℕ, ◌+◌, Bool, cond, List, ◌≡◌, leb, length}
use Rattle.std.proofs.Math.Seq.{paste}

-- memory `out` with s at place n, up to place r
pub record Put (out : List ℕ) (n : ℕ) (s : List ℕ) (r : ℕ) (out' : List ℕ) : Type 0 where
  pub ends : r ≡ n + length s
  pub memory : out' ≡ paste out n s (length s)

-- where text s ends that is put after place n of so much memory, and the memory then; where there
-- is no room for all of s, nothing is put
unfoldable pub place_put : ℕ → ℕ → List ℕ → ℕ
place_put room n s = cond (leb (n + length s) room) (n + length s) n

unfoldable pub memory_put : List ℕ → ℕ → List ℕ → List ℕ
memory_put out n s = cond (leb (n + length s) (length out)) (paste out n s (length s)) out

-- whether so many bytes are left after the first n of so much memory
abbrev pub has_room : ℕ → ℕ → ℕ → Bool
has_room need n room = leb (n + need) room

-- the same of text that is put in parts: where fewer than `need` bytes are left after n, nothing is
-- put
unfoldable pub place_with : ℕ → ℕ → ℕ → List ℕ → ℕ
place_with need room n s = cond (has_room need n room) (n + length s) n

unfoldable pub memory_with : ℕ → List ℕ → ℕ → List ℕ → List ℕ
memory_with need out n s = cond (has_room need n (length out)) (paste out n s (length s)) out
