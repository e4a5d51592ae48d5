-- The words of a line: what is between its blanks, and before its newline. By them a line that was
-- printed is read back.
use Rattle.std.specs.Prelude.{ℕ, cond, List, [], ◌∷◌, ◌++◌, ltb, T, get_or}
use Rattle.text.specs.Column.{blank, plain}

-- w is the word that has begun; a blank or a newline ends it
unfoldable pub words_from : List ℕ → List ℕ → List (List ℕ)
words_from w [] = w ∷ []
words_from w (c ∷ s) = cond (ltb blank c) (words_from (w ++ (c ∷ [])) s) (w ∷ words_from [] s)

-- the word i of a line, from 0
abbrev pub word_at : ℕ → List ℕ → List ℕ
word_at i s = get_or (words_from [] s) i []

-- words, each after a blank
abbrev pub after_blank : List (List ℕ) → List ℕ
after_blank [] = []
after_blank (w ∷ ws) = blank ∷ (w ++ after_blank ws)

-- no word has a blank or a newline
abbrev pub AllPlain : List (List ℕ) → Type 0
AllPlain [] = Unit {0}
AllPlain (w ∷ ws) = T (plain w) × AllPlain ws
