-- The words of a line that is made of words with a blank between each two, and a newline, are
-- those words.
use Prim.Native.Nat.{ℕ}
use mathlib.Core.Path.{◌≡◌, refl, sym, ap, ◌∙◌}
use mathlib.Core.Bool.{Bool, true, false}
use mathlib.Core.List.{List, [], ◌∷◌, ◌++◌, append-nil, append_assoc}
use lib.Dec.{T, ltb}
use lib.Ieee.Fits.{and_l, and_r}
use Rattle.text.specs.Ascii.{ascii}
use Rattle.text.specs.Column.{blank, plain}
use Rattle.text.specs.Words.{words_from, after_blank, AllPlain}

is_true : (t : Bool) → T t → t ≡ true
is_true true h = refl
is_true false h = absurd h

-- a word, and the character that ends it
word_ends : (w s : List ℕ) (c : ℕ) (t : List ℕ) → T (plain s) → ltb blank c ≡ false → words_from w (s ++ (c ∷ t)) ≡ (w ++ s) ∷ words_from [] t
unfolding words_from plain
word_ends w [] c t h e = rw (e, append-nil w)
word_ends w (x ∷ s) c t h e =
    rw (is_true (ltb blank x) (and_l (ltb blank x) (plain s) h))
    (word_ends (w ++ (x ∷ [])) s c t (and_r (ltb blank x) (plain s) h) e ∙ ap (λ (y : List ℕ). y ∷ words_from [] t) (append_assoc w (x ∷ []) s))

-- one word more
pub after_last : (ws : List (List ℕ)) (w : List ℕ) → after_blank (ws ++ (w ∷ [])) ≡ after_blank ws ++ (blank ∷ w)
after_last [] w = ap (λ (y : List ℕ). blank ∷ y) (append-nil w)
after_last (x ∷ ws) w = ap (λ (y : List ℕ). blank ∷ (x ++ y)) (after_last ws w) ∙ ap (λ (y : List ℕ). blank ∷ y) (sym (append_assoc x (after_blank ws) (blank ∷ w)))

pub words_back : (s : List ℕ) (ws : List (List ℕ)) → T (plain s) → AllPlain ws → words_from [] (s ++ (after_blank ws ++ ascii "\n")) ≡ s ∷ (ws ++ ([] ∷ []))
unfolding words_from
words_back s [] h a = word_ends [] s 10 [] h refl
words_back s (w ∷ ws) h a =
    word_ends [] s blank ((w ++ after_blank ws) ++ ascii "\n") h refl
    ∙ ap (λ (y : List (List ℕ)). s ∷ y) (ap (words_from []) (append_assoc w (after_blank ws) (ascii "\n")) ∙ words_back w ws a.0 a.1)
