-- The list of lines of a history (02-change-requests.md, Ask 7): which lines it has, and in what
-- order. What is claimed of every history is at the end of this file; `lines_listed` in
-- proofs/History proves it.
use Rattle.std.specs.Prelude.{Bool, ◌⊎◌, ◌≡◌, ℕ, ◌≤◌, ◌<◌, T, Float, length, replicate}
use mathlib.Core.List.{List, [], ◌∷◌, ◌++◌, Memᴰ}
use Rattle.lictor_core.specs.declared.envelope.FuseConfig.{FuseConfig}
use Rattle.lictor_core.specs.Sizes.{max_pos}
use Rattle.proximity_text.specs.Near.{inside_at, near_at, inside_of, none_inside}
use Rattle.proximity_text.specs.Lines.{word_line, word_text, lines_of}
use Rattle.proximity_text.specs.declared.Word.{Word}
use Rattle.proximity_text.specs.declared.Word.TheVariants.{Within as within, Out as out}

-- ---- a history

-- a clean tick with its t and its positions as they came; a fault tick; a reset
pub data Moment : Type 0 where
  clean : ℕ → List Float → Moment
  fault : Moment
  reset : Moment

-- the clean tick before what comes after `past`, no reset between, had these positions: after it
-- came fault ticks alone
pub record CleanBefore (past : List Moment) (pos : List Float) : Type 0 where
  pub older : List Moment
  pub t : ℕ
  pub faults : ℕ
  pub split : past ≡ older ++ (clean t pos ∷ replicate faults fault)

-- ---- what has a line, under the configuration cfg

abbrev pub Inside : FuseConfig → List Float → ℕ → Type 0
Inside cfg pos c = T (inside_at cfg.box_lo cfg.box_hi pos c)

-- component c of a clean tick's positions is inside and less than the width from a face
pub record IsWithin (cfg : FuseConfig) (width : Float) (pos : List Float) (c : ℕ) : Type 0 where
  pub component : c < cfg.pos_dim
  pub inside : Inside cfg pos c
  pub near : T (near_at width cfg.box_lo cfg.box_hi pos c)

-- it is outside, and the same component was inside at the clean tick before, no reset between
pub record IsOut (cfg : FuseConfig) (past : List Moment) (pos : List Float) (c : ℕ) : Type 0 where
  pub component : c < cfg.pos_dim
  pub outside : Inside cfg pos c → ⊥
  pub before : List Float
  pub is_before : CleanBefore past before
  pub was_inside : Inside cfg before c

abbrev pub Says : FuseConfig → Float → List Moment → List Float → ℕ → Word → Type 0
Says cfg width past pos c within = IsWithin cfg width pos c
Says cfg width past pos c out = IsOut cfg past pos c

-- ---- lines

-- a line: the place of its tick in the history, the component, the word, and the tick's t
pub record Entry : Type 0 where
  pub place : ℕ
  pub component : ℕ
  pub word : Word
  pub t : ℕ

-- it is a line of this history: at its place is a clean tick, of which it says what is so
pub record LineOf (cfg : FuseConfig) (width : Float) (history : List Moment) (e : Entry) : Type 0 where
  pub past : List Moment
  pub later : List Moment
  pub pos : List Float
  pub at : history ≡ past ++ (clean e.t pos ∷ later)
  pub place : e.place ≡ length past
  pub says : Says cfg width past pos e.component e.word

-- by tick, and of one tick by component
abbrev pub Earlier : Entry → Entry → Type 0
Earlier e d = (e.place < d.place) ⊎ ((e.place ≡ d.place) × (e.component < d.component))

-- e is earlier than all of these
abbrev pub EarlierThan : Entry → List Entry → Type 0
EarlierThan e [] = Unit {0}
EarlierThan e (d ∷ ds) = Earlier e d × EarlierThan e ds

-- each is earlier than all that come after it; so none is there twice
abbrev pub Rising : List Entry → Type 0
Rising [] = Unit {0}
Rising (e ∷ es) = EarlierThan e es × Rising es

-- these are all lines of the history, and no others, in order
pub record Listed (cfg : FuseConfig) (width : Float) (history : List Moment) (entries : List Entry) : Type 0 where
  pub every : (e : Entry) → LineOf cfg width history e → Memᴰ e entries
  pub only : (e : Entry) → Memᴰ e entries → LineOf cfg width history e
  pub rising : Rising entries

-- ---- as text

unfoldable pub list_text : List Entry → List ℕ
list_text [] = []
list_text (e ∷ es) = word_line (word_text e.word) e.t e.component ++ list_text es

-- what is put, moment by moment: the lines of a clean tick, which then says what was inside
unfoldable pub put_from : FuseConfig → Float → List Bool → List Moment → List ℕ
put_from cfg width was [] = []
put_from cfg width was (clean t pos ∷ h) =
    lines_of cfg (record { width = width; inside = was }) t pos ++ put_from cfg width (inside_of cfg pos) h
put_from cfg width was (fault ∷ h) = put_from cfg width was h
put_from cfg width was (reset ∷ h) = put_from cfg width none_inside h

-- ---- the claim

-- that is the text of all lines of the history
pub record PutListed (cfg : FuseConfig) (width : Float) (history : List Moment) : Type 0 where
  pub entries : List Entry
  pub text : put_from cfg width none_inside history ≡ list_text entries
  pub listed : Listed cfg width history entries

abbrev pub LinesListed : Type 0
LinesListed = (cfg : FuseConfig) → cfg.pos_dim ≤ max_pos
    → (width : Float) (history : List Moment) → PutListed cfg width history
