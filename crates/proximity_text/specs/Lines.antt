-- The lines of a clean tick (02-change-requests.md, Ask 7), one after the other.
use Rattle.std.specs.Prelude.{List, [], ◌++◌, ◌≡◌, ℕ, zero, suc, ◌*◌, Float, length, Option, None, Some}
use Rattle.text.specs.Ascii.{ascii}
use Rattle.text.specs.Line.{line_room}
use Rattle.text.specs.Memory.{place_with, memory_with}
use Rattle.report.specs.Lines.{field_text}
use Rattle.lictor_core.specs.declared.envelope.FuseConfig.{FuseConfig}
use Rattle.lictor_core.specs.Sizes.{max_pos}
use Rattle.proximity_text.specs.declared.Word.{Word}
use Rattle.proximity_text.specs.declared.Word.TheVariants.{Within as within, Out as out}
use Rattle.proximity_text.specs.declared.Before.{Before}
use Rattle.proximity_text.specs.Near.{dims_of, said_at}

-- a word, t and the component's number
abbrev pub word_line : List ℕ → ℕ → ℕ → List ℕ
word_line word t c = word ++ field_text t ++ field_text c ++ ascii "\n"

abbrev pub word_text : Word → List ℕ
word_text within = ascii "within"
word_text out = ascii "out"

unfoldable pub said_text : Option Word → ℕ → ℕ → List ℕ
said_text None t c = []
said_text (Some word) t c = word_line (word_text word) t c

-- the lines of the first n components, by rising number
unfoldable pub lines_up_to : Before → ℕ → List Float → List Float → List Float → ℕ → List ℕ
lines_up_to b t lo hi pos zero = []
lines_up_to b t lo hi pos (suc n) =
    lines_up_to b t lo hi pos n ++ said_text (said_at b.width b.inside lo hi pos n) t n

-- those of all
abbrev pub lines_of : FuseConfig → Before → ℕ → List Float → List ℕ
lines_of cfg b t pos = lines_up_to b t cfg.box_lo cfg.box_hi pos (dims_of cfg)

-- ---- in memory

-- the bytes that the lines of a tick can have at most
abbrev pub lines_room : ℕ
lines_room = max_pos * line_room

-- the lines of a tick, put after the first n bytes: where they end, and the bytes then
pub record LinesShown (cfg : FuseConfig) (b : Before) (t : ℕ) (pos : List Float)
    (out : List ℕ) (n r : ℕ) (out' : List ℕ) : Type 0 where
  pub ends : r ≡ place_with lines_room (length out) n (lines_of cfg b t pos)
  pub memory : out' ≡ memory_with lines_room out n (lines_of cfg b t pos)
