-- Where a component of a position is (02-change-requests.md, Ask 7): inside the box or not,
-- close to a face or not; and what is said of it at a clean tick.
use Rattle.std.specs.Prelude.{Bool, false, cond, ◌&&◌, ◌||◌, List, [], ◌∷◌, ◌++◌, ℕ, zero, suc, min, Float, get_or, replicate, Option, None, Some}
use Rattle.std.specs.Float.{binary64}
use Rattle.std.specs.Float.Ieee.{sub, lt, le}
use Rattle.lictor_core.specs.declared.envelope.FuseConfig.{FuseConfig}
use Rattle.lictor_core.specs.Rows.{place_of}
use Rattle.lictor_core.specs.Sizes.{max_pos}
use Rattle.proximity_text.specs.declared.Word.{Word}
use Rattle.proximity_text.specs.declared.Word.TheVariants.{Within as within, Out as out}

-- ---- one component, taken alone

-- from one face to the other; on a face it is inside
unfoldable pub inside : Float → Float → Float → Bool
inside lo hi p = le lo p && le p hi

-- less than the width from a face; each difference is rounded once
unfoldable pub near : Float → Float → Float → Float → Bool
near width lo hi p = lt (sub binary64 hi p) width || lt (sub binary64 p lo) width

-- at most one of the two: `within` of one that is inside, and `out` of one that is not and was
unfoldable pub said_of : Float → Bool → Float → Float → Float → Option Word
said_of width was lo hi p = cond (inside lo hi p) (cond (near width lo hi p) (Some within) None) (cond was (Some out) None)

-- ---- a component of a tick, by its number c from 0; lo and hi are the faces of the box

-- how many there are: pos_dim, which the settings' check keeps at 8 at most
abbrev pub dims_of : FuseConfig → ℕ
dims_of cfg = min cfg.pos_dim max_pos

abbrev pub inside_at : List Float → List Float → List Float → ℕ → Bool
inside_at lo hi pos c = inside (place_of lo c) (place_of hi c) (place_of pos c)

abbrev pub near_at : Float → List Float → List Float → List Float → ℕ → Bool
near_at width lo hi pos c = near width (place_of lo c) (place_of hi c) (place_of pos c)

-- `was`: which components were inside at the clean tick before, no reset between
abbrev pub said_at : Float → List Bool → List Float → List Float → List Float → ℕ → Option Word
said_at width was lo hi pos c = said_of width (get_or was c false) (place_of lo c) (place_of hi c) (place_of pos c)

-- which of the first n components are inside
unfoldable pub inside_up_to : List Float → List Float → List Float → ℕ → List Bool
inside_up_to lo hi pos zero = []
inside_up_to lo hi pos (suc n) = inside_up_to lo hi pos n ++ (inside_at lo hi pos n ∷ [])

-- which of all eight are; those from pos_dim on are never asked for
abbrev pub inside_of : FuseConfig → List Float → List Bool
inside_of cfg pos = inside_up_to cfg.box_lo cfg.box_hi pos max_pos

-- none was, since there is no clean tick before
abbrev pub none_inside : List Bool
none_inside = replicate max_pos false
