-- A width of zero, of either sign (02-change-requests.md, Ask 7): no component is less than that from
-- a face, so there is no `within`; `out` does not ask for the width.
-- `zero_width` in proofs/ZeroWidth proves it.
use Rattle.std.specs.Prelude.{true, false, List, ◌≡◌, Float}
use Rattle.std.specs.Float.Ieee.{eq}
use Rattle.lictor_core.specs.declared.envelope.FuseConfig.{FuseConfig}
use Rattle.lictor_core.specs.Initial.{zero_float}
use Rattle.proximity_text.specs.Near.{inside, near}
use Rattle.proximity_text.specs.declared.Word.TheVariants.{Out as out}
use Rattle.proximity_text.specs.History.{Moment, Entry, LineOf}

pub record ZeroWidth : Type 0 where
  -- of all values
  pub none_near : (width lo hi p : Float)
      → eq width zero_float ≡ true → inside lo hi p ≡ true → near width lo hi p ≡ false
  -- every line of a history is an `out`
  pub only_out : (cfg : FuseConfig) (width : Float) (history : List Moment) (e : Entry)
      → eq width zero_float ≡ true → LineOf cfg width history e → e.word ≡ out
  -- which are those that it has with any other width
  pub out_alike : (cfg : FuseConfig) (width other : Float) (history : List Moment) (e : Entry)
      → e.word ≡ out → LineOf cfg width history e → LineOf cfg other history e
