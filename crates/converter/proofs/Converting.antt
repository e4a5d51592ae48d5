-- A step of a conversion: what is made of some bytes.
use Prim.Native.Nat.{ℕ, ◌≤◌}
use mathlib.Core.Path.{◌≡◌, refl}
use mathlib.Core.List.{List}
use native.Mathlib.Omega.{arith}
use lib.ListN.{length}
use Rattle.std.specs.Prelude.{Option, option_map}
use Rattle.console.specs.Rounds.{buffer_room, Steps}
use Rattle.journal_forms.specs.declared.Converted.{Converted}
use Rattle.journal_forms.specs.Conversion.{number_of}
use Rattle.journal_forms.specs.Turns.{PartConverted}
use Rattle.journal_forms.proofs.Turning.{followed}
use Rattle.converter.specs.declared.Conversion.{Conversion}
use Rattle.converter.specs.Converter.{ConversionGoes, ConversionRests}

pub step_is : (m : Conversion) (s out : List ℕ) → buffer_room ≤ length out → (p : Converted) (out' : List ℕ) → PartConverted m.from s out p out' → (n : Option ℕ) → n ≡ option_map number_of p.refused
    → Steps ConversionGoes ConversionRests m s (record { at = p.at; n = p.n; more = p.more; refused = n }) m out'
step_is m s out room p out' d n e =
    let o = followed m.from s out p out' d in
    record {
      within = o.within;
      fits = o.fits;
      makes = record { told = o.told; same = refl; goes = o.goes; text = o.text };
      further = o.further (omega (arith, room));
      stops = λ y. record { refused = p.refused; number_is = e; rests = o.stops y };
    }
