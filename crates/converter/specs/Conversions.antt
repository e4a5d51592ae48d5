-- A journal that is converted is a machine: what it makes of bytes in parts it makes of them at once.
use Prim.Native.Nat.{ℕ, ◌<◌}
use mathlib.Core.Path.{◌≡◌, refl, sym, ap, ap₂, ◌∙◌}
use mathlib.Core.List.{List, [], ◌++◌}
use mathlib.Core.Bool.{Bool, true, false, cond}
use native.Mathlib.Omega.{arith}
use lib.Dec.{eqb}
use lib.ListN.{length}
use borrow.Author.Tests.{eqb-true}
use Rattle.std.specs.Prelude.{Option, None, Some, option_map}
use Rattle.stream.specs.Stream.{wait, End, awaits, halted, telling, settled}
use Rattle.stream.proofs.Stream.{impossible, joined, settled_still, telling_telling}
use Rattle.journal_frames.specs.Frames.{Framed, bytes_of}
use Rattle.console.specs.Rounds.{buffer_room, MachineLaws}
use Rattle.journal_forms.specs.declared.Form.{Form}
use Rattle.journal_forms.specs.declared.Cause.{Cause}
use Rattle.journal_forms.specs.Forms.{other}
use Rattle.journal_forms.specs.Conversion.{on_form, number_of}
use Rattle.journal_forms.specs.Turns.{number_at, number_if, Rests}
use Rattle.journal_forms.proofs.Records.{form_machine, waits_short, some_number}
use Rattle.journal_forms.proofs.Turning.{bytes_append}
use Rattle.converter.specs.declared.Conversion.{Conversion}
use Rattle.converter.specs.Converter.{ConversionGoes, ConversionRests}

-- where there is no number, nothing is refused
pub none_is : (o : Option Cause) → None ≡ option_map number_of o → number_if o ≡ 0
none_is None e = refl
none_is (Some c) e = impossible cc

rest_waits : (a : Form) (s : List ℕ) (x : End Cause) → settled (on_form a (other a)) tt s ≡ record { state = tt; rest = s; told = []; end = x } → 0 ≡ number_at x → on_form a (other a) tt s ≡ wait
rest_waits a s awaits e z = rw e at (settled_still (on_form a (other a)) (form_machine a (other a)) tt s)
rest_waits a s (halted c) e z = absurd (omega (arith, some_number c))

-- where it only waits, it waits for the rest of a record
pub rests_short : (a : Form) (s : List ℕ) (n : ℕ) → n ≡ 0 → Rests a s n → length s < buffer_room
rests_short a s n z q = omega (arith, waits_short a (other a) s (rest_waits a s q.end q.rests (sym z ∙ q.number_is)))

-- what is made of some bytes is made first with more after them
pub more_bytes : (a : Form) (s : List ℕ) (told : List Framed) (s' t : List ℕ) → settled (on_form a (other a)) tt s ≡ telling told (settled (on_form a (other a)) tt s')
    → settled (on_form a (other a)) tt (s ++ t) ≡ telling told (settled (on_form a (other a)) tt (s' ++ t))
more_bytes a s told s' t e =
    let form = on_form a (other a) in
    let m = settled form tt s' in
    joined form (form_machine a (other a)) tt s t
    ∙ rw e (sym (telling_telling told m.told (settled form m.state (m.rest ++ t))))
    ∙ ap (telling told) (sym (joined form (form_machine a (other a)) tt s' t))

goes_still : (m : Conversion) (s : List ℕ) → ConversionGoes m s [] m s
unfolding bytes_of
goes_still m s = record { told = []; same = refl; goes = refl; text = refl }

goes_further : (m : Conversion) (s t : List ℕ) (m' : Conversion) (s' c t' : List ℕ) (m'' : Conversion) (s'' : List ℕ)
    → ConversionGoes m s t m' s' → ConversionGoes m' (s' ++ c) t' m'' s'' → ConversionGoes m (s ++ c) (t ++ t') m'' s''
goes_further m s t m' s' c t' m'' s'' x y =
    let form = on_form m.from (other m.from) in
    let further = rw x.same at y.goes in
    record {
      told = x.told ++ y.told;
      same = y.same ∙ x.same;
      goes = more_bytes m.from s x.told s' c x.goes ∙ ap (telling x.told) further ∙ telling_telling x.told y.told (settled form tt s'');
      text = ap₂ ◌++◌ x.text y.text ∙ sym (bytes_append x.told y.told);
    }

rests_wait : (m : Conversion) (s : List ℕ) → ConversionRests m s None → length s < buffer_room
rests_wait m s q = rests_short m.from s (number_if q.refused) (none_is q.refused q.number_is) q.rests

pub conversion_laws : MachineLaws ConversionGoes ConversionRests
conversion_laws = record { still = goes_still; further = goes_further; short = rests_wait }
