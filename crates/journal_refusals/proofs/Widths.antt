-- Which widths are refused, and why.
use mathlib.Core.Bool.{Bool, true, false, cond, not, ◌||◌}
use mathlib.Core.List.{List}
use mathlib.Core.Path.{◌≡◌, refl}
use Prim.Native.Nat.{ℕ}
use lib.Ieee.{nan, inf, binary64, of_bits, lt}
use Rattle.lictor_core.specs.FirstThat.{first_that}
use Rattle.journal_records.specs.Little.{float_at}
use Rattle.journal_records.specs.Kinds.{width_kind}
use Rattle.journal_refusals.specs.declared.Seen.{Seen}
use Rattle.journal_refusals.specs.declared.Refusal.TheVariants.{BeforeSettings, Again, BadFloat}
use Rattle.journal_refusals.specs.Causes.{before_settings, again, code_not_listed, size_outside, bad_width, float_outside, box_crossed, list_full, not_ready}
use Rattle.journal_refusals.specs.Table.{Accepted, Refused, order_rows, content_rows, whole_rows, whole_of}

-- both zeros are accepted, and neither a NaN nor an infinity is
pub zero_passes : bad_width (of_bits binary64 0) ≡ false
unfolding bad_width of_bits lt
zero_passes = refl

pub minus_zero_passes : bad_width (of_bits binary64 0x8000_0000_0000_0000) ≡ false
unfolding bad_width of_bits lt
minus_zero_passes = refl

pub nan_refused : bad_width nan ≡ true
unfolding bad_width
nan_refused = refl

pub infinity_refused : (s : Bool) → bad_width (inf s) ≡ true
unfolding bad_width
infinity_refused s = refl

-- What the table says of a width that is there whole, whatever waits for a tick: before the settings
-- it is refused with 8, again or late with 9, also where it is no good number, and then with 3.
pub width_judged : (seen : Seen) (b : List ℕ)
    → whole_of seen width_kind b
    ≡ cond (not seen.settings) (Refused BeforeSettings)
    (cond (seen.width || seen.underway) (Refused Again)
    (cond (bad_width (float_at b 0)) (Refused BadFloat) Accepted))
unfolding whole_of whole_rows order_rows content_rows first_that before_settings again code_not_listed size_outside float_outside box_crossed list_full not_ready
width_judged seen b = refl
