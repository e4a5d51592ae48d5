-- Settings are accepted exactly where the number of their check is 0.
use mathlib.Core.Path.{◌≡◌, refl}
use lib.Dec.{eqb}
use Rattle.std.proofs.Common.{Result, Ok, Err}
use Rattle.lictor_settings.specs.declared.SettingsFault.{SettingsFault}
use Rattle.lictor_settings.specs.declared.SettingsFault.TheVariants as F
use Rattle.lictor_settings.specs.Settings.{check_number}
use Rattle.lictor_fuse.specs.Tick.{is_accepted}

pub accepted_is : (c : Result Unit SettingsFault) → is_accepted c ≡ eqb (check_number c) 0
accepted_is (Ok u) = refl
accepted_is (Err F.BadCode) = refl
accepted_is (Err F.BadSize) = refl
accepted_is (Err F.NotFinite) = refl
accepted_is (Err F.BoxCrossed) = refl
