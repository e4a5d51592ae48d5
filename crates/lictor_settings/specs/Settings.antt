-- The check of settings: causes 1 to 4 of the refusal table (01-scope.md, Journal), in the table's
-- order, and the configuration that accepted settings mean.
use Rattle.std.specs.Prelude.{Bool, false, not, ◌||◌, List, [], ◌∷◌, ℕ, zero, suc, ltb, leb, get_or, Float, Result, Ok, Err}
use Rattle.std.specs.Float.{nan}
use Rattle.std.specs.Float.Ieee.{is_nan, lt}
use Rattle.fmath.specs.Float.{all_finite}
use Rattle.lictor_core.specs.declared.envelope.Settings.{Settings}
use Rattle.lictor_core.specs.declared.envelope.FuseConfig.{FuseConfig}
use Rattle.lictor_settings.specs.declared.SettingsFault.{SettingsFault}
use Rattle.lictor_settings.specs.declared.SettingsFault.TheVariants.{BadCode, BadSize, NotFinite, BoxCrossed}
use Rattle.lictor_core.specs.FirstThat.{Row, refuse◌when◌, first_that}
use Rattle.lictor_core.specs.Sizes.{max_d, max_pos, max_horizon}
use Rattle.lictor_core.specs.Codes.{modes, kinds, clamp_modes, rearm_policies, mode_of, kind_of, clamp_mode_of, rearm_of}

-- n lies outside of low to high, both included
abbrev pub outside : ℕ → ℕ → ℕ → Bool
outside low high n = ltb n low || ltb high n

-- cause 1: a code not listed; codes are numbered from 0
unfoldable pub bad_code : Settings → Bool
bad_code s = leb modes s.mode || (leb kinds s.kind || (leb clamp_modes s.clamp || leb rearm_policies s.rearm))

-- cause 2: a size outside its range, both ends included
unfoldable pub bad_size : Settings → Bool
bad_size s = outside 1 max_d s.dim || (outside 1 max_pos s.pos_dim || (outside 1 max_horizon s.horizon || outside 1 s.horizon s.exec))

-- cause 3: a float not finite; of tau only a NaN is refused
unfoldable pub bad_float : Settings → Bool
bad_float s =
    not (all_finite (s.dt ∷ s.inv_dt ∷ s.a_max ∷ s.hyst.v_stop_eps ∷ s.hyst.warn_margin ∷ []))
    || (is_nan s.calib.tau || (not (all_finite s.box_lo) || not (all_finite s.box_hi)))

-- some index below n passes the test
unfoldable pub any_below : ℕ → (ℕ → Bool) → Bool
any_below zero p = false
any_below (suc n) p = any_below n p || p n

-- a low end above its high end, among all pairs
unfoldable pub crossed_of : List Float → List Float → Bool
crossed_of lo hi = any_below max_pos (λ i. lt (get_or hi i nan) (get_or lo i nan))

-- cause 4: a box_lo above its box_hi, whatever pos_dim is
unfoldable pub bad_box : Settings → Bool
bad_box s = crossed_of s.box_lo s.box_hi

-- the causes in their order
unfoldable pub settings_table : List (Row SettingsFault (Settings → Bool))
settings_table = refuse BadCode when bad_code ∷ refuse BadSize when bad_size ∷ refuse NotFinite when bad_float ∷ refuse BoxCrossed when bad_box ∷ []

-- the first row whose cause is there decides; with none, the settings are accepted
unfoldable pub check_of : Settings → Result Unit SettingsFault
check_of s = first_that (λ w. w.cause s) (λ w. Err w.answer) (Ok tt) settings_table

-- the paper's number of each cause
abbrev pub fault_code : SettingsFault → ℕ
fault_code BadCode = 1
fault_code BadSize = 2
fault_code NotFinite = 3
fault_code BoxCrossed = 4

-- of each answer; accepted settings have none, and are 0 here
abbrev pub check_number : Result Unit SettingsFault → ℕ
check_number (Ok u) = 0
check_number (Err f) = fault_code f

-- the settings with their codes as cases
unfoldable pub config_of : Settings → FuseConfig
config_of s = record {
  mode = mode_of s.mode;
  kind = kind_of s.kind;
  clamp = clamp_mode_of s.clamp;
  rearm = rearm_of s.rearm;
  dim = s.dim;
  pos_dim = s.pos_dim;
  horizon = s.horizon;
  exec = s.exec;
  dt = s.dt;
  inv_dt = s.inv_dt;
  a_max = s.a_max;
  box_lo = s.box_lo;
  box_hi = s.box_hi;
  hyst = s.hyst;
  window_mask = s.window_mask;
  tier0_enabled = s.tier0_enabled;
  calib = s.calib;
}
