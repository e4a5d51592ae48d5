-- Trip bits and masks (verdict.rs; the fault bits are fsm.rs's).
use Rattle.std.specs.Prelude.{ℕ, ◌+◌, ◌^◌, Bool, not, ◌==◌, bit_and}

-- `trips` holds a bit of `mask`
unfoldable pub any_of : ℕ → ℕ → Bool
any_of trips mask = not (bit_and trips mask == 0)

abbrev pub workspace : ℕ
workspace = 2 ^ 0

abbrev pub speed : ℕ
speed = 2 ^ 1

abbrev pub accel : ℕ
accel = 2 ^ 2

abbrev pub jerk : ℕ
jerk = 2 ^ 3

abbrev pub reach : ℕ
reach = 2 ^ 4

abbrev pub contact : ℕ
contact = 2 ^ 5

abbrev pub brake_bit : ℕ
brake_bit = 2 ^ 6

abbrev pub nonfinite : ℕ
nonfinite = 2 ^ 7

abbrev pub schema : ℕ
schema = 2 ^ 8

abbrev pub watchdog : ℕ
watchdog = 2 ^ 9

abbrev pub tier1_cp : ℕ
tier1_cp = 2 ^ 10

abbrev pub clamp_budget : ℕ
clamp_budget = 2 ^ 11

abbrev pub handoff_timeout : ℕ
handoff_timeout = 2 ^ 12

abbrev pub operator_abort : ℕ
operator_abort = 2 ^ 13

abbrev pub brake_timeout : ℕ
brake_timeout = 2 ^ 14

abbrev pub rearm_budget : ℕ
rearm_budget = 2 ^ 15

-- bits 0 to 5: a clamp can mend them
abbrev pub tier0_soft : ℕ
tier0_soft = workspace + speed + accel + jerk + reach + contact

-- bits 6 to 9: never switched off
abbrev pub tier0_hard : ℕ
tier0_hard = brake_bit + nonfinite + schema + watchdog

-- bits 7 to 9: Fault from any state
abbrev pub fault_bits : ℕ
fault_bits = nonfinite + schema + watchdog
