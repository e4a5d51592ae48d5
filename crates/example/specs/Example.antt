-- The example of 01-scope.md, Journal: settings, a reset, an outcome and tick 0, field by field in
-- the paper's order; its bytes are those of examples/first.journal.
use Rattle.std.specs.Prelude.{List, [], ◌∷◌, ◌++◌, ℕ, zero, suc, ◌/◌, ◌%◌}
use Rattle.text.specs.Ascii.{ascii}

-- n in w bytes, the lowest first. A float is the number of its bits.
unfoldable pub in_bytes : ℕ → ℕ → List ℕ
in_bytes zero n = []
in_bytes (suc w) n = n % 256 ∷ in_bytes w (n / 256)

-- k times the same
unfoldable pub times : ℕ → List ℕ → List ℕ
times zero s = []
times (suc k) s = s ++ times k s

-- kind 1: Enforce, end-effector position, one component; a box from -1 to 1
unfoldable pub settings_bytes : List ℕ
settings_bytes =
    1
    ∷ in_bytes 1 1  -- mode
    ++ in_bytes 1 0  -- kind
    ++ in_bytes 1 1  -- clamp
    ++ in_bytes 1 0  -- rearm
    ++ in_bytes 1 1  -- dim
    ++ in_bytes 1 1  -- pos_dim
    ++ in_bytes 1 3  -- k
    ++ in_bytes 1 5  -- clear
    ++ in_bytes 1 3  -- streak
    ++ in_bytes 1 2  -- confirm
    ++ in_bytes 1 2  -- watchdog
    ++ in_bytes 1 2  -- max_rearms
    ++ in_bytes 2 1  -- horizon
    ++ in_bytes 2 1  -- exec
    ++ in_bytes 2 60  -- max_clamps
    ++ in_bytes 2 30  -- brake
    ++ in_bytes 2 10  -- rearm_hold
    ++ in_bytes 2 30  -- hold
    ++ in_bytes 4 200  -- handoff
    ++ in_bytes 4 127  -- tier0
    ++ in_bytes 4 0  -- calib
    ++ in_bytes 8 31  -- window
    ++ in_bytes 8 4587366580439587226  -- dt 0.05
    ++ in_bytes 8 4626322717216342016  -- inv_dt 20
    ++ in_bytes 8 4607182418800017408  -- a_max 1
    ++ in_bytes 8 4576918229304087675  -- v_stop_eps 0.01
    ++ in_bytes 8 4602678819172646912  -- warn_margin 0.5
    ++ in_bytes 8 4613937818241073152  -- tau 3
    ++ times 8 (in_bytes 8 13830554455654793216)  -- box_lo -1
    ++ times 8 (in_bytes 8 4607182418800017408)  -- box_hi 1

-- kind 2
unfoldable pub reset_bytes : List ℕ
reset_bytes = 2 ∷ []

-- kind 6: nothing trips, and the brake is feasible
unfoldable pub outcome_bytes : List ℕ
outcome_bytes =
    6
    ∷ in_bytes 4 0  -- trips
    ++ in_bytes 4 0  -- clamped_dims
    ++ in_bytes 1 1  -- feasible
    ++ in_bytes 8 4607182418800017408  -- margin 1
    ++ in_bytes 8 18442240474082181120  -- s -inf
    ++ in_bytes 4 0  -- valid
    ++ in_bytes 4 0  -- fired
    ++ times 12 (in_bytes 8 0)  -- z 0
    ++ times 8 (in_bytes 8 0)  -- policy 0
    ++ times 8 (in_bytes 8 0)  -- clamped 0

-- kind 7: t 0, with neither position nor chunk
unfoldable pub tick_bytes : List ℕ
tick_bytes =
    7
    ∷ in_bytes 4 0  -- t
    ++ in_bytes 2 0  -- idx
    ++ in_bytes 1 0  -- missed
    ++ in_bytes 1 0  -- schema
    ++ in_bytes 1 0  -- vel

unfoldable pub example_bytes : List ℕ
example_bytes = settings_bytes ++ reset_bytes ++ outcome_bytes ++ tick_bytes

-- what `fuse` prints for it
abbrev pub example_text : List ℕ
example_text = ascii "tick 0 0 7 18 256 3 none\nend 1 1\n"
