-- One body in the other form (02-change-requests.md, Ask 9): the floats are read in the form that it
-- has and written in the other; bytes that are no float are copied. One definition for both ways,
-- over any list of runs.
use Rattle.std.specs.Prelude.{Bool, true, ◌&&◌, List, [], ◌∷◌, ◌++◌, ℕ, zero, suc, ◌+◌, ◌*◌, ◌/◌, ◌%◌, Float, take, drop}
use Rattle.std.specs.Float.Ieee.{of_bits, to_bits, fits}
use Rattle.journal_records.specs.Little.{le_at}
use Rattle.journal_forms.specs.declared.Form.{Form}
use Rattle.journal_forms.specs.declared.body.Run.{Run}
use Rattle.journal_forms.specs.Forms.{format_of, float_bytes}

-- the w bytes of a number, the lowest first
unfoldable pub le_bytes : ℕ → ℕ → List ℕ
le_bytes zero n = []
le_bytes (suc w) n = n % 256 ∷ le_bytes w (n / 256)

-- ---- floats one after the other

-- the float at the front of some bytes; every pattern of a NaN gives the one NaN
abbrev pub float_in : Form → List ℕ → Float
float_in a s = of_bits (format_of a) (le_at s 0 (float_bytes a))

-- the first n floats
unfoldable pub floats_in : Form → ℕ → List ℕ → List Float
floats_in a zero s = []
floats_in a (suc n) s = float_in a s ∷ floats_in a n (drop (float_bytes a) s)

-- and floats as bytes; the NaN has its quiet pattern
abbrev pub float_to : Form → Float → List ℕ
float_to b x = le_bytes (float_bytes b) (to_bits (format_of b) x)

unfoldable pub floats_to : Form → List Float → List ℕ
floats_to b [] = []
floats_to b (x ∷ xs) = float_to b x ++ floats_to b xs

-- every float passes a test
unfoldable pub all_pass : (Float → Bool) → List Float → Bool
all_pass p [] = true
all_pass p (x ∷ xs) = p x && all_pass p xs

-- ---- a body, run by run

-- the bytes of one run
abbrev pub run_bytes : Form → Run → ℕ
run_bytes a r = r.copied + r.floats * float_bytes a

-- those of all runs
unfoldable pub runs_bytes : Form → List Run → ℕ
runs_bytes a [] = 0
runs_bytes a (r ∷ rs) = run_bytes a r + runs_bytes a rs

-- the floats of the run at the front of some bytes
abbrev pub run_floats : Form → Run → List ℕ → List Float
run_floats a r s = floats_in a r.floats (drop r.copied s)

unfoldable pub body_floats : Form → List Run → List ℕ → List Float
body_floats a [] s = []
body_floats a (r ∷ rs) s = run_floats a r s ++ body_floats a rs (drop (run_bytes a r) s)

-- that run in form b
abbrev pub run_to : Form → Form → Run → List ℕ → List ℕ
run_to a b r s = take r.copied s ++ floats_to b (run_floats a r s)

-- a body of form a in form b; after its runs bytes are copied
unfoldable pub body_to : Form → Form → List Run → List ℕ → List ℕ
body_to a b [] s = s
body_to a b (r ∷ rs) s = run_to a b r s ++ body_to a b rs (drop (run_bytes a r) s)

-- form b holds every float of the body exactly
abbrev pub body_held : Form → Form → List Run → List ℕ → Bool
body_held a b rs s = all_pass (fits (format_of b)) (body_floats a rs s)
