-- A line of the trace: `name=value`. Numbers and codes are decimal, flags 0 or 1, floats the 16
-- hexadecimal digits of their bits (every NaN `nan`), lists have commas, an absent mark is `none`.
-- The trace is ours, for the comparison with the Rust (00-demands.md, Demand 2): it states nothing
-- of the papers.
use Rattle.std.specs.Prelude.{ℕ, Bool, cond, List, ◌++◌, Option}
use Rattle.text.specs.Ascii.{ascii}
use Rattle.text.specs.Number.{decimal_of, optional_text}
use Rattle.lictor_core.specs.Codes.{state_code, reason_code}
use Rattle.lictor_core.specs.declared.reason.ReasonCode.{ReasonCode}
use Rattle.lictor_core.specs.declared.state.FuseState.{FuseState}

-- ---- texts of a flag, a code, a mark

abbrev pub flag_text : Bool → List ℕ
flag_text b = decimal_of (cond b 1 0)

abbrev pub state_text : FuseState → List ℕ
state_text s = decimal_of (state_code s)

abbrev pub reason_text : ReasonCode → List ℕ
reason_text w = decimal_of (reason_code w)

abbrev pub handoff_text : Option ℕ → List ℕ
handoff_text h = optional_text decimal_of h

abbrev pub mark_text : Option ℕ → List ℕ
mark_text m = optional_text decimal_of m

abbrev pub reason_mark_text : Option ReasonCode → List ℕ
reason_mark_text m = optional_text reason_text m

-- ---- lines

-- with a newline
abbrev pub newline_after : List ℕ → List ℕ
newline_after s = s ++ ascii "\n"

-- the name with its `=`, the value, a newline
unfoldable pub row : List ℕ → List ℕ → List ℕ
row name value = name ++ newline_after value
