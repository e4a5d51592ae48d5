-- How many lines the groups of the trace have, and the rules by which a line's number tells its
-- group.
use Prim.Native.Nat.{ℕ, ◌+◌, ◌-◌, ◌≤◌, ◌<◌}
use mathlib.Core.Path.{◌≡◌, refl, sym, ap, ◌∙◌}
use mathlib.Core.List.{List, [], ◌++◌}
use native.Mathlib.Omega.{arith}
use lib.ListN.{length, get_or, get_or-append}
use lib.Seq.{get_or-append-add}
use Rattle.text.specs.declared.Line.{Line}
use Rattle.text.specs.Line.{line_of}
use Rattle.lictor_core.specs.declared.verdict.SafetyVerdict.{SafetyVerdict}
use Rattle.lictor_core.specs.declared.fuse.Control.{Control}
use Rattle.lictor_core.specs.declared.fuse.Motion.{Motion}
use Rattle.lictor_core.specs.declared.fuse.Clock.{Clock}
use Rattle.lictor_core.specs.declared.fuse.FuseRt.{FuseRt}
use Rattle.trace_text.specs.Trace.{verdict_lines, run_lines, tally_lines, trace_lines, trace_text}

-- lines of the first part, which has n, and of the part after it
in_front : (xs ys : List (List ℕ)) (n k : ℕ) (l : Line) → length xs ≡ n → k < n → l ≡ line_of (get_or xs k []) → l ≡ line_of (get_or (xs ++ ys) k [])
in_front xs ys n k l e h q = q ∙ ap line_of (sym (get_or-append xs ys [] k (omega arith)))

behind : (xs ys : List (List ℕ)) (n k : ℕ) (l : Line) → length xs ≡ n → n ≤ k → l ≡ line_of (get_or ys (k - n) []) → l ≡ line_of (get_or (xs ++ ys) k [])
behind xs ys n k l e h q =
    let s : k ≡ length xs + (k - n) = omega arith in
    q ∙ ap line_of (sym (ap (λ (j : ℕ). get_or (xs ++ ys) j []) s ∙ get_or-append-add xs ys (k - n) []))

trace_23 : (v : SafetyVerdict) → length (verdict_lines v) ≡ 23
unfolding verdict_lines
trace_23 v = refl

trace_48 : (v : SafetyVerdict) (c : Control) (m : Motion) (k : Clock) → length (verdict_lines v ++ run_lines c m k) ≡ 48
unfolding verdict_lines run_lines
trace_48 v c m k = refl

-- the constant TRACE_LINES
pub trace_74 : (v : SafetyVerdict) (rt : FuseRt) → length (trace_lines v rt) ≡ 74
unfolding trace_lines verdict_lines run_lines tally_lines
trace_74 v rt = refl

-- line k by the group that its number tells
module _ (k : ℕ) (v : SafetyVerdict) (rt : FuseRt) (l : Line) where
  abbrev run : List (List ℕ)
  run = run_lines rt.control rt.motion rt.clock

  abbrev tally : List (List ℕ)
  tally = tally_lines rt.tally

  pub of_verdict : k < 23 → l ≡ line_of (get_or (verdict_lines v) k []) → l ≡ line_of (trace_text k v rt)
  unfolding trace_text trace_lines
  of_verdict h q = in_front (verdict_lines v ++ run) tally 48 k l (trace_48 v rt.control rt.motion rt.clock) (omega arith) (in_front (verdict_lines v) run 23 k l (trace_23 v) h q)

  pub of_run : 23 ≤ k → k < 48 → l ≡ line_of (get_or run (k - 23) []) → l ≡ line_of (trace_text k v rt)
  unfolding trace_text trace_lines
  of_run g h q = in_front (verdict_lines v ++ run) tally 48 k l (trace_48 v rt.control rt.motion rt.clock) h (behind (verdict_lines v) run 23 k l (trace_23 v) g q)

  pub of_tally : 48 ≤ k → l ≡ line_of (get_or tally (k - 48) []) → l ≡ line_of (trace_text k v rt)
  unfolding trace_text trace_lines
  of_tally g q = behind (verdict_lines v ++ run) tally 48 k l (trace_48 v rt.control rt.motion rt.clock) g q
