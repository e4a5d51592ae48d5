use mathlib.Core.Path.{◌≡◌, ap, ◌∙◌}
use Prim.Native.Nat.{ℕ}
use native.Mathlib.Omega.{arith}
use lib.ListN.{get_or, drop, drop_of_length-le, length-take, length-drop}
use Rattle.std.proofs.lemmas.Grind.{common_steps}
use Rattle.journal_frames.specs.declared.Frame.TheVariants.{Whole}
use Rattle.journal_frames.proofs.Frames.{unknown, cut, whole, frame_none, frame_front}
use Rattle.journal_frames.proofs.frame_at.Goals as goal
use Rattle.journal_frames.proofs.frame_at.Goals.{After-unwrap_or}

-- the bytes from the place on, also where there are none
rest_is : (c : After-unwrap_or) → c.unwrap_or.result.now ≡ drop c.args.at c.args.s.now
rest_is c = grind (arith, common_steps, drop_of_length-le)

pub returns-in-empty : goal.returns-in-empty
returns-in-empty c = frame_none _ _ _ (rest_is (goal.at.returns-in-empty c).After-unwrap_or) c.in-empty.len_below

pub returns-then-not-is_known : goal.returns-then-not-is_known
returns-then-not-is_known c = frame_front _ _ _ (rest_is (goal.at.returns-then-not-is_known c).After-unwrap_or) c.in-len1-up.len_at_least (unknown cc)

pub returns-then-rest-len : goal.returns-then-rest-len
returns-then-rest-len c = frame_front _ _ _ (rest_is (goal.at.returns-then-rest-len c).After-unwrap_or) c.in-len1-up.len_at_least (cut (cc) (omega (arith, length-take {A = ℕ}, length-drop 1 c.unwrap_or.result.now)))

pub returns-else-rest-len : goal.returns-else-rest-len
returns-else-rest-len c = ap (Whole (get_or c.unwrap_or.result.now 0 0)) c.body_len-len.ensures ∙ frame_front _ _ _ (rest_is (goal.at.returns-else-rest-len c).After-unwrap_or) c.in-len1-up.len_at_least (whole (cc) (omega (arith, length-take {A = ℕ}, length-drop 1 c.unwrap_or.result.now)))
