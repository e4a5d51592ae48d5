-- One episode in two stretches (request 3): a list of calls cut at any place, the second stretch
-- begun from the run state at the cut with an empty tally.
-- Proved in proofs/Cut, `cuts_told`.
use Rattle.std.specs.Prelude.{◌≡◌, List, [], ◌∷◌, ◌++◌}
use Rattle.lictor_core.specs.declared.fuse.FuseRt.{FuseRt}
use Rattle.lictor_core.specs.declared.tally.Tally.{Tally}
use Rattle.lictor_core.specs.Initial.{empty_tally, new_of, reset_of}
use Rattle.lictor_tally.specs.Join.{join_of}
use Rattle.lictor_tally.specs.Stretches.{FromTicks}
use Rattle.lictor_fuse.specs.declared.Ticked.{Ticked}
use Rattle.claims.specs.Calls.{Call, tick_answer, left_by}
use Rattle.claims.specs.Tallies.{verdicts_from}

-- ---- the cut

-- another tally, the rest of the run state as it was
abbrev pub with_tally : Tally → FuseRt → FuseRt
with_tally t r = record { control = r.control; motion = r.motion; clock = r.clock; tally = t }

-- what the second stretch begins with, where the first was the calls g from r on
abbrev pub second_from : FuseRt → List Call → FuseRt
second_from r g = with_tally empty_tally (left_by r g)

-- ---- what is compared beside the tallies

-- an answer with another tally: its check, its verdict and the rest of its run state as they were
abbrev pub answer_with : Tally → Ticked → Ticked
answer_with t a = record { check = a.check; rt = with_tally t a.rt; verdict = a.verdict }

-- the answers to a list of calls, those of refused calls too, all but for their tallies
abbrev pub bare_answers_from : FuseRt → List Call → List Ticked
bare_answers_from r [] = []
bare_answers_from r (c ∷ cs) = answer_with empty_tally (tick_answer r c) ∷ bare_answers_from (tick_answer r c).rt cs

-- ---- the claim

-- of the calls g and then h, from r on: cut between them, and not cut
pub record CutTold (r : FuseRt) (g h : List Call) : Type 0 where
  -- the two tallies joined are the tally of the uncut list, every field
  pub tally : join_of (left_by r g).tally (left_by (second_from r g) h).tally ≡ (left_by r (g ++ h)).tally
  -- the verdicts, and the answers, are those of the uncut list
  pub verdicts : verdicts_from r g ++ verdicts_from (second_from r g) h ≡ verdicts_from r (g ++ h)
  pub answers : bare_answers_from r g ++ bare_answers_from (second_from r g) h ≡ bare_answers_from r (g ++ h)
  -- but for the tally the second stretch leaves the run state of the uncut list
  pub state : with_tally (left_by r (g ++ h)).tally (left_by (second_from r g) h) ≡ left_by r (g ++ h)

-- of whatever length, cut anywhere, at either end too; whatever the calls' settings, refused calls
-- among them
pub record CutsTold : Type 0 where
  -- from a reset on
  pub from_reset : (r : FuseRt) (g h : List Call) → CutTold (reset_of r) g h
  -- from the settings on, where no reset came
  pub from_new : (g h : List Call) → CutTold new_of g h
  -- from any run state whose tally ticks can give: a stretch may be cut again
  pub from_any : (r : FuseRt) → FromTicks r.tally → (g h : List Call) → CutTold r g h
