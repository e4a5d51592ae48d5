-- One episode in two stretches: the proofs of specs/Cut. A tick does not read the tally; so the
-- second stretch takes in the ticks that it has in the uncut list, and lictor_tally's law of a cut
-- list of ticks says the rest.
use mathlib.Core.Path.{◌≡◌, refl, sym, ap, ◌∙◌}
use mathlib.Core.Bool.{Bool, true, false, cond}
use mathlib.Core.List.{List, [], ◌∷◌, ◌++◌}
use lib.Dec.{eqb}
use Rattle.lictor_core.specs.declared.fuse.FuseRt.{FuseRt}
use Rattle.lictor_core.specs.declared.tally.Tally.{Tally}
use Rattle.lictor_core.specs.Initial.{empty_tally, new_of, reset_of}
use Rattle.lictor_tally.specs.History.{Item, tally_from, tally_of}
use Rattle.lictor_tally.specs.Join.{join_of}
use Rattle.lictor_tally.specs.Stretches.{FromTicks}
use Rattle.lictor_tally.proofs.History.{tally_append}
use Rattle.lictor_tally.proofs.Stretches.{join_cut}
use Rattle.lictor_fuse.specs.declared.decide.Decided.{Decided}
use Rattle.lictor_fuse.specs.declared.Ticked.{Ticked}
use Rattle.lictor_fuse.specs.Decide.{decide_by, decide_of}
use Rattle.lictor_fuse.specs.CleanTick.{close_clean, clean_tick}
use Rattle.lictor_fuse.specs.FaultTick.{close_fault, fault_tick}
use Rattle.lictor_fuse.specs.Closed.{closed_of}
use Rattle.lictor_fuse.specs.Tick.{is_accepted, given_of, refused_tick, accepted_tick, tick_by, tick_of}
use Rattle.claims.specs.Runs.{silent, event, and_then, course}
use Rattle.claims.specs.Calls.{Call, tick_answer, settings_pass, guard_bits, step_by, step_of, left_by}
use Rattle.claims.specs.Tallies.{item_of, verdict_in, history_from, verdicts_from}
use Rattle.claims.specs.Cut.{with_tally, second_from, answer_with, bare_answers_from, CutTold, CutsTold}
use Rattle.claims.proofs.Tick.{decided}
use Rattle.claims.proofs.Tallies.{tally_after}

-- ---- a call does not read the tally

module _ {A : Type 0} where
  -- what holds of two arms each holds of two choices by one test
  by_pair : (P : A → A → Type 0) (b : Bool) (x y u v : A) → P x u → P y v → P (cond b x y) (cond b u v)
  by_pair P true x y u v p q = p
  by_pair P false x y u v p q = q

abbrev decided_with : Tally → Decided → Decided
decided_with t d = record { rt = with_tally t d.rt; verdict = d.verdict }

same_decided : (t : Tally) (r : FuseRt) (c : Call) → decided (with_tally t r) c ≡ decided_with (decided (with_tally t r) c).rt.tally (decided r c)
unfolding decide_of decide_by guard_bits clean_tick close_clean fault_tick close_fault closed_of
same_decided t r c = by_pair (λ (d e : Decided). d ≡ decided_with d.rt.tally e) (eqb (guard_bits r c) 0) _ _ _ _ refl refl

-- with another tally the answer is the same, but for its tally
same_answer : (t : Tally) (r : FuseRt) (c : Call) → tick_answer (with_tally t r) c ≡ answer_with (tick_answer (with_tally t r) c).rt.tally (tick_answer r c)
unfolding tick_of tick_by accepted_tick given_of refused_tick
same_answer t r c = by_pair (λ (a b : Ticked). a ≡ answer_with a.rt.tally b) (settings_pass c) _ _ _ _ (ap given_of (same_decided t r c)) refl

-- ---- a list of calls, seen without its tallies

-- what is seen of a call does not go by a tally
module _ {A : Type 0} (see : FuseRt → Call → Ticked → A) (blind : (t u : Tally) (r : FuseRt) (c : Call) (a : Ticked) → see (with_tally t r) c (answer_with u a) ≡ see r c a) where
  one_step : (b : Bool) (x y : A) (u : Tally) (r : FuseRt) (k : FuseRt → List A) → x ≡ y → k (with_tally u r) ≡ k r
      → and_then (cond b (event x (with_tally u r)) (silent (with_tally u r))) k ≡ and_then (cond b (event y r) (silent r)) k
  one_step true x y u r k e f = rw (e, f)
  one_step false x y u r k e f = f

  same_course : (t : Tally) (r : FuseRt) (cs : List Call) → course (step_of see) (with_tally t r) cs ≡ course (step_of see) r cs
  same_course t r [] = refl
  same_course t r (c ∷ cs) =
      let a = tick_answer r c in
      let u = (tick_answer (with_tally t r) c).rt.tally in
      ap (λ b. and_then (step_by see (with_tally t r) c b) (λ r'. course (step_of see) r' cs)) (same_answer t r c)
      ∙ one_step (is_accepted a.check) _ _ u a.rt (λ r'. course (step_of see) r' cs) (blind t u r c a) (same_course u a.rt cs)

same_history : (t : Tally) (r : FuseRt) (cs : List Call) → history_from (with_tally t r) cs ≡ history_from r cs
unfolding guard_bits
same_history t r cs = same_course item_of (λ t u r c a. refl) t r cs

same_verdicts : (t : Tally) (r : FuseRt) (cs : List Call) → verdicts_from (with_tally t r) cs ≡ verdicts_from r cs
same_verdicts t r cs = same_course verdict_in (λ t u r c a. refl) t r cs

same_answers : (t : Tally) (r : FuseRt) (cs : List Call) → bare_answers_from (with_tally t r) cs ≡ bare_answers_from r cs
same_answers t r [] = refl
same_answers t r (c ∷ cs) =
    let u = (tick_answer (with_tally t r) c).rt.tally in
    ap (λ a. answer_with empty_tally a ∷ bare_answers_from a.rt cs) (same_answer t r c)
    ∙ ap (λ l. answer_with empty_tally (tick_answer r c) ∷ l) (same_answers u (tick_answer r c).rt cs)

same_state : (t u : Tally) (r : FuseRt) (cs : List Call) → with_tally u (left_by (with_tally t r) cs) ≡ with_tally u (left_by r cs)
same_state t u r [] = refl
same_state t u r (c ∷ cs) = ap (λ a. with_tally u (left_by a.rt cs)) (same_answer t r c) ∙ same_state (tick_answer (with_tally t r) c).rt.tally u (tick_answer r c).rt cs

-- ---- two lists of calls in a row

left_append : (r : FuseRt) (g h : List Call) → left_by r (g ++ h) ≡ left_by (left_by r g) h
left_append r [] h = refl
left_append r (c ∷ g) h = left_append (tick_answer r c).rt g h

module _ {A : Type 0} (see : FuseRt → Call → Ticked → A) where
  step_append : (b : Bool) (x : A) (r : FuseRt) (k f : FuseRt → List A) (l : List A) → k r ≡ f r ++ l
      → and_then (cond b (event x r) (silent r)) k ≡ and_then (cond b (event x r) (silent r)) f ++ l
  step_append true x r k f l e = ap (λ m. x ∷ m) e
  step_append false x r k f l e = e

  course_append : (r : FuseRt) (g h : List Call) → course (step_of see) r (g ++ h) ≡ course (step_of see) r g ++ course (step_of see) (left_by r g) h
  course_append r [] h = refl
  course_append r (c ∷ g) h =
      let a = tick_answer r c in
      step_append (is_accepted a.check) (see r c a) a.rt (λ r'. course (step_of see) r' (g ++ h)) (λ r'. course (step_of see) r' g) _ (course_append a.rt g h)

answers_append : (r : FuseRt) (g h : List Call) → bare_answers_from r (g ++ h) ≡ bare_answers_from r g ++ bare_answers_from (left_by r g) h
answers_append r [] h = refl
answers_append r (c ∷ g) h = ap (λ l. answer_with empty_tally (tick_answer r c) ∷ l) (answers_append (tick_answer r c).rt g h)

-- ---- the claim

-- the first stretch leaves the tally of the ticks before it and its own, the second that of its own
joined_tally_lem : (r : FuseRt) (f : List Item) (g h : List Call) → r.tally ≡ tally_of f → join_of (left_by r g).tally (left_by (second_from r g) h).tally ≡ (left_by r (g ++ h)).tally
joined_tally_lem r f g h e =
    let before = history_from r g in
    let after = history_from (left_by r g) h in
    let one : (left_by r g).tally ≡ tally_of (f ++ before) = tally_after r g ∙ ap (λ t. tally_from t before) e ∙ sym (tally_append empty_tally f before) in
    let other : (left_by (second_from r g) h).tally ≡ tally_of after = tally_after (second_from r g) h ∙ ap tally_of (same_history empty_tally (left_by r g) h) in
    let uncut : (left_by r (g ++ h)).tally ≡ tally_from (tally_of (f ++ before)) after =
    ap (λ (z : FuseRt). z.tally) (left_append r g h) ∙ tally_after (left_by r g) h ∙ ap (λ t. tally_from t after) one
    in
    rw (one, other) (sym (join_cut (f ++ before) after) ∙ tally_append empty_tally (f ++ before) after ∙ sym uncut)

cut_told : (r : FuseRt) → FromTicks r.tally → (g h : List Call) → CutTold r g h
cut_told r given g h = record {
  tally = joined_tally_lem r given.history g h given.is;
  verdicts = ap (λ l. verdicts_from r g ++ l) (same_verdicts empty_tally (left_by r g) h) ∙ sym (course_append verdict_in r g h);
  answers = ap (λ l. bare_answers_from r g ++ l) (same_answers empty_tally (left_by r g) h) ∙ sym (answers_append r g h);
  state = same_state empty_tally (left_by r (g ++ h)).tally (left_by r g) h ∙ ap (with_tally (left_by r (g ++ h)).tally) (sym (left_append r g h));
}

pub cuts_told : CutsTold
unfolding reset_of new_of
cuts_told = record {
  from_reset = λ r. cut_told (reset_of r) (record { history = []; is = refl });
  from_new = cut_told new_of (record { history = []; is = refl });
  from_any = cut_told;
}
