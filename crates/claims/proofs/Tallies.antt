-- The tally and its ticks: the proofs of specs/Tallies.
use mathlib.Core.Path.{◌≡◌, refl, ◌∙◌, ap, sym}
use mathlib.Core.Bool.{Bool, true, false, cond}
use mathlib.Core.List.{List, [], ◌∷◌}
use Prim.Native.Nat.{◌+◌, ◌^◌, ◌<◌}
use native.Mathlib.Omega.{arith}
use lib.ListN.{length}
use Rattle.lictor_core.specs.declared.fuse.FuseRt.{FuseRt}
use Rattle.lictor_core.specs.declared.state.FuseState.TheVariants as S
use Rattle.lictor_core.specs.declared.verdict.SafetyVerdict.{SafetyVerdict}
use Rattle.lictor_core.specs.Initial.{empty_tally, new_of, reset_of}
use Rattle.lictor_settings.specs.Settings.{config_of}
use Rattle.lictor_stages.specs.Findings.{findings_of}
use Rattle.lictor_stages.specs.Verdict.{verdict_of, events_of}
use Rattle.lictor_tally.specs.History as H
use Rattle.lictor_tally.specs.History.{Item, recorded, tally_from, tally_of}
use Rattle.lictor_tally.proofs.History.{history}
use Rattle.lictor_fuse.specs.declared.decide.Decided.{Decided}
use Rattle.lictor_fuse.specs.declared.Ticked.{Ticked}
use Rattle.lictor_fuse.specs.CleanTick.{chunk_tally, close_clean, clean_tick}
use Rattle.lictor_fuse.specs.FaultTick.{fault_verdict, close_fault, fault_tick}
use Rattle.lictor_fuse.specs.Closed.{closed_of}
use Rattle.lictor_fuse.specs.Tick.{is_accepted, given_of}
use Rattle.claims.specs.Runs.{Step, silent, event, and_then}
use Rattle.claims.specs.Calls.{Call, tick_answer, trips_of, left_by}
use Rattle.claims.specs.Tallies.{item_by, item_of, history_from, verdicts_from, how_many, ended_in, ended_nominal, TallyTold, TalliesTold}
use Rattle.claims.proofs.Tick.{by_step, by_guard, decided}

-- a tick leaves the tally with its item recorded
takes_in : (r : FuseRt) (c : Call) → (decided r c).rt.tally ≡ recorded r.tally (item_of r c (given_of (decided r c)))
unfolding given_of recorded events_of clean_tick close_clean fault_tick close_fault closed_of verdict_of fault_verdict chunk_tally findings_of trips_of config_of
takes_in r c = by_guard (λ b (d : Decided). d.rt.tally ≡ recorded r.tally (item_by b r c d.rt d.verdict)) r c (λ h. refl) (λ h. refl)

-- so a list of calls leaves the tally of its history
pub tally_after : (r : FuseRt) (cs : List Call) → (left_by r cs).tally ≡ tally_from r.tally (history_from r cs)
tally_after r [] = refl
tally_after r (c ∷ cs) =
    by_step item_of (λ r' (s : Step FuseRt Item). (left_by r' cs).tally ≡ tally_from r.tally (and_then s (λ (r'' : FuseRt). history_from r'' cs))) r c
    (λ h. tally_after (decided r c).rt cs ∙ ap (λ t. tally_from t (history_from (decided r c).rt cs)) (takes_in r c)) (λ h. tally_after r cs)

-- the verdicts of the history are the list of verdicts
module _ (p : SafetyVerdict → Bool) where
  abbrev pub in_item : Item → Bool
  in_item x = p x.verdict

  one_more : (b : Bool) (r : FuseRt) (c : Call) (a : Ticked) (cs : List Call) → H.number in_item (history_from a.rt cs) ≡ how_many p (verdicts_from a.rt cs)
      → H.number in_item (and_then (cond b (event (item_of r c a) a.rt) (silent a.rt)) (λ r'. history_from r' cs))
      ≡ how_many p (and_then (cond b (event a.verdict a.rt) (silent a.rt)) (λ r'. verdicts_from r' cs))
  one_more true r c a cs e = ap (λ n. cond (p a.verdict) 1 0 + n) e
  one_more false r c a cs e = e

  pub same_number : (r : FuseRt) (cs : List Call) → H.number in_item (history_from r cs) ≡ how_many p (verdicts_from r cs)
  same_number r [] = refl
  same_number r (c ∷ cs) = one_more (is_accepted (tick_answer r c).check) r c (tick_answer r c) cs (same_number (tick_answer r c).rt cs)

every_one : (l : List SafetyVerdict) → how_many (λ v. true) l ≡ length l
every_one [] = refl
every_one (v ∷ l) = omega (arith, every_one l)

every_item : (h : List Item) → H.number (λ x. true) h ≡ length h
every_item [] = refl
every_item (x ∷ h) = omega (arith, every_item h)

same_length : (r : FuseRt) (cs : List Call) → length (history_from r cs) ≡ length (verdicts_from r cs)
same_length r cs = sym (every_item (history_from r cs)) ∙ same_number (λ v. true) r cs ∙ every_one (verdicts_from r cs)

-- ---- the claim

from_empty : (z : FuseRt) (cs : List Call) → z.tally ≡ empty_tally → TallyTold z cs
from_empty z cs empty =
    let e : (left_by z cs).tally ≡ tally_of (history_from z cs) = tally_after z cs ∙ ap (λ t. tally_from t (history_from z cs)) empty in
    let l = history (history_from z cs) in
    let n = same_length z cs in
    record {
      whole = e;
      states = λ few.
          let f : length (history_from z cs) < 2 ^ 32 = omega arith in
          rw e (record {
            ticks = l.all f ∙ n;
            sum = l.sum f;
            nominal = l.exact f H.nominal_count ∙ same_number ended_nominal z cs;
            watching = l.exact f H.watching_count ∙ same_number (ended_in S.Watching) z cs;
            clamped = l.exact f H.clamped_count ∙ same_number (ended_in S.Clamped) z cs;
            braking = l.exact f H.braking_count ∙ same_number (ended_in S.Braking) z cs;
            held = l.exact f H.held_count ∙ same_number (ended_in S.Held) z cs;
            escalated = l.exact f H.escalated_count ∙ same_number (ended_in S.Escalated) z cs;
            fault = l.exact f H.fault_count ∙ same_number (ended_in S.Fault) z cs;
            terminated = l.exact f H.terminated_count ∙ same_number (ended_in S.Terminated) z cs;
          });
    }

pub tally_told : TalliesTold
unfolding reset_of new_of
tally_told = record { from_reset = λ r cs. from_empty (reset_of r) cs refl; from_new = λ cs. from_empty new_of cs refl }
