-- The tally's maxima: the proofs of specs/Maxima.
use Rattle.std.specs.Prelude.{Ok, Err}
use mathlib.Core.Path.{◌≡◌, refl, sym, ◌∙◌, ap}
use mathlib.Core.Bool.{Bool, true, false, cond, not, ◌&&◌, ◌||◌, true≢false}
use mathlib.Core.List.{List, [], ◌∷◌}
use Prim.Native.Nat.{ℕ, zero, suc, ◌<◌, min}
use native.Mathlib.Omega.{arith}
use lib.Dec.{T, T_not, eqb, ltb}
use lib.ListN.{length, get_or}
use lib.Ieee.{Float, inf, nan, fin, is_nan}
use lib.Ieee.Scale.{finite}
use Rattle.std.proofs.Common.{Ok, Err}
use Rattle.std.proofs.Math.Bool.{and-false}
use Rattle.fmath.specs.Float.{max_of, all_finite}
use Rattle.fmath.specs.Most.{most_of}
use Rattle.fmath.specs.Rank.{Number}
use Rattle.fmath.proofs.Lists.{all_finite_at}
use Rattle.fmath.proofs.Order.{clamp_as_rust}
use Rattle.fmath.proofs.Most.{most_largest}
use Rattle.lictor_core.specs.declared.envelope.Settings.{Settings}
use Rattle.lictor_core.specs.declared.fuse.FuseRt.{FuseRt}
use Rattle.lictor_core.specs.Initial.{new_of, reset_of}
use Rattle.lictor_core.specs.FirstThat.{first_that}
use Rattle.lictor_core.specs.Rows.{row_to}
use Rattle.lictor_core.specs.Sizes.{features, max_d, max_pos}
use Rattle.lictor_settings.specs.declared.SettingsFault.TheVariants.{BadCode, BadSize, NotFinite, BoxCrossed}
use Rattle.lictor_settings.specs.Settings.{bad_code, bad_size, bad_float, bad_box, settings_table, check_of, config_of}
use Rattle.lictor_detect.specs.Brake.{boxed_component, boxed_row, boxed_action}
use Rattle.lictor_table.specs.Helpers.{latched_of}
use Rattle.lictor_stages.specs.Verdict.{live_valid, scores_of, disarmed_scores, verdict_of, events_of}
use Rattle.lictor_tally.specs.History.{Item, tally_of, Maximum, of_s, of_z, maximum_in, takes, score_of}
use Rattle.lictor_tally.specs.Tally.{bit_of}
use Rattle.lictor_tally.proofs.CountsLaws.{bit_of_and, no_bit}
use Rattle.lictor_tally.proofs.History.{history}
use Rattle.lictor_fuse.specs.declared.decide.Decided.{Decided}
use Rattle.lictor_fuse.specs.declared.Ticked.{Ticked}
use Rattle.lictor_fuse.specs.CleanTick.{close_clean, clean_tick}
use Rattle.lictor_fuse.specs.FaultTick.{fault_verdict, close_fault, fault_tick, no_events}
use Rattle.lictor_fuse.specs.Closed.{closed_of}
use Rattle.lictor_fuse.specs.Tick.{is_accepted, given_of, refused_tick}
use Rattle.claims.specs.Runs.{silent, event, and_then}
use Rattle.claims.specs.Calls.{Call, tick_answer, settings_pass, guard_bits, left_by}
use Rattle.claims.specs.Tallies.{item_by, item_of, history_from}
use Rattle.claims.specs.Maxima.{Scored, scored_by, scored_from, takes_of, taken_score, MaximaOf, FaultScore, MaximaTold, rust_boxed, rust_latched, BoxTold}
use Rattle.claims.proofs.Tick.{by_call, by_guard, decided}
use Rattle.claims.proofs.Tallies.{tally_told}

-- ---- a tick: what the tally takes in is what the mask and the verdict say

pub and_false : (b : Bool) → (b && false) ≡ false
and_false b = and-false b

-- with nothing valid no channel is live
no_valid : (mask j : ℕ) → (bit_of mask j && bit_of 0 j) ≡ false
no_valid mask j = ap (λ b. bit_of mask j && b) (no_bit 0 j refl) ∙ and_false (bit_of mask j)

live_is : (j : ℕ) (r : FuseRt) (c : Call) → takes (of_z j) (item_of r c (given_of (decided r c))) ≡ takes_of (of_z j) (scored_by r c (given_of (decided r c)))
unfolding given_of events_of no_events scores_of disarmed_scores clean_tick close_clean fault_tick close_fault closed_of verdict_of fault_verdict config_of
live_is j r c =
    by_guard (λ b (d : Decided). takes (of_z j) (item_by b r c d.rt d.verdict) ≡ takes_of (of_z j) (record { mask = c.settings.calib.mask; verdict = d.verdict })) r c
    (λ h. ap (λ b. ltb j features && b) (bit_of_and c.settings.calib.mask (live_valid c.settings.calib.mask c.outcome.scores.valid) j))
    (λ h. ap (λ b. ltb j features && b) (none_live c.settings.calib.mask))
  where
    none_live : (mask : ℕ) → bit_of 0 j ≡ (bit_of mask j && bit_of 0 j)
    none_live mask = no_bit 0 j refl ∙ sym (no_valid mask j)

taken_is : (m : Maximum) (r : FuseRt) (c : Call) → takes m (item_of r c (given_of (decided r c))) ≡ takes_of m (scored_by r c (given_of (decided r c)))
taken_is of_s r c = refl
taken_is (of_z j) r c = live_is j r c

-- of a call that is a tick
same_taken : (m : Maximum) (r : FuseRt) (c : Call) → T (is_accepted (tick_answer r c).check) → takes m (item_of r c (tick_answer r c)) ≡ takes_of m (scored_by r c (tick_answer r c))
unfolding refused_tick
same_taken m r c =
    by_call (λ (a : Ticked). T (is_accepted a.check) → takes m (item_of r c a) ≡ takes_of m (scored_by r c a)) r c (λ h k. taken_is m r c)
    (λ h k. absurd (T_not (settings_pass c) h k))

-- ---- a list of calls: the largest over the items is the largest over the verdicts

module _ (m : Maximum) where
  abbrev over_items : Float → List Item → Float
  over_items a h = most_of (takes m) (score_of m) a h

  abbrev over_scores : Float → List Scored → Float
  over_scores a l = most_of (takes_of m) (taken_score m) a l

  one_more : (b : Bool) (a : Float) (x : Item) (y : Scored) (r : FuseRt) (cs : List Call) → (T b → takes m x ≡ takes_of m y) → score_of m x ≡ taken_score m y
      → ((k : Float) → over_items k (history_from r cs) ≡ over_scores k (scored_from r cs))
      → over_items a (and_then (cond b (event x r) (silent r)) (λ r'. history_from r' cs)) ≡ over_scores a (and_then (cond b (event y r) (silent r)) (λ r'. scored_from r' cs))
  one_more true a x y r cs p s e =
      let t : cond (takes m x) (max_of a (score_of m x)) a ≡ cond (takes_of m y) (max_of a (taken_score m y)) a =
      ap (λ (b : Bool). cond b (max_of a (score_of m x)) a) (p tt) ∙ ap (λ z. cond (takes_of m y) (max_of a z) a) s
      in
      ap (λ k. over_items k (history_from r cs)) t ∙ e (cond (takes_of m y) (max_of a (taken_score m y)) a)
  one_more false a x y r cs p s e = e a

  same_most : (a : Float) (r : FuseRt) (cs : List Call) → over_items a (history_from r cs) ≡ over_scores a (scored_from r cs)
  same_most a r [] = refl
  same_most a r (c ∷ cs) =
      one_more (is_accepted (tick_answer r c).check) a (item_of r c (tick_answer r c)) (scored_by r c (tick_answer r c)) (tick_answer r c).rt cs (same_taken m r c) refl
      (λ k. same_most k (tick_answer r c).rt cs)

-- ---- the claim

from_empty : (z : FuseRt) (cs : List Call) → (left_by z cs).tally ≡ tally_of (history_from z cs) → MaximaOf z cs
from_empty z cs e m =
    let q : maximum_in m (left_by z cs).tally ≡ most_of (takes_of m) (taken_score m) (inf true) (scored_from z cs) =
    ap (maximum_in m) e ∙ (history (history_from z cs)).most m ∙ same_most m (inf true) z cs
    in
    rw q (most_largest (takes_of m) (taken_score m) (scored_from z cs))

-- a fault tick
fault_score : (r : FuseRt) (c : Call) → T (not (eqb (guard_bits r c) 0)) → FaultScore (scored_by r c (given_of (decided r c)))
unfolding given_of disarmed_scores fault_tick close_fault closed_of fault_verdict
fault_score r c =
    by_guard (λ b (d : Decided). T (not b) → FaultScore (record { mask = c.settings.calib.mask; verdict = d.verdict })) r c (λ h k. absurd k)
    (λ h k. record { s = refl; z = λ j. ap (λ b. ltb j features && b) (no_valid c.settings.calib.mask j) ∙ and_false (ltb j features) })

pub maxima_told : MaximaTold
maxima_told = record {
  from_reset = λ r cs. from_empty (reset_of r) cs (tally_told.from_reset r cs).whole;
  from_new = λ cs. from_empty new_of cs (tally_told.from_new cs).whole;
  faults = λ r c h g. by_call (λ (a : Ticked). FaultScore (scored_by r c a)) r c (λ k. fault_score r c g) (λ k. absurd (T_not (settings_pass c) k h));
}

-- ---- the box

-- two rules that agree on the first n places give the same row
row_same : (f g : ℕ → Float) (h : List Float) (n : ℕ) → ((k : ℕ) → k < n → f k ≡ g k) → row_to f h n ≡ row_to g h n
unfolding row_to
row_same f g h zero e = refl
row_same f g h (suc k) e = rw (row_same f g h k (λ i l. e i (omega arith)), e k (omega arith))

-- accepted settings have finite floats, and so finite upper ends
good_floats : (a b c d : Bool) → T (is_accepted (cond a (Err BadCode) (cond b (Err BadSize) (cond c (Err NotFinite) (cond d (Err BoxCrossed) (Ok tt)))))) → c ≡ false
good_floats true b c d h = absurd h
good_floats false true c d h = absurd h
good_floats false false true d h = absurd h
good_floats false false false d h = refl

last_of : (a b c d : Bool) → (a || (b || (c || not d))) ≡ false → d ≡ true
last_of a b c d e = grind arith

finite_ends : (s : Settings) → T (is_accepted (check_of s)) → all_finite s.box_hi ≡ true
unfolding check_of first_that settings_table bad_float
finite_ends s h =
    last_of (not (all_finite (s.dt ∷ s.inv_dt ∷ s.a_max ∷ s.hyst.v_stop_eps ∷ s.hyst.warn_margin ∷ []))) (is_nan s.calib.tau)
    (not (all_finite s.box_lo)) (all_finite s.box_hi) (good_floats (bad_code s) (bad_size s) (bad_float s) (bad_box s) h)

finite_number : (x : Float) → finite x ≡ true → Number x
unfolding is_nan
finite_number nan e = absurd (true≢false (sym e))
finite_number (inf t) e = absurd (true≢false (sym e))
finite_number (fin t m d) e = tt

end_number_lem : (s : Settings) → T (is_accepted (check_of s)) → length s.box_hi ≡ max_pos → (k : ℕ) → k < max_pos → Number (get_or s.box_hi k nan)
end_number_lem s h l k b = finite_number (get_or s.box_hi k nan) (all_finite_at s.box_hi k nan (finite_ends s h) (omega arith))

pub box_told : BoxTold
unfolding config_of boxed_action boxed_row boxed_component rust_boxed latched_of rust_latched
box_told s h l = record {
  rows = λ row. row_same _ _ _ (min s.dim max_d) (λ k b. clamp_as_rust _ _ (get_or s.box_hi k nan) (end_number_lem s h l k (omega arith)));
  latch = λ pos hold. row_same _ _ _ (min s.pos_dim max_pos) (λ k b. clamp_as_rust _ _ (get_or s.box_hi k nan) (end_number_lem s h l k (omega arith)));
}
