-- `host_cuts`: a host's stretches are the fuse's own (HostRun, host_c proofs/Stored), and of those
-- the fuse's theorem says it (claims, proofs/Cut).
use mathlib.Core.Path.{◌≡◌, refl, sym, ap, ◌∙◌, subst}
use mathlib.Core.List.{List, [], ◌∷◌, ◌++◌, map, append-nil, append_assoc}
use Rattle.lictor_core.specs.Initial.{empty_tally, new_of, reset_of}
use Rattle.lictor_core.specs.declared.fuse.FuseRt.{FuseRt}
use Rattle.lictor_tally.specs.Stretches.{FromTicks}
use Rattle.lictor_fuse.specs.declared.Ticked.{Ticked}
use Rattle.claims.specs.Calls.{Call, tick_answer, left_by}
use Rattle.claims.specs.Cut.{with_tally, second_from, bare_answers_from, CutTold}
use Rattle.claims.proofs.Cut.{cuts_told}
use Rattle.host_layout.specs.declared.state.RunState.{RunState}
use Rattle.host_layout.specs.State.{state_in, state_out, tally_out}
use Rattle.host_c.specs.declared.Answer.{Answer}
use Rattle.host_c.specs.declared.Called.{Called}
use Rattle.host_c.specs.Call.{ticked_out, answer_of, joined_tally, reset_run}
use Rattle.host_c.proofs.Stored.{tick_on_stored, join_on_stored}
use Rattle.host_claims.specs.HostRun.{HostCall, meant, answers_from}
use Rattle.host_claims.specs.HostCut.{host_left, said_from, new_run, emptied, host_second, HostCut, calls_of, joined_on, said_in, HostStretches, HostCuts}
use Rattle.host_claims.proofs.HostRun.{stored_run}

module _ {A B : Type 0} (f : A → B) where
  map_append : (k l : List A) → map f (k ++ l) ≡ map f k ++ map f l
  map_append [] l = refl
  map_append (x ∷ k) l = ap (λ m. f x ∷ m) (map_append k l)

-- ---- what a list of calls leaves, and what it answers

left_stored : (r : FuseRt) (hs : List HostCall) → host_left (state_out r) hs ≡ state_out (left_by r (map meant hs))
unfolding ticked_out
left_stored r [] = refl
left_stored r (h ∷ hs) =
    let c = meant h in
    ap (λ (a : Called). host_left a.rt hs) (tick_on_stored c.settings r c.input c.outcome c.pos c.vel c.aux c.ext c.chunk) ∙ left_stored (tick_answer r c).rt hs

-- an answer of the fuse, as the host sees it: its tally is no part of it
abbrev seen : Ticked → Answer
seen a = answer_of (ticked_out a)

seen_bare : (r : FuseRt) (cs : List Call) → map answer_of (map ticked_out (answers_from r cs)) ≡ map seen (bare_answers_from r cs)
unfolding ticked_out
seen_bare r [] = refl
seen_bare r (c ∷ cs) = ap (λ l. seen (tick_answer r c) ∷ l) (seen_bare (tick_answer r c).rt cs)

said_stored : (r : FuseRt) (hs : List HostCall) → said_from (state_out r) hs ≡ map seen (bare_answers_from r (map meant hs))
said_stored r hs = ap (map answer_of) (stored_run r hs) ∙ seen_bare r (map meant hs)

-- ---- the cut

emptied_stored : (r : FuseRt) → emptied (state_out r) ≡ state_out (with_tally empty_tally r)
unfolding state_out new_of
emptied_stored r = refl

second_stored : (r : FuseRt) (g : List HostCall) → host_second (state_out r) g ≡ state_out (second_from r (map meant g))
second_stored r g = ap emptied (left_stored r g) ∙ emptied_stored (left_by r (map meant g))

tally_of_lem : (r : FuseRt) → (state_out r).tally ≡ tally_out r.tally
unfolding state_out
tally_of_lem r = refl

-- of a run state that the fuse gave, where the fuse's theorem holds of what the calls mean
cut_stored : (r : FuseRt) (g h : List HostCall) → CutTold r (map meant g) (map meant h) → HostCut (state_out r) g h
cut_stored r g h told =
    let first : (host_left (state_out r) g).tally ≡ tally_out (left_by r (map meant g)).tally = ap (λ (z : RunState). z.tally) (left_stored r g) ∙ tally_of_lem (left_by r (map meant g)) in
    let second : (host_left (host_second (state_out r) g) h).tally ≡ tally_out (left_by (second_from r (map meant g)) (map meant h)).tally =
    ap (λ (z : RunState). (host_left z h).tally) (second_stored r g) ∙ ap (λ (z : RunState). z.tally) (left_stored (second_from r (map meant g)) h) ∙ tally_of_lem _
    in
    let whole : (host_left (state_out r) (g ++ h)).tally ≡ tally_out (left_by r (map meant g ++ map meant h)).tally =
    ap (λ (z : RunState). z.tally) (left_stored r (g ++ h)) ∙ tally_of_lem _ ∙ ap (λ (cs : List Call). tally_out (left_by r cs).tally) (map_append meant g h)
    in
    record {
      tally = (λ j. joined_tally (first j) (second j)) ∙ join_on_stored (left_by r (map meant g)).tally (left_by (second_from r (map meant g)) (map meant h)).tally ∙ ap tally_out told.tally ∙ sym whole;
      answers =
          ap (λ l. l ++ said_from (host_second (state_out r) g) h) (said_stored r g)
          ∙ ap (λ (z : RunState). map seen (bare_answers_from r (map meant g)) ++ said_from z h) (second_stored r g)
          ∙ ap (λ l. map seen (bare_answers_from r (map meant g)) ++ l) (said_stored (second_from r (map meant g)) h)
          ∙ sym (map_append seen (bare_answers_from r (map meant g)) (bare_answers_from (second_from r (map meant g)) (map meant h)))
          ∙ ap (map seen) told.answers
          ∙ ap (λ (cs : List Call). map seen (bare_answers_from r cs)) (sym (map_append meant g h))
          ∙ sym (said_stored r (g ++ h));
      state =
          ap (λ (z : RunState). host_second z h) (second_stored r g)
          ∙ second_stored (second_from r (map meant g)) h
          ∙ ap (λ (z : FuseRt). state_out (with_tally empty_tally z)) told.state
          ∙ ap (λ (cs : List Call). state_out (second_from r cs)) (sym (map_append meant g h))
          ∙ sym (second_stored r (g ++ h));
    }

-- ---- any number of stretches

-- where every cut in two is told: the first two stretches are one, and so on
module _ (rt : RunState) (told : (g h : List HostCall) → HostCut rt g h) where
  joined_on_lem : (g : List HostCall) (hs : List (List HostCall)) → joined_on (host_left rt g).tally (host_second rt g) hs ≡ (host_left rt (g ++ calls_of hs)).tally
  joined_on_lem g [] = ap (λ (l : List HostCall). (host_left rt l).tally) (sym (append-nil g))
  joined_on_lem g (h ∷ hs) =
      let cut = told g h in
      (λ j. joined_on (cut.tally j) (cut.state j) hs) ∙ joined_on_lem (g ++ h) hs ∙ ap (λ (l : List HostCall). (host_left rt l).tally) (append_assoc g h (calls_of hs))

  said_in_lem : (g : List HostCall) (hs : List (List HostCall)) → said_from rt g ++ said_in (host_second rt g) hs ≡ said_from rt (g ++ calls_of hs)
  said_in_lem g [] = append-nil (said_from rt g) ∙ ap (said_from rt) (sym (append-nil g))
  said_in_lem g (h ∷ hs) =
      let cut = told g h in
      sym (append_assoc (said_from rt g) (said_from (host_second rt g) h) (said_in (host_second (host_second rt g) h) hs))
      ∙ (λ j. cut.answers j ++ said_in (cut.state j) hs)
      ∙ said_in_lem (g ++ h) hs
      ∙ ap (said_from rt) (append_assoc g h (calls_of hs))

  stretches_told : (g : List HostCall) (hs : List (List HostCall)) → HostStretches rt g hs
  stretches_told g hs = record { tally = joined_on_lem g hs; answers = said_in_lem g hs }

-- ---- the claim

none_taken : FromTicks empty_tally
none_taken = record { history = []; is = refl }

-- of the second stretch after the calls f
again_stored : (r : FuseRt) (f g h : List HostCall) → HostCut (host_second (state_out r) f) g h
again_stored r f g h =
    let second = second_from r (map meant f) in
    subst (λ (z : RunState). HostCut z g h) (sym (second_stored r f)) (cut_stored second g h (cuts_told.from_any second none_taken (map meant g) (map meant h)))

reset_stored : (rt : RunState) (g h : List HostCall) → HostCut (reset_run rt) g h
unfolding reset_run
reset_stored rt g h = cut_stored (reset_of (state_in rt)) g h (cuts_told.from_reset (state_in rt) (map meant g) (map meant h))

new_stored : (g h : List HostCall) → HostCut new_run g h
new_stored g h = cut_stored new_of g h (cuts_told.from_new (map meant g) (map meant h))

pub host_cuts : HostCuts
unfolding reset_run
host_cuts = record {
  from_reset = reset_stored;
  from_new = new_stored;
  again_from_reset = λ rt f g h. again_stored (reset_of (state_in rt)) f g h;
  again_from_new = λ f g h. again_stored new_of f g h;
  many_from_reset = λ rt. stretches_told (reset_run rt) (reset_stored rt);
  many_from_new = stretches_told new_run new_stored;
}
