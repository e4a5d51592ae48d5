-- Demand 1: every journal ends, with its events and the end of its bytes, or with a refusal; and
-- exactly the causes of the table refuse a record.
use Rattle.std.proofs.Common.{Ok, Err}
use Prim.Native.Nat.{ℕ, ◌+◌, ◌-◌, ◌<◌}
use mathlib.Core.Path.{◌≡◌, refl, sym, ap, ap₂, ◌∙◌}
use mathlib.Core.List.{List, [], ◌∷◌, ◌++◌}
use native.Mathlib.Omega.{arith}
use native.Mathlib.Numerals.{add-one}
use lib.ListN.{length, take, drop, length-drop, take-append-drop}
use lib.Seq.{drop-cons}
use Rattle.journal_frames.specs.Frames.{body_len}
use Rattle.journal_records.specs.Little.{byte_at}
use Rattle.journal_refusals.specs.declared.Refusal.{Refusal}
use Rattle.journal_refusals.specs.declared.Refusal.TheVariants.{CutBody}
use Rattle.journal_refusals.specs.declared.Seen.{Seen}
use Rattle.journal_refusals.specs.Table.{Accepted, Refused, Judged, judged_of}
use Rattle.journal_refusals.proofs.Exactly.{numbers}
use Rattle.stream.specs.Stream.{wait, halt, End, awaits, halted, Settled, telling, settled}
use Rattle.journal_reader.specs.State.{State, seen_in}
use Rattle.journal_reader.specs.Reading.{Instruction, on_bytes}
use Rattle.stream.proofs.Stream.{impossible, joined, settled_wait, settled_halt, settled_still, Front, front}
use Rattle.journal_reader.proofs.Reading.{machine, RefusedBy, halted_for, waited_for, next_refused, halted_judged, waiting_judged}
use Rattle.journal.specs.Journal.{start_state, ended, refused, Meaning, ending_of, journal_of}
use Rattle.journal.specs.Ends.{judged_at, RefusedAt, LeftAsBefore, Ends, with_end, with_refusal, RefusedAlike}
use Rattle.journal.proofs.Parts.{meaning_by, meaning_is}

-- ---- one record at a place

-- the bytes from place p on
at_place : (s : List ℕ) (p : ℕ) → p < length s → drop p s ≡ byte_at s p ∷ drop (p + 1) s
at_place s p h = rw (drop-cons s p 0 h, add-one) refl

module _ (kinds : List ℕ) (st : State) (s : List ℕ) (p : ℕ) (h : p < length s) where
  -- a reader that halts at p does so by the table
  halted_at : (r : Refusal) → on_bytes kinds st (drop p s) ≡ halt r → judged_at kinds st s p ≡ Refused r
  unfolding judged_at
  halted_at r e = halted_judged kinds st (byte_at s p) (drop (p + 1) s) r (rw (at_place s p h) at e)

  -- one that waits there has a record that is cut
  waiting_at : on_bytes kinds st (drop p s) ≡ wait → judged_at kinds st s p ≡ Refused CutBody
  unfolding judged_at
  waiting_at e = waiting_judged kinds st (byte_at s p) (drop (p + 1) s) (rw (at_place s p h) at e)

  -- and what the table refuses, the reader halts at, or waits for where it is cut
  refused_at : (r : Refusal) → judged_at kinds st s p ≡ Refused r → RefusedBy kinds st (byte_at s p) (drop (p + 1) s) r
  unfolding judged_at
  refused_at r e = next_refused kinds st (byte_at s p) (drop (p + 1) s) r e

-- ---- a whole journal

-- the bytes before the place where it settles are a journal of their own, which ends there
module _ (kinds s : List ℕ) (a : Settled State Instruction Refusal) (f : Front (on_bytes kinds) (machine kinds) start_state s a) where
  before_is : journal_of kinds (take f.place s) ≡ meaning_by 0 (record { state = a.state; rest = []; told = a.told; end = awaits })
  before_is = meaning_is kinds (take f.place s) _ f.before

  place_is : length s - length a.rest ≡ f.place
  place_is = omega (arith, ap length f.rest_is, length-drop f.place s, f.within)

  refused_before : settled (on_bytes kinds) start_state s ≡ a → (r : Refusal) → LeftAsBefore kinds s r f.place
  refused_before e r = record {
    number = numbers r;
    events = ap (λ (m : Meaning). m.events) (meaning_is kinds s a e) ∙ sym (ap (λ (m : Meaning). m.events) before_is);
    left = ap (λ (m : Meaning). m.left) (meaning_is kinds s a e) ∙ sym (ap (λ (m : Meaning). m.left) before_is);
  }

  refused_there : (r : Refusal) → f.place < length s → judged_at kinds a.state s f.place ≡ Refused r → RefusedAt kinds s r f.place
  refused_there r h c = record {
    inside = h;
    before = ap (λ (m : Meaning). m.ending) before_is;
    cause = rw before_is c;
  }

-- ---- refused: where, why, and what is left

-- a journal that does not settle at its end has a record at its place
rest_inside : (s : List ℕ) (p k : ℕ) (u : List ℕ) → k ∷ u ≡ drop p s → p < length s
rest_inside s p k u e = omega (arith, ap length e, length-drop p s)

module _ (kinds s : List ℕ) (a : Settled State Instruction Refusal) (e : settled (on_bytes kinds) start_state s ≡ a) (f : Front (on_bytes kinds) (machine kinds) start_state s a) where
  refused_with_lem : (r : Refusal) → (journal_of kinds s).ending ≡ refused r (length s - length a.rest) → f.place < length s → judged_at kinds a.state s f.place ≡ Refused r → Ends kinds s
  refused_with_lem r q h c =
      with_refusal r f.place (q ∙ ap (refused r) (place_is kinds s a f)) (refused_there kinds s a f r h c) (refused_before kinds s a f e r)

-- no refusal has been there before the end
no_refusal : (kinds s : List ℕ) → (journal_of kinds s).ending ≡ ended → ((r : Refusal) (p : ℕ) → RefusedAt kinds s r p → (journal_of kinds s).ending ≡ refused r p)
    → (p : ℕ) → p < length s → (journal_of kinds (take p s)).ending ≡ ended → (x : Judged) → judged_at kinds (journal_of kinds (take p s)).left.state s p ≡ x → x ≡ Accepted
no_refusal kinds s e back p h b (Ok _) c = refl
no_refusal kinds s e back p h b (Err r) c =
    let q : ended ≡ refused r p = sym e ∙ back r p (record { inside = h; before = b; cause = c }) in
    impossible cc

-- ---- the other way: what the table refuses is refused, at its place

-- a journal that ends with `ended` has settled with nothing left
ended_by : (p : ℕ) (rest : List ℕ) (x : End Refusal) → ending_of p rest x ≡ ended → (rest ≡ []) × (x ≡ awaits)
ended_by p [] awaits e = (refl, refl)
ended_by p (k ∷ u) awaits e = impossible cc
ended_by p [] (halted r) e = impossible cc
ended_by p (k ∷ u) (halted r) e = impossible cc

module _ (kinds s : List ℕ) (p : ℕ) (h : p < length s) where
  abbrev up_to : Settled State Instruction Refusal
  up_to = settled (on_bytes kinds) start_state (take p s)

  -- the journal goes on after the bytes before p
  goes_on_lem : up_to.rest ≡ [] → settled (on_bytes kinds) start_state s ≡ telling up_to.told (settled (on_bytes kinds) up_to.state (drop p s))
  goes_on_lem e =
      ap (settled (on_bytes kinds) start_state) (sym (take-append-drop p s))
      ∙ joined (on_bytes kinds) (machine kinds) start_state (take p s) (drop p s)
      ∙ ap (λ (u : List ℕ). telling up_to.told (settled (on_bytes kinds) up_to.state (u ++ drop p s))) e

  -- it is refused where it settles at p
  settles_at : (x : End Refusal) (r : Refusal) → up_to.rest ≡ [] → settled (on_bytes kinds) up_to.state (drop p s) ≡ record { state = up_to.state; rest = drop p s; told = []; end = x }
      → ((q k : ℕ) (u : List ℕ) → ending_of q (k ∷ u) x ≡ refused r q) → (journal_of kinds s).ending ≡ refused r p
  settles_at x r e g d =
      let a = goes_on_lem e ∙ ap (telling up_to.told) g in
      let l : length s - length (drop p s) ≡ p = omega (arith, length-drop p s) in
      ap (λ (m : Meaning). m.ending) (meaning_is kinds s _ a)
      ∙ ap (λ (q : ℕ). ending_of q (drop p s) x) l
      ∙ ap (λ (u : List ℕ). ending_of p u x) (at_place s p h)
      ∙ d p (byte_at s p) (drop (p + 1) s)

  refused_by_lem : (r : Refusal) → up_to.rest ≡ [] → RefusedBy kinds up_to.state (byte_at s p) (drop (p + 1) s) r → (journal_of kinds s).ending ≡ refused r p
  refused_by_lem r e (waited_for c n) =
      let w : on_bytes kinds up_to.state (drop p s) ≡ wait = rw (at_place s p h) n in
      settles_at awaits r e (settled_wait (on_bytes kinds) (machine kinds).there up_to.state (drop p s) w) (λ q k u. ap (λ (x : Refusal). refused x q) (sym c))
  refused_by_lem r e (halted_for n) =
      let w : on_bytes kinds up_to.state (drop p s) ≡ halt r = rw (at_place s p h) n in
      settles_at (halted r) r e (settled_halt (on_bytes kinds) (machine kinds).there up_to.state (drop p s) r w) (λ q k u. refl)

-- what the table refuses is refused, with its number and its place
pub refused_at_ends : (kinds s : List ℕ) (r : Refusal) (p : ℕ) → RefusedAt kinds s r p → (journal_of kinds s).ending ≡ refused r p
unfolding journal_of
refused_at_ends kinds s r p t =
    let b = ended_by (length (take p s) - length (up_to kinds s p t.inside).rest) (up_to kinds s p t.inside).rest (up_to kinds s p t.inside).end t.before in
    refused_by_lem kinds s p t.inside r b.0 (refused_at kinds (up_to kinds s p t.inside).state s p t.inside r t.cause)

-- ---- demand 1

ends_by : (kinds s : List ℕ) (rest : List ℕ) (x : End Refusal) → (settled (on_bytes kinds) start_state s).rest ≡ rest → (settled (on_bytes kinds) start_state s).end ≡ x → Ends kinds s
unfolding journal_of
ends_by kinds s [] awaits e g =
    let q : (journal_of kinds s).ending ≡ ended = rw (e, g) refl in
    with_end q (λ p h b. no_refusal kinds s q (refused_at_ends kinds s) p h b _ refl)
ends_by kinds s (k ∷ u) awaits e g =
    let a = settled (on_bytes kinds) start_state s in
    let f = front (on_bytes kinds) (machine kinds) start_state s in
    let h = rest_inside s f.place k u (sym e ∙ f.rest_is) in
    let w : on_bytes kinds a.state (drop f.place s) ≡ wait = rw f.rest_is at (rw g at (settled_still (on_bytes kinds) (machine kinds) start_state s)) in
    refused_with_lem kinds s a refl f CutBody (rw (e, g) refl) h (waiting_at kinds a.state s f.place h w)
ends_by kinds s [] (halted r) e g =
    let a = settled (on_bytes kinds) start_state s in
    absurd (never_halts a.state r (rw e at (rw g at (settled_still (on_bytes kinds) (machine kinds) start_state s))))
  where
    never_halts : (st : State) (r : Refusal) → on_bytes kinds st [] ≡ halt r → ⊥
    never_halts st r q = let n = (machine kinds).idle st in impossible cc
ends_by kinds s (k ∷ u) (halted r) e g =
    let a = settled (on_bytes kinds) start_state s in
    let f = front (on_bytes kinds) (machine kinds) start_state s in
    let h = rest_inside s f.place k u (sym e ∙ f.rest_is) in
    let w : on_bytes kinds a.state (drop f.place s) ≡ halt r = rw f.rest_is at (rw g at (settled_still (on_bytes kinds) (machine kinds) start_state s)) in
    refused_with_lem kinds s a refl f r (rw (e, g) refl) h (halted_at kinds a.state s f.place h r w)

-- every journal of bytes ends
pub journal_ends : (kinds s : List ℕ) → Ends kinds s
journal_ends kinds s = ends_by kinds s (settled (on_bytes kinds) start_state s).rest (settled (on_bytes kinds) start_state s).end refl refl

-- ---- the same record after the same is refused alike

pub refused_alike : RefusedAlike
unfolding judged_at
refused_alike kinds s p t q r d h b seen same =
    let after = seen_in (journal_of kinds (take q t)).left.state in
    let n = body_len kinds (byte_at s p) in
    let e = ap (λ (x : Seen). judged_of kinds x (byte_at s p) (take n (drop (p + 1) s))) seen ∙ ap₂ (judged_of kinds after) same.kind same.body in
    record { inside = h; before = b; cause = sym e ∙ d.cause }
