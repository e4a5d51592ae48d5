-- The laws of a machine over bytes that come in parts.
use Prim.Native.Nat.{ℕ, zero, suc, ◌+◌, ◌-◌, ◌≤◌, ◌<◌}
use mathlib.Core.Bool.{Bool, true, false}
use mathlib.Core.List.{List, [], ◌∷◌, ◌++◌, append_assoc, append-nil}
use mathlib.Core.Path.{◌≡◌, refl, sym, ap, ◌∙◌}
use native.Mathlib.Omega.{arith}
use lib.ListN.{length, take, drop, length-append, length-drop}
use lib.Seq.{drop-append-le, drop-drop, take-add, drop_at, length-take-le}
use Rattle.stream.specs.Stream.{Next, wait, halt, go, tell, End, awaits, halted, Settled, telling, after, settle, settled, Advanced, past, up_to, advance, advanced, Reached, goes_on, takes, size, Machine, fed, whole}

-- what has no case, from an equation of two constructors
pub impossible : {X : Type 0} → ◌≡◌ {A = ℕ} 0 1 → X
impossible z = absurd (omega arith)

with_told : {R E H : Type 0} → Settled R E H → List E → Settled R E H
with_told a es = record { state = a.state; rest = a.rest; told = es; end = a.end }

-- what is told before what is told
pub telling_telling : {R E H : Type 0} (es fs : List E) (a : Settled R E H) → telling es (telling fs a) ≡ telling (es ++ fs) a
unfolding with_told
telling_telling es fs a = ap (with_told a) (sym (append_assoc es fs a.told))

-- ---- record by record: what is taken is there

module _ {R E H : Type 0} (next : R → List ℕ → Next R E H) (there : (r : R) (s : List ℕ) → takes (next r s) ≡ true → (0 < size (next r s)) × (size (next r s) ≤ length s)) where
  pub goes : (r : R) (s : List ℕ) (r' : R) (n : ℕ) → next r s ≡ go r' n → (0 < n) × (n ≤ length s)
  goes r s r' n e = let b = there r s (ap takes e) in (omega (arith, b.0, ap size e), omega (arith, b.1, ap size e))

  pub tells_on : (r : R) (s : List ℕ) (r' : R) (n : ℕ) (t : E) → next r s ≡ tell r' n t → (0 < n) × (n ≤ length s)
  tells_on r s r' n t e = let b = there r s (ap takes e) in (omega (arith, b.0, ap size e), omega (arith, b.1, ap size e))

  -- the equation of one record
  step_is : (f : ℕ) (r : R) (s : List ℕ) (x : Next R E H) → next r s ≡ x → settle next (suc f) r s ≡ after r s x (λ r' n. settle next f r' (drop n s))
  unfolding settle
  step_is f r s x e = ap (λ (y : Next R E H). after r s y (λ r' n. settle next f r' (drop n s))) e

  -- what is left is no longer than what there was
  rest_by : (f : ℕ) → ((r : R) (s : List ℕ) → length (settle next f r s).rest ≤ length s)
      → (r : R) (s : List ℕ) (x : Next R E H) → next r s ≡ x → length (settle next (suc f) r s).rest ≤ length s
  rest_by f ih r s wait e = rw (step_is f r s wait e) (omega arith)
  rest_by f ih r s (halt h) e = rw (step_is f r s (halt h) e) (omega arith)
  rest_by f ih r s (go r' n) e = rw (step_is f r s (go r' n) e) (omega (arith, ih r' (drop n s), length-drop n s))
  rest_by f ih r s (tell r' n t) e = rw (step_is f r s (tell r' n t) e) (omega (arith, ih r' (drop n s), length-drop n s))

  rest_le : (f : ℕ) (r : R) (s : List ℕ) → length (settle next f r s).rest ≤ length s
  unfolding settle
  rest_le zero r s = omega arith
  rest_le (suc f) r s = rest_by f (λ r' u. rest_le f r' u) r s (next r s) refl

  -- any count of records above the number of bytes does
  fuel_by : (f g : ℕ) → ((r : R) (s : List ℕ) → length s < f → length s < g → settle next f r s ≡ settle next g r s)
      → (r : R) (s : List ℕ) → length s ≤ f → length s ≤ g → (x : Next R E H) → next r s ≡ x → settle next (suc f) r s ≡ settle next (suc g) r s
  fuel_by f g ih r s p q wait e = step_is f r s wait e ∙ sym (step_is g r s wait e)
  fuel_by f g ih r s p q (halt h) e = step_is f r s (halt h) e ∙ sym (step_is g r s (halt h) e)
  fuel_by f g ih r s p q (go r' n) e =
      let b = goes r s r' n e in
      step_is f r s (go r' n) e ∙ ih r' (drop n s) (omega (arith, length-drop n s)) (omega (arith, length-drop n s)) ∙ sym (step_is g r s (go r' n) e)
  fuel_by f g ih r s p q (tell r' n t) e =
      let b = tells_on r s r' n t e in
      step_is f r s (tell r' n t) e
      ∙ ap (telling (t ∷ [])) (ih r' (drop n s) (omega (arith, length-drop n s)) (omega (arith, length-drop n s)))
      ∙ sym (step_is g r s (tell r' n t) e)

  fuel : (f g : ℕ) (r : R) (s : List ℕ) → length s < f → length s < g → settle next f r s ≡ settle next g r s
  fuel zero g r s p q = absurd (omega arith)
  fuel (suc f) zero r s p q = absurd (omega arith)
  fuel (suc f) (suc g) r s p q = fuel_by f g (λ r' u p' q'. fuel f g r' u p' q') r s (omega arith) (omega arith) (next r s) refl

  -- one record, as a program takes it
  pub settled_wait : (r : R) (s : List ℕ) → next r s ≡ wait → settled next r s ≡ record { state = r; rest = s; told = []; end = awaits }
  unfolding settled
  settled_wait r s e = step_is (length s) r s wait e

  pub settled_halt : (r : R) (s : List ℕ) (h : H) → next r s ≡ halt h → settled next r s ≡ record { state = r; rest = s; told = []; end = halted h }
  unfolding settled
  settled_halt r s h e = step_is (length s) r s (halt h) e

  pub settled_go : (r : R) (s : List ℕ) (r' : R) (n : ℕ) → next r s ≡ go r' n → settled next r s ≡ settled next r' (drop n s)
  unfolding settled
  settled_go r s r' n e =
      let b = goes r s r' n e in
      step_is (length s) r s (go r' n) e ∙ fuel (length s) (suc (length (drop n s))) r' (drop n s) (omega (arith, length-drop n s)) (omega arith)

  pub settled_tell : (r : R) (s : List ℕ) (r' : R) (n : ℕ) (t : E) → next r s ≡ tell r' n t → settled next r s ≡ telling (t ∷ []) (settled next r' (drop n s))
  unfolding settled
  settled_tell r s r' n t e =
      let b = tells_on r s r' n t e in
      step_is (length s) r s (tell r' n t) e
      ∙ ap (telling (t ∷ [])) (fuel (length s) (suc (length (drop n s))) r' (drop n s) (omega (arith, length-drop n s)) (omega arith))

-- ---- from bytes that come in parts

module _ {R E H : Type 0} (next : R → List ℕ → Next R E H) (m : Machine next) where
  -- a record alone gives the same, whatever is after it
  alone : (r : R) (s t : List ℕ) → takes (next r s) ≡ true → next r (take (size (next r s)) s ++ t) ≡ next r s
  alone r s t y =
      m.stands r (take (size (next r s)) s) t (λ w. not_wait (next r s) y (sym (m.enough r s y) ∙ w)) ∙ m.enough r s y
    where
      not_wait : (x : Next R E H) → takes x ≡ true → x ≡ wait → ⊥
      not_wait x p q = let z : ◌≡◌ {A = Bool} true false = sym p ∙ ap takes q in impossible cc

  -- to take in s and then t, after what s left over, is to take in s ++ t
  abbrev Joined : ℕ → R → List ℕ → List ℕ → Type 0
  Joined f r s t =
      settle next f r (s ++ t) ≡ telling (settle next f r s).told (settle next f (settle next f r s).state ((settle next f r s).rest ++ t))

  joined_by : (f : ℕ) → ((r : R) (s t : List ℕ) → length (s ++ t) < f → Joined f r s t)
      → (r : R) (s t : List ℕ) → length (s ++ t) ≤ f → (x : Next R E H) → next r s ≡ x → Joined (suc f) r s t
  joined_by f ih r s t p wait e = rw (step_is next m.there f r s wait e)
  joined_by f ih r s t p (halt h) e = rw (step_is next m.there f r s (halt h) e)
  joined_by f ih r s t p (go r' n) e =
      let b = goes next m.there r s r' n e in
      let u = drop n s in
      let a = settle next f r' u in
      let l : length (u ++ t) < f = omega (arith, length-append s t, length-append u t, length-drop n s) in
      let k : length (a.rest ++ t) < f = omega (arith, length-append a.rest t, length-append u t, rest_le next m.there f r' u) in
      rw (step_is next m.there f r s (go r' n) e)
      (step_is next m.there f r (s ++ t) (go r' n) (m.stands r s t (λ w. impossible cc) ∙ e)
      ∙ ap (λ (v : List ℕ). settle next f r' v) (drop-append-le n s t b.1)
      ∙ ih r' u t l
      ∙ ap (telling a.told) (fuel next m.there f (suc f) a.state (a.rest ++ t) k (omega arith)))
  joined_by f ih r s t p (tell r' n v) e =
      let b = tells_on next m.there r s r' n v e in
      let u = drop n s in
      let a = settle next f r' u in
      let l : length (u ++ t) < f = omega (arith, length-append s t, length-append u t, length-drop n s) in
      let k : length (a.rest ++ t) < f = omega (arith, length-append a.rest t, length-append u t, rest_le next m.there f r' u) in
      rw (step_is next m.there f r s (tell r' n v) e)
      (step_is next m.there f r (s ++ t) (tell r' n v) (m.stands r s t (λ w. impossible cc) ∙ e)
      ∙ ap (λ (w : List ℕ). telling (v ∷ []) (settle next f r' w)) (drop-append-le n s t b.1)
      ∙ ap (telling (v ∷ [])) (ih r' u t l)
      ∙ telling_telling (v ∷ []) a.told (settle next f a.state (a.rest ++ t))
      ∙ ap (telling (v ∷ a.told)) (fuel next m.there f (suc f) a.state (a.rest ++ t) k (omega arith)))

  joined_at : (f : ℕ) (r : R) (s t : List ℕ) → length (s ++ t) < f → Joined f r s t
  joined_at zero r s t p = absurd (omega arith)
  joined_at (suc f) r s t p = joined_by f (λ r' u v q. joined_at f r' u v q) r s t (omega arith) (next r s) refl

  pub joined : (r : R) (s t : List ℕ)
      → settled next r (s ++ t) ≡ telling (settled next r s).told (settled next (settled next r s).state ((settled next r s).rest ++ t))
  unfolding settled
  joined r s t =
      let f = suc (length (s ++ t)) in
      let e : settle next f r s ≡ settle next (suc (length s)) r s = fuel next m.there f (suc (length s)) r s (omega (arith, length-append s t)) (omega arith) in
      let a = settle next (suc (length s)) r s in
      rw e at (joined_at f r s t (omega arith))
      ∙ ap (telling a.told)
      (fuel next m.there f (suc (length (a.rest ++ t))) a.state (a.rest ++ t)
      (omega (arith, rest_le next m.there (suc (length s)) r s, length-append s t, length-append a.rest t)) (omega arith))

  -- parts of any sizes give what the whole gives
  pub parts_are_whole : (r : R) (rest : List ℕ) (parts : List (List ℕ)) → fed next r rest parts ≡ settled next r (rest ++ whole parts)
  unfolding fed whole
  parts_are_whole r rest [] = ap (settled next r) (sym (append-nil rest))
  parts_are_whole r rest (s ∷ parts) =
      let a = settled next r (rest ++ s) in
      ap (telling a.told) (parts_are_whole a.state a.rest parts)
      ∙ sym (joined r (rest ++ s) (whole parts))
      ∙ ap (settled next r) (append_assoc rest s (whole parts))

  -- where a machine has settled, it waits or it halts, as it says
  abbrev pub Still : Settled R E H → End H → Type 0
  Still a awaits = next a.state a.rest ≡ wait
  Still a (halted h) = next a.state a.rest ≡ halt h

  still_telling : (es : List E) (a : Settled R E H) (x : End H) → Still a x → Still (telling es a) x
  still_telling es a awaits p = p
  still_telling es a (halted h) p = p

  still_by : (f : ℕ) → ((r : R) (s : List ℕ) → length s < f → Still (settle next f r s) (settle next f r s).end)
      → (r : R) (s : List ℕ) → length s ≤ f → (x : Next R E H) → next r s ≡ x → Still (settle next (suc f) r s) (settle next (suc f) r s).end
  still_by f ih r s p wait e = rw (step_is next m.there f r s wait e) e
  still_by f ih r s p (halt h) e = rw (step_is next m.there f r s (halt h) e) e
  still_by f ih r s p (go r' n) e =
      let b = goes next m.there r s r' n e in
      rw (step_is next m.there f r s (go r' n) e) (ih r' (drop n s) (omega (arith, length-drop n s)))
  still_by f ih r s p (tell r' n t) e =
      let b = tells_on next m.there r s r' n t e in
      rw (step_is next m.there f r s (tell r' n t) e) (still_telling (t ∷ []) (settle next f r' (drop n s)) (settle next f r' (drop n s)).end (ih r' (drop n s) (omega (arith, length-drop n s))))

  still_at : (f : ℕ) (r : R) (s : List ℕ) → length s < f → Still (settle next f r s) (settle next f r s).end
  still_at zero r s p = absurd (omega arith)
  still_at (suc f) r s p = still_by f (λ r' u q. still_at f r' u q) r s (omega arith) (next r s) refl

  pub settled_still : (r : R) (s : List ℕ) → Still (settled next r s) (settled next r s).end
  unfolding settled
  settled_still r s = still_at (suc (length s)) r s (omega arith)

  -- ---- the bytes that were taken

  -- the rest is what is after some place, and the bytes before that place alone give the same, and
  -- leave nothing
  pub record Front (r : R) (s : List ℕ) (a : Settled R E H) : Type 0 where
    pub place : ℕ
    pub within : place ≤ length s
    pub rest_is : a.rest ≡ drop place s
    pub before : settled next r (take place s) ≡ record { state = a.state; rest = []; told = a.told; end = awaits }

  front_none : (r : R) (s : List ℕ) (x : End H) → Front r s (record { state = r; rest = s; told = []; end = x })
  front_none r s x = record { place = 0; within = omega arith; rest_is = refl; before = settled_wait next m.there r [] (m.idle r) }

  drop_front : (s : List ℕ) (n p : ℕ) → n ≤ length s → drop n (take (n + p) s) ≡ take p (drop n s)
  drop_front s n p h = ap (drop n) (take-add n p s) ∙ drop_at (take n s) (take p (drop n s)) n (length-take-le n s h)

  -- one record in front of bytes that were taken
  first_is : (r : R) (s : List ℕ) (n p : ℕ) → takes (next r s) ≡ true → size (next r s) ≡ n → next r (take (n + p) s) ≡ next r s
  first_is r s n p y e = ap (next r) (take-add n p s) ∙ rw e at (alone r s (take p (drop n s)) y)

  before_go : (r : R) (s : List ℕ) (r' : R) (n : ℕ) → next r s ≡ go r' n → (p : ℕ) → settled next r (take (n + p) s) ≡ settled next r' (take p (drop n s))
  before_go r s r' n e p =
      settled_go next m.there r (take (n + p) s) r' n (first_is r s n p (ap takes e) (ap size e) ∙ e)
      ∙ ap (settled next r') (drop_front s n p (goes next m.there r s r' n e).1)

  before_tell : (r : R) (s : List ℕ) (r' : R) (n : ℕ) (t : E) → next r s ≡ tell r' n t → (p : ℕ)
      → settled next r (take (n + p) s) ≡ telling (t ∷ []) (settled next r' (take p (drop n s)))
  before_tell r s r' n t e p =
      settled_tell next m.there r (take (n + p) s) r' n t (first_is r s n p (ap takes e) (ap size e) ∙ e)
      ∙ ap (λ (u : List ℕ). telling (t ∷ []) (settled next r' u)) (drop_front s n p (tells_on next m.there r s r' n t e).1)

  front_go : (r : R) (s : List ℕ) (r' : R) (n : ℕ) (a : Settled R E H) → next r s ≡ go r' n → Front r' (drop n s) a → Front r s a
  front_go r s r' n a e f =
      let b = goes next m.there r s r' n e in
      let p = f.place in
      record {
        place = n + p;
        within = omega (arith, f.within, length-drop n s, b.1);
        rest_is = f.rest_is ∙ drop-drop p n s;
        before = before_go r s r' n e p ∙ f.before;
      }

  front_tell : (r : R) (s : List ℕ) (r' : R) (n : ℕ) (t : E) (a : Settled R E H) → next r s ≡ tell r' n t → Front r' (drop n s) a → Front r s (telling (t ∷ []) a)
  front_tell r s r' n t a e f =
      let b = tells_on next m.there r s r' n t e in
      let p = f.place in
      record {
        place = n + p;
        within = omega (arith, f.within, length-drop n s, b.1);
        rest_is = f.rest_is ∙ drop-drop p n s;
        before = before_tell r s r' n t e p ∙ ap (telling (t ∷ [])) f.before;
      }

  front_by : (f : ℕ) → ((r : R) (s : List ℕ) → length s < f → Front r s (settle next f r s))
      → (r : R) (s : List ℕ) → length s ≤ f → (x : Next R E H) → next r s ≡ x → Front r s (settle next (suc f) r s)
  front_by f ih r s p wait e = rw (step_is next m.there f r s wait e) (front_none r s awaits)
  front_by f ih r s p (halt h) e = rw (step_is next m.there f r s (halt h) e) (front_none r s (halted h))
  front_by f ih r s p (go r' n) e =
      let b = goes next m.there r s r' n e in
      rw (step_is next m.there f r s (go r' n) e) (front_go r s r' n (settle next f r' (drop n s)) e (ih r' (drop n s) (omega (arith, length-drop n s))))
  front_by f ih r s p (tell r' n t) e =
      let b = tells_on next m.there r s r' n t e in
      rw (step_is next m.there f r s (tell r' n t) e) (front_tell r s r' n t (settle next f r' (drop n s)) e (ih r' (drop n s) (omega (arith, length-drop n s))))

  front_at : (f : ℕ) (r : R) (s : List ℕ) → length s < f → Front r s (settle next f r s)
  front_at zero r s p = absurd (omega arith)
  front_at (suc f) r s p = front_by f (λ r' u q. front_at f r' u q) r s (omega arith) (next r s) refl

  pub front : (r : R) (s : List ℕ) → Front r s (settled next r s)
  unfolding settled
  front r s = front_at (suc (length s)) r s (omega arith)

  -- ---- up to the first thing told

  turn_is : (f : ℕ) (r : R) (s : List ℕ) (x : Next R E H) → next r s ≡ x → advance next (suc f) r s ≡ up_to r x (λ r' n. advance next f r' (drop n s))
  unfolding advance
  turn_is f r s x e = ap (λ (y : Next R E H). up_to r y (λ r' n. advance next f r' (drop n s))) e

  turns_by : (f g : ℕ) → ((r : R) (s : List ℕ) → length s < f → length s < g → advance next f r s ≡ advance next g r s)
      → (r : R) (s : List ℕ) → length s ≤ f → length s ≤ g → (x : Next R E H) → next r s ≡ x → advance next (suc f) r s ≡ advance next (suc g) r s
  turns_by f g ih r s p q wait e = turn_is f r s wait e ∙ sym (turn_is g r s wait e)
  turns_by f g ih r s p q (halt h) e = turn_is f r s (halt h) e ∙ sym (turn_is g r s (halt h) e)
  turns_by f g ih r s p q (go r' n) e =
      let b = goes next m.there r s r' n e in
      turn_is f r s (go r' n) e
      ∙ ap (past n) (ih r' (drop n s) (omega (arith, length-drop n s)) (omega (arith, length-drop n s)))
      ∙ sym (turn_is g r s (go r' n) e)
  turns_by f g ih r s p q (tell r' n t) e = turn_is f r s (tell r' n t) e ∙ sym (turn_is g r s (tell r' n t) e)

  turns : (f g : ℕ) (r : R) (s : List ℕ) → length s < f → length s < g → advance next f r s ≡ advance next g r s
  turns zero g r s p q = absurd (omega arith)
  turns (suc f) zero r s p q = absurd (omega arith)
  turns (suc f) (suc g) r s p q = turns_by f g (λ r' u p' q'. turns f g r' u p' q') r s (omega arith) (omega arith) (next r s) refl

  -- one record more that tells nothing
  pub advanced_go : (r : R) (s : List ℕ) (r' : R) (n : ℕ) → next r s ≡ go r' n → advanced next r s ≡ past n (advanced next r' (drop n s))
  unfolding advanced
  advanced_go r s r' n e =
      let b = goes next m.there r s r' n e in
      turn_is (length s) r s (go r' n) e ∙ ap (past n) (turns (length s) (suc (length (drop n s))) r' (drop n s) (omega (arith, length-drop n s)) (omega arith))

  -- anything else, and it is there
  pub advanced_wait : (r : R) (s : List ℕ) → next r s ≡ wait → advanced next r s ≡ record { state = r; used = 0; next = wait }
  unfolding advanced
  advanced_wait r s e = turn_is (length s) r s wait e

  pub advanced_halt : (r : R) (s : List ℕ) (h : H) → next r s ≡ halt h → advanced next r s ≡ record { state = r; used = 0; next = halt h }
  unfolding advanced
  advanced_halt r s h e = turn_is (length s) r s (halt h) e

  pub advanced_tell : (r : R) (s : List ℕ) (r' : R) (n : ℕ) (t : E) → next r s ≡ tell r' n t → advanced next r s ≡ record { state = r; used = 0; next = tell r' n t }
  unfolding advanced
  advanced_tell r s r' n t e = turn_is (length s) r s (tell r' n t) e

  -- what is left of the bytes gives what all of them give, and what the machine does next is what
  -- it says
  pub record Ahead (r : R) (s : List ℕ) (a : Advanced R E H) : Type 0 where
    pub rest : settled next r s ≡ settled next a.state (drop a.used s)
    pub then : next a.state (drop a.used s) ≡ a.next
    pub stops : goes_on a.next ≡ false
    pub within : a.used ≤ length s

  ahead_past : (r r' : R) (s : List ℕ) (n : ℕ) (a : Advanced R E H) → n ≤ length s → settled next r s ≡ settled next r' (drop n s) → Ahead r' (drop n s) a → Ahead r s (past n a)
  ahead_past r r' s n a l e h = record {
    rest = rw (drop-drop a.used n s) at (e ∙ h.rest);
    then = rw (drop-drop a.used n s) at h.then;
    stops = h.stops;
    within = omega (arith, h.within, length-drop n s);
  }

  ahead_by : (f : ℕ) → ((r : R) (s : List ℕ) → length s < f → Ahead r s (advance next f r s))
      → (r : R) (s : List ℕ) → length s ≤ f → (x : Next R E H) → next r s ≡ x → Ahead r s (advance next (suc f) r s)
  ahead_by f ih r s p wait e = rw (turn_is f r s wait e) (record { rest = refl; then = e; stops = refl; within = omega arith })
  ahead_by f ih r s p (halt h) e = rw (turn_is f r s (halt h) e) (record { rest = refl; then = e; stops = refl; within = omega arith })
  ahead_by f ih r s p (go r' n) e =
      let b = goes next m.there r s r' n e in
      rw (turn_is f r s (go r' n) e)
      (ahead_past r r' s n (advance next f r' (drop n s)) b.1 (settled_go next m.there r s r' n e) (ih r' (drop n s) (omega (arith, length-drop n s))))
  ahead_by f ih r s p (tell r' n t) e = rw (turn_is f r s (tell r' n t) e) (record { rest = refl; then = e; stops = refl; within = omega arith })

  ahead_at : (f : ℕ) (r : R) (s : List ℕ) → length s < f → Ahead r s (advance next f r s)
  ahead_at zero r s p = absurd (omega arith)
  ahead_at (suc f) r s p = ahead_by f (λ r' u q. ahead_at f r' u q) r s (omega arith) (next r s) refl

  pub ahead : (r : R) (s : List ℕ) → Ahead r s (advanced next r s)
  unfolding advanced
  ahead r s = ahead_at (suc (length s)) r s (omega arith)

  -- ---- from place to place

  abbrev with_used : Advanced R E H → ℕ → Advanced R E H
  with_used a u = record { state = a.state; used = u; next = a.next }

  pub past_none : (k : ℕ) (a : Advanced R E H) → k ≡ 0 → a ≡ past k a
  past_none k a e = ap (with_used a) (let f : a.used ≡ k + a.used = omega arith in f)

  pub past_past : (n k l : ℕ) (a : Advanced R E H) → n + k ≡ l → past n (past k a) ≡ past l a
  past_past n k l a e = ap (with_used a) (let f : n + (k + a.used) ≡ l + a.used = omega arith in f)

  -- no way at all
  pub reached_none : (r : R) (s : List ℕ) (at : ℕ) → at ≤ length s → Reached next r s at r at
  reached_none r s at h = record { from = omega arith; within = h; ahead = past_none (at - at) (advanced next r (drop at s)) (omega arith) }

  -- one record
  pub reached_one : (r : R) (s : List ℕ) (at : ℕ) (r' : R) (at' : ℕ) → at ≤ length s → at ≤ at' → next r (drop at s) ≡ go r' (at' - at) → Reached next r s at r' at'
  reached_one r s at r' at' h f e =
      let b = goes next m.there r (drop at s) r' (at' - at) e in
      let d : at + (at' - at) ≡ at' = omega arith in
      record {
        from = f;
        within = omega (arith, b.1, length-drop at s);
        ahead =
            advanced_go r (drop at s) r' (at' - at) e
            ∙ ap (λ (v : List ℕ). past (at' - at) (advanced next r' v)) (rw d at (drop-drop (at' - at) at s));
      }

  -- two ways, one after the other
  pub reached_on : {r r' r'' : R} {s : List ℕ} {at at' at'' : ℕ} → Reached next r s at r' at' → Reached next r' s at' r'' at'' → Reached next r s at r'' at''
  reached_on {r'' = r''} {s = s} {at = at} {at' = at'} {at'' = at''} p q = record {
    from = omega (arith, p.from, q.from);
    within = q.within;
    ahead =
        p.ahead
        ∙ ap (past (at' - at)) q.ahead
        ∙ past_past (at' - at) (at'' - at') (at'' - at) (advanced next r'' (drop at'' s)) (omega (arith, p.from, q.from));
  }

  -- where a machine does not go on, that is how far it goes
  stops_by : (r : R) (s : List ℕ) (x : Next R E H) → next r s ≡ x → goes_on x ≡ false → advanced next r s ≡ record { state = r; used = 0; next = x }
  stops_by r s wait e g = advanced_wait r s e
  stops_by r s (halt h) e g = advanced_halt r s h e
  stops_by r s (go r' n) e g = impossible cc
  stops_by r s (tell r' n t) e g = advanced_tell r s r' n t e

  pub reached_end : (r : R) (s : List ℕ) (r' : R) (at : ℕ) → Reached next r s 0 r' at → goes_on (next r' (drop at s)) ≡ false
      → advanced next r s ≡ record { state = r'; used = at; next = next r' (drop at s) }
  reached_end r s r' at h g =
      let e : at - 0 + 0 ≡ at = omega arith in
      h.ahead
      ∙ ap (past (at - 0)) (stops_by r' (drop at s) (next r' (drop at s)) refl g)
      ∙ ap (λ (u : ℕ). record { state = r'; used = u; next = next r' (drop at s) }) e
