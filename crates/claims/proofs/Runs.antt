-- What a law of one step says of all the events of a list of calls. Nothing here knows of the fuse.
use mathlib.Core.Path.{◌≡◌, refl, sym, ap, subst}
use mathlib.Core.Logic.{◌⊎◌, inl, inr}
use mathlib.Core.List.{List, [], ◌∷◌, ◌++◌}
use Prim.Native.Nat.{ℕ, zero, suc, ◌+◌, ◌≤◌, ◌<◌}
use native.Mathlib.Omega.{arith}
use lib.ListN.{length, take}
use Rattle.claims.specs.Runs.{Each, All, Any, here, later, First, total, Step, silent, event, and_then, course}

-- ---- `Each` speaks of every place where the list can be cut

module _ {A : Type 0} where
  pub each_at : (P : A → List A → Type 0) (before : List A) (x : A) (after : List A) → Each P (before ++ x ∷ after) → P x after
  each_at P [] x after e = e.0
  each_at P (y ∷ before) x after e = each_at P before x after e.1

  pub each_cut : (P : A → List A → Type 0) (l : List A) → ((before : List A) (x : A) (after : List A) → before ++ x ∷ after ≡ l → P x after) → Each P l
  each_cut P [] f = tt
  each_cut P (x ∷ l) f = (f [] x l refl, each_cut P l (λ before y after e. f (x ∷ before) y after (ap (λ (m : List A). x ∷ m) e)))

-- ---- a list of events by a law

module _ {S A : Type 0} where
  -- `Run L c l`: from the state c, the events l, each by the law L from the state that the one
  -- before left
  pub data Run (L : S → A → S → Type 0) : S → List A → Type 0 where
    done : {c : S} → Run L c []
    next : {c : S} {x : A} {c' : S} {l : List A} → L c x c' → Run L c' l → Run L c (x ∷ l)

  -- The one induction: what holds of each step and of the run after it holds of each event and
  -- those after it.
  pub each : {L : S → A → S → Type 0} (P : A → List A → Type 0)
      → ((c : S) (x : A) (c' : S) (l : List A) → L c x c' → Run L c' l → P x l)
      → {c : S} {l : List A} → Run L c l → Each P l
  each P f done = tt
  each P f (next {c = c} {x = x} {c' = c'} {l = l} h r) = (f c x c' l h r, each P f r)

module _ {S S' A : Type 0} where
  -- the same events, by another law on what is seen of the states
  pub map_run : {L : S → A → S → Type 0} (M : S' → A → S' → Type 0) (see : S → S')
      → ((c : S) (x : A) (c' : S) → L c x c' → M (see c) x (see c'))
      → {c : S} {l : List A} → Run L c l → Run M (see c) l
  map_run M see f done = done
  map_run M see f (next {c = c} {x = x} {c' = c'} h r) = next (f c x c' h) (map_run M see f r)

-- ---- the course of a machine is a run, if each call meets the law as seen from `view`

module _ {R A K S : Type 0} (step : R → K → Step R A) (view : R → S) (Ok : R → Type 0) (Fit : K → Type 0) (L : S → A → S → Type 0) where
  -- what is asked of one call: it keeps the invariant `Ok`, and either changes nothing that is seen
  -- or gives an event by the law
  abbrev pub Meets : R → Step R A → Type 0
  Meets r (silent r') = Ok r' × (view r ≡ view r')
  Meets r (event x r') = Ok r' × L (view r) x (view r')

  chain : (r : R) (a : Step R A) (k : R → List A) → Meets r a → ((r' : R) → Ok r' → Run L (view r') (k r')) → Run L (view r) (and_then a k)
  chain r (silent r') k m f = subst (λ (c : S). Run L c (k r')) (sym m.1) (f r' m.0)
  chain r (event x r') k m f = next m.1 (f r' m.0)

  pub runs : ((r : R) (k : K) → Ok r → Fit k → Meets r (step r k))
      → (ks : List K) → All Fit ks → (r : R) → Ok r → Run L (view r) (course step r ks)
  runs law [] fits r ok = done
  runs law (k ∷ ks) fits r ok =
      chain r (step r k) (λ (r' : R). course step r' ks) (law r k ok fits.0) (λ r' ok'. runs law ks fits.1 r' ok')

-- ---- an answer within n steps: `left` is above zero while one is owed, and falls

module _ {S A : Type 0} (L : S → A → S → Type 0) (left : S → ℕ) (Goal : A → Type 0)
    (falls : (c : S) (x : A) (c' : S) → L c x c' → 0 < left c → Goal x ⊎ ((0 < left c') × (left c' < left c))) where
  settles : (n : ℕ) {c : S} {l : List A} → 0 < left c → left c ≤ n → n ≤ length l → Run L c l → Any Goal (take n l)
  settles zero p q k r = absurd (omega arith)
  settles (suc n) p q k done = absurd (omega arith)
  settles (suc n) {c} p q k (next {x = x} {c' = c'} {l = l} h r) = go (λ p' q' k'. settles n p' q' k' r) (falls c x c' h p)
    where
      go : (0 < left c' → left c' ≤ n → n ≤ length l → Any Goal (take n l))
          → Goal x ⊎ ((0 < left c') × (left c' < left c)) → Any Goal (x ∷ take n l)
      go rest (inl g) = here g
      go rest (inr s) = later (rest s.0 (omega arith) (omega arith))

  pub answered : (Opens : A → Type 0) (n : ℕ) → ((c : S) (x : A) (c' : S) → L c x c' → Opens x → (0 < left c') × (left c' ≤ n))
      → {c : S} {l : List A} → Run L c l → Each (λ x after. Opens x → n ≤ length after → Any Goal (take n after)) l
  answered Opens n opens r =
      each (λ x after. Opens x → n ≤ length after → Any Goal (take n after))
      (λ c x c' l h r' o k. settles n (opens c x c' h o).0 (opens c x c' h o).1 k r') r

-- ---- an answer at the n-th step: `wait` counts down while the events are calm

module _ {S A : Type 0} (L : S → A → S → Type 0) (wait : S → ℕ) (Calm Goal : A → Type 0)
    (counts : (c : S) (x : A) (c' : S) → L c x c' → Calm x → 0 < wait c → wait c ≡ suc (wait c'))
    (ends : (c : S) (x : A) (c' : S) → L c x c' → Calm x → 0 < wait c → wait c' ≡ 0 → Goal x)
    (waits : (c : S) (x : A) (c' : S) → L c x c' → 0 < wait c' → ¬ Goal x) where
  pub exactly : (n : ℕ) {c : S} {l : List A} → wait c ≡ n → 0 < n → n ≤ length l → All Calm (take n l) → Run L c l → First Goal n l
  exactly zero e p k a r = absurd (omega arith)
  exactly (suc n) e p k a done = absurd (omega arith)
  exactly (suc zero) {c} e p k a (next {x = x} {c' = c'} h r) =
      ends c x c' h a.0 (omega arith) (omega (arith, counts c x c' h a.0 (omega arith)))
  exactly (suc (suc n)) {c} e p k a (next {x = x} {c' = c'} h r) =
      let d : wait c' ≡ suc n = omega (arith, counts c x c' h a.0 (omega arith)) in
      (waits c x c' h (omega arith), exactly (suc n) d (omega arith) (omega arith) a.1 r)

-- ---- a latch

module _ {S A : Type 0} (L : S → A → S → Type 0) (Latched : S → Type 0) (Goal : A → Type 0)
    (stays : (c : S) (x : A) (c' : S) → L c x c' → Latched c → Goal x)
    (enters : (c : S) (x : A) (c' : S) → L c x c' → Goal x → Latched c') where
  holds : {c : S} {l : List A} → Latched c → Run L c l → All Goal l
  holds h done = tt
  holds {c} h (next {x = x} {c' = c'} k r) = let g = stays c x c' k h in (g, holds (enters c x c' k g) r)

  pub latched : {c : S} {l : List A} → Run L c l → Each (λ x after. Goal x → All Goal after) l
  latched r = each (λ x after. Goal x → All Goal after) (λ c x c' l k r' g. holds (enters c x c' k g) r') r

-- ---- a budget

module _ {S A : Type 0} (L : S → A → S → Type 0) (budget : S → ℕ) (cost : A → ℕ)
    (spends : (c : S) (x : A) (c' : S) → L c x c' → cost x + budget c' ≤ budget c) where
  pub within : {c : S} {l : List A} → Run L c l → total cost l ≤ budget c
  within done = omega arith
  within {c} (next {x = x} {c' = c'} {l = l} h r) = let ih = within r in omega (arith, spends c x c' h)

-- ---- what is used once: the numbers used of each place lie above its floor, which then rises to
-- them

module _ {S A : Type 0} (L : S → A → S → Type 0) {N : Type 0} (floor : S → N → ℕ) (Uses : A → N → ℕ → Type 0)
    (kept : (c : S) (x : A) (c' : S) → L c x c' → (k : N) → floor c k ≤ floor c' k)
    (fresh : (c : S) (x : A) (c' : S) → L c x c' → (k : N) (n : ℕ) → Uses x k n → (floor c k < n) × (n ≤ floor c' k)) where
  spent : (k : N) (n : ℕ) {c : S} {l : List A} → n ≤ floor c k → Run L c l → All (λ x. ¬ Uses x k n) l
  spent k n h done = tt
  spent k n {c} h (next {x = x} {c' = c'} s r) =
      (λ u. omega (arith, fresh c x c' s k n u), spent k n (omega (arith, kept c x c' s k)) r)

  pub once : (k : N) (n : ℕ) {c : S} {l : List A} → Run L c l → Each (λ x after. Uses x k n → All (λ y. ¬ Uses y k n) after) l
  once k n r =
      each (λ x after. Uses x k n → All (λ y. ¬ Uses y k n) after)
      (λ c x c' l s r' u. spent k n (fresh c x c' s k n u).1 r') r
