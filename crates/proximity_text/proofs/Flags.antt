-- The flags after some moments: which components were inside at the clean tick before, no reset
-- between.
use mathlib.Core.Bool.{Bool, false}
use mathlib.Core.List.{List, [], ◌∷◌, ◌++◌, append_assoc, append-nil}
use mathlib.Core.Path.{◌≡◌, refl, sym, ap, ap₂, ◌∙◌}
use Prim.Native.Nat.{ℕ, zero, suc, ◌+◌, ◌<◌}
use native.Mathlib.Decide.{ℕ_discrete}
use native.Mathlib.Omega.{arith}
use lib.Dec.{T}
use lib.Ieee.{Float}
use lib.ListN.{length, replicate, get_or, length-append, get_or-replicate, get_or-append}
use lib.Seq.{get_or-append-add}
use Rattle.lictor_core.specs.declared.envelope.FuseConfig.{FuseConfig}
use Rattle.lictor_core.specs.Sizes.{max_pos}
use Rattle.proximity_text.specs.Near.{inside_at, inside_up_to, inside_of, none_inside}
use Rattle.proximity_text.specs.History.{Moment, clean, fault, reset, CleanBefore, Inside}

-- ---- what a flag says

inside_length : (lo hi pos : List Float) (n : ℕ) → length (inside_up_to lo hi pos n) ≡ n
unfolding inside_up_to
inside_length lo hi pos zero = refl
inside_length lo hi pos (suc n) = length-append (inside_up_to lo hi pos n) (inside_at lo hi pos n ∷ []) ∙ (let e : length (inside_up_to lo hi pos n) + 1 ≡ suc n = omega (arith, inside_length lo hi pos n) in e)

module _ (lo hi pos : List Float) where
  inside_by : (n c : ℕ) → (c < n → get_or (inside_up_to lo hi pos n) c false ≡ inside_at lo hi pos c) → c < suc n → Dec (c ≡ n)
      → get_or (inside_up_to lo hi pos n ++ (inside_at lo hi pos n ∷ [])) c false ≡ inside_at lo hi pos c
  inside_by n c ih h (yes e) =
      let at : c ≡ length (inside_up_to lo hi pos n) + 0 = omega (arith, e, inside_length lo hi pos n) in
      ap (λ (k : ℕ). get_or (inside_up_to lo hi pos n ++ (inside_at lo hi pos n ∷ [])) k false) at
      ∙ get_or-append-add (inside_up_to lo hi pos n) (inside_at lo hi pos n ∷ []) 0 false
      ∙ ap (inside_at lo hi pos) (sym e)
  inside_by n c ih h (no e) =
      get_or-append (inside_up_to lo hi pos n) (inside_at lo hi pos n ∷ []) false c (omega (arith, inside_length lo hi pos n, e)) ∙ ih (omega (arith, e))

  pub inside_flag : (n c : ℕ) → c < n → get_or (inside_up_to lo hi pos n) c false ≡ inside_at lo hi pos c
  unfolding inside_up_to
  inside_flag zero c h = absurd (omega arith)
  inside_flag (suc n) c h = inside_by n c (λ q. inside_flag n c q) h (ℕ_discrete c n)

none_flag : (c : ℕ) → c < max_pos → get_or none_inside c false ≡ false
none_flag c h = get_or-replicate max_pos c false false h

-- ---- lists by their last element

module _ {A : Type 0} where
  head_is : {x y : A} {xs ys : List A} → x ∷ xs ≡ y ∷ ys → x ≡ y
  head_is e = cc

  tail_is : {x y : A} {xs ys : List A} → x ∷ xs ≡ y ∷ ys → xs ≡ ys
  tail_is e = cc

  no_end : (xs : List A) (x : A) → xs ++ (x ∷ []) ≡ [] → ⊥
  no_end [] x e = let z : ◌≡◌ {A = ℕ} 0 1 = cc in omega (arith, z)
  no_end (y ∷ xs) x e = let z : ◌≡◌ {A = ℕ} 0 1 = cc in omega (arith, z)

  record SameEnd (xs : List A) (x : A) (ys : List A) (y : A) : Type 0 where
    front : xs ≡ ys
    last : x ≡ y

  same_end : (xs : List A) (x : A) (ys : List A) (y : A) → xs ++ (x ∷ []) ≡ ys ++ (y ∷ []) → SameEnd xs x ys y
  same_end [] x [] y e = record { front = refl; last = head_is e }
  same_end [] x (z ∷ ys) y e = absurd (no_end ys y (sym (tail_is e)))
  same_end (z ∷ xs) x [] y e = absurd (no_end xs x (tail_is e))
  same_end (z ∷ xs) x (w ∷ ys) y e = let s = same_end xs x ys y (tail_is e) in record { front = ap₂ (λ (a : A) (l : List A). a ∷ l) (head_is e) s.front; last = s.last }

  one_more : (n : ℕ) (x : A) → replicate (suc n) x ≡ replicate n x ++ (x ∷ [])
  one_more zero x = refl
  one_more (suc n) x = ap (λ (l : List A). x ∷ l) (one_more n x)

-- ---- the clean tick before

-- after one more moment
before_now : (past : List Moment) (t : ℕ) (pos : List Float) → CleanBefore (past ++ (clean t pos ∷ [])) pos
before_now past t pos = record { older = past; t = t; faults = 0; split = refl }

before_still : (past : List Moment) (pos : List Float) → CleanBefore past pos → CleanBefore (past ++ (fault ∷ [])) pos
before_still past pos b = record {
  older = b.older;
  t = b.t;
  faults = suc b.faults;
  split =
      ap (λ (l : List Moment). l ++ (fault ∷ [])) b.split
      ∙ append_assoc b.older (clean b.t pos ∷ replicate b.faults fault) (fault ∷ [])
      ∙ ap (λ (l : List Moment). b.older ++ (clean b.t pos ∷ l)) (sym (one_more b.faults fault));
}

-- and back
abbrev Back : List Moment → Moment → List Float → Type 0
Back past (clean t at) pos = pos ≡ at
Back past fault pos = CleanBefore past pos
Back past reset pos = ⊥

pos_is : {t u : ℕ} {a b : List Float} → clean t a ≡ clean u b → b ≡ a
pos_is e = cc

apart_fault : {t : ℕ} {a : List Float} → fault ≡ clean t a → ⊥
apart_fault e = let z : ◌≡◌ {A = ℕ} 0 1 = cc in omega (arith, z)

apart_reset : {t : ℕ} {a : List Float} → reset ≡ clean t a → ⊥
apart_reset e = let z : ◌≡◌ {A = ℕ} 0 1 = cc in omega (arith, z)

apart_both : {t : ℕ} {a : List Float} → clean t a ≡ fault → ⊥
apart_both e = let z : ◌≡◌ {A = ℕ} 0 1 = cc in omega (arith, z)

apart_two : reset ≡ fault → ⊥
apart_two e = let z : ◌≡◌ {A = ℕ} 0 1 = cc in omega (arith, z)

-- the last moment is the clean tick itself, or a fault
back_clean : (past : List Moment) (m : Moment) (pos : List Float) (t : ℕ) → m ≡ clean t pos → Back past m pos
back_clean past (clean u at) pos t e = pos_is e
back_clean past fault pos t e = absurd (apart_fault e)
back_clean past reset pos t e = absurd (apart_reset e)

back_fault : (past : List Moment) (m : Moment) (pos : List Float) → m ≡ fault → CleanBefore past pos → Back past m pos
back_fault past (clean u at) pos e b = absurd (apart_both e)
back_fault past fault pos e b = b
back_fault past reset pos e b = absurd (apart_two e)

back_by : (past : List Moment) (m : Moment) (pos : List Float) (older : List Moment) (t n : ℕ)
    → past ++ (m ∷ []) ≡ older ++ (clean t pos ∷ replicate n fault) → Back past m pos
back_by past m pos older t zero e = let s = same_end past m older (clean t pos) e in back_clean past m pos t s.last
back_by past m pos older t (suc n) e =
    let turned : older ++ (clean t pos ∷ replicate (suc n) fault) ≡ (older ++ (clean t pos ∷ replicate n fault)) ++ (fault ∷ [])
    = ap (λ (l : List Moment). older ++ (clean t pos ∷ l)) (one_more n fault) ∙ sym (append_assoc older (clean t pos ∷ replicate n fault) (fault ∷ [])) in
    let s = same_end past m (older ++ (clean t pos ∷ replicate n fault)) fault (e ∙ turned) in
    back_fault past m pos s.last (record { older = older; t = t; faults = n; split = s.front })

back : (past : List Moment) (m : Moment) (pos : List Float) → CleanBefore (past ++ (m ∷ [])) pos → Back past m pos
back past m pos b = back_by past m pos b.older b.t b.faults b.split

-- ---- the flags

module _ (cfg : FuseConfig) where
  -- the flags are those of the clean tick before, or there is none
  pub data Since (past : List Moment) (was : List Bool) : Type 0 where
    none : was ≡ none_inside → ((pos : List Float) → CleanBefore past pos → ⊥) → Since past was
    some : (pos : List Float) → CleanBefore past pos → was ≡ inside_of cfg pos → ((at : List Float) → CleanBefore past at → at ≡ pos) → Since past was

  -- after a moment
  abbrev pub flags_after : List Bool → Moment → List Bool
  flags_after was (clean t pos) = inside_of cfg pos
  flags_after was fault = was
  flags_after was reset = none_inside

  abbrev pub flags_all : List Bool → List Moment → List Bool
  flags_all was [] = was
  flags_all was (m ∷ h) = flags_all (flags_after was m) h

  nothing_before : (pos : List Float) → CleanBefore [] pos → ⊥
  nothing_before pos b = go b.older b.split
    where
      go : (older : List Moment) → [] ≡ older ++ (clean b.t pos ∷ replicate b.faults fault) → ⊥
      go [] e = let z : ◌≡◌ {A = ℕ} 0 1 = cc in omega (arith, z)
      go (x ∷ older) e = let z : ◌≡◌ {A = ℕ} 0 1 = cc in omega (arith, z)

  pub since_start : Since [] none_inside
  since_start = none refl nothing_before

  since_more : (past : List Moment) (was : List Bool) (m : Moment) → Since past was → Since (past ++ (m ∷ [])) (flags_after was m)
  since_more past was (clean t pos) s = some pos (before_now past t pos) refl (λ at b. back past (clean t pos) at b)
  since_more past was reset s = none refl (λ pos b. back past reset pos b)
  since_more past was fault (none e f) = none e (λ pos b. f pos (back past fault pos b))
  since_more past was fault (some pos b e f) = some pos (before_still past pos b) e (λ at d. f at (back past fault at d))

  pub since_all : (past : List Moment) (was : List Bool) (h : List Moment) → Since past was → Since (past ++ h) (flags_all was h)
  since_all past was [] s = rw (append-nil past) s
  since_all past was (m ∷ h) s = rw (append_assoc past (m ∷ []) h) at (since_all (past ++ (m ∷ [])) (flags_after was m) h (since_more past was m s))

  -- what a flag says of the clean tick before
  pub record WasInside (past : List Moment) (c : ℕ) : Type 0 where
    pub before : List Float
    pub is_before : CleanBefore past before
    pub was_inside : Inside cfg before c

  module _ (past : List Moment) (was : List Bool) (c : ℕ) (h : c < max_pos) where
    pub flag_told : Since past was → T (get_or was c false) → WasInside past c
    flag_told (none e f) q = let y : get_or was c false ≡ false = ap (λ (l : List Bool). get_or l c false) e ∙ none_flag c h in absurd (rw y at q)
    flag_told (some pos b e f) q =
        let y : get_or was c false ≡ inside_at cfg.box_lo cfg.box_hi pos c = ap (λ (l : List Bool). get_or l c false) e ∙ inside_flag cfg.box_lo cfg.box_hi pos max_pos c h in
        record { before = pos; is_before = b; was_inside = rw y at q }

    pub flag_tells : Since past was → (pos : List Float) → CleanBefore past pos → Inside cfg pos c → T (get_or was c false)
    flag_tells (none e f) pos b i = absurd (f pos b)
    flag_tells (some at d e f) pos b i =
        let y : get_or was c false ≡ inside_at cfg.box_lo cfg.box_hi at c = ap (λ (l : List Bool). get_or l c false) e ∙ inside_flag cfg.box_lo cfg.box_hi at max_pos c h in
        rw (y, sym (f pos b)) i
