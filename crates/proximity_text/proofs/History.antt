-- The lines that are put, moment by moment, are all lines of the history, in order.
use mathlib.Core.Bool.{Bool, true, false, cond}
use mathlib.Core.List.Memᴰ
use mathlib.Core.List.{List, [], ◌∷◌, ◌++◌, append_assoc, append-nil, Memᴰ}
use mathlib.Core.Logic.{◌⊎◌, inl, inr}
use mathlib.Core.Path.{◌≡◌, refl, sym, ap, ap₂, ◌∙◌}
use Prim.Native.Nat.{ℕ, zero, suc, ◌+◌, ◌≤◌, ◌<◌}
use native.Mathlib.Decide.{ℕ_discrete}
use native.Mathlib.Omega.{arith}
use lib.Dec.{T}
use lib.Ieee.{Float}
use lib.ListN.{length, get_or}
use Rattle.lictor_core.specs.declared.envelope.FuseConfig.{FuseConfig}
use Rattle.lictor_core.specs.Sizes.{max_pos}
use Rattle.text.specs.Ascii.{ascii}
use Rattle.std.specs.Prelude.{Option, None, Some}
use Rattle.proximity_text.specs.declared.Word.{Word}
use Rattle.proximity_text.specs.declared.Word.TheVariants.{Within as within, Out as out}
use Rattle.proximity_text.specs.Near.{dims_of, inside_at, near_at, said_of, said_at, inside_of, none_inside}
use Rattle.proximity_text.specs.Lines.{word_line, word_text, said_text, lines_up_to}
use Rattle.proximity_text.specs.History.{Moment, clean, fault, reset, Says, Entry, LineOf, Earlier, EarlierThan, Rising, list_text, put_from, LinesListed}
use Rattle.proximity_text.proofs.Flags.{Since, flags_after, flags_all, since_start, since_all, flag_told, flag_tells}

-- ---- text

abbrev line_of : Entry → List ℕ
line_of e = word_line (word_text e.word) e.t e.component

list_append : (xs ys : List Entry) → list_text (xs ++ ys) ≡ list_text xs ++ list_text ys
unfolding list_text
list_append [] ys = refl
list_append (e ∷ xs) ys = ap (λ (s : List ℕ). line_of e ++ s) (list_append xs ys) ∙ sym (append_assoc (line_of e) (list_text xs) (list_text ys))

-- the line of a component, where there is one
abbrev entry_of : ℕ → ℕ → ℕ → Option Word → List Entry
entry_of i t c None = []
entry_of i t c (Some within) = record { place = i; component = c; word = within; t = t } ∷ []
entry_of i t c (Some out) = record { place = i; component = c; word = out; t = t } ∷ []

entry_text : (i t c : ℕ) (s : Option Word) → list_text (entry_of i t c s) ≡ said_text s t c
unfolding list_text said_text
entry_text i t c None = refl
entry_text i t c (Some within) = append-nil (word_line (ascii "within") t c)
entry_text i t c (Some out) = append-nil (word_line (ascii "out") t c)

module _ (cfg : FuseConfig) (w : Float) where
  abbrev said_in : List Bool → List Float → ℕ → Option Word
  said_in was pos c = said_at w was cfg.box_lo cfg.box_hi pos c

  -- the lines of the first n components of a tick, at place i
  abbrev entries_up_to : List Bool → ℕ → ℕ → List Float → ℕ → List Entry
  entries_up_to was i t pos zero = []
  entries_up_to was i t pos (suc n) = entries_up_to was i t pos n ++ entry_of i t n (said_in was pos n)

  abbrev entries_at : List Bool → ℕ → Moment → List Entry
  entries_at was i (clean t pos) = entries_up_to was i t pos (dims_of cfg)
  entries_at was i fault = []
  entries_at was i reset = []

  abbrev entries_from : List Bool → ℕ → List Moment → List Entry
  entries_from was i [] = []
  entries_from was i (m ∷ h) = entries_at was i m ++ entries_from (flags_after cfg was m) (suc i) h

  lines_text_lem : (was : List Bool) (i t : ℕ) (pos : List Float) (n : ℕ) → lines_up_to (record { width = w; inside = was }) t cfg.box_lo cfg.box_hi pos n ≡ list_text (entries_up_to was i t pos n)
  unfolding lines_up_to list_text
  lines_text_lem was i t pos zero = refl
  lines_text_lem was i t pos (suc n) =
      ap₂ (λ (x y : List ℕ). x ++ y) (lines_text_lem was i t pos n) (sym (entry_text i t n (said_in was pos n)))
      ∙ sym (list_append (entries_up_to was i t pos n) (entry_of i t n (said_in was pos n)))

  put_text : (was : List Bool) (i : ℕ) (h : List Moment) → put_from cfg w was h ≡ list_text (entries_from was i h)
  unfolding put_from list_text
  put_text was i [] = refl
  put_text was i (clean t pos ∷ h) =
      ap₂ (λ (x y : List ℕ). x ++ y) (lines_text_lem was i t pos (dims_of cfg)) (put_text (inside_of cfg pos) (suc i) h)
      ∙ sym (list_append (entries_up_to was i t pos (dims_of cfg)) (entries_from (inside_of cfg pos) (suc i) h))
  put_text was i (fault ∷ h) = put_text was (suc i) h
  put_text was i (reset ∷ h) = put_text none_inside (suc i) h

-- ---- order

abbrev Every : (Entry → Type 0) → List Entry → Type 0
Every P [] = Unit {0}
Every P (e ∷ es) = P e × Every P es

every_append : (P : Entry → Type 0) (xs ys : List Entry) → Every P xs → Every P ys → Every P (xs ++ ys)
every_append P [] ys a b = b
every_append P (x ∷ xs) ys a b = (a.0, every_append P xs ys a.1 b)

every_map : (P Q : Entry → Type 0) → ((e : Entry) → P e → Q e) → (xs : List Entry) → Every P xs → Every Q xs
every_map P Q f [] a = tt
every_map P Q f (x ∷ xs) a = (f x a.0, every_map P Q f xs a.1)

earlier_append : (e : Entry) (xs ys : List Entry) → EarlierThan e xs → EarlierThan e ys → EarlierThan e (xs ++ ys)
earlier_append e [] ys a b = b
earlier_append e (x ∷ xs) ys a b = (a.0, earlier_append e xs ys a.1 b)

each_earlier : (Q : Entry → Type 0) (e : Entry) → ((y : Entry) → Q y → Earlier e y) → (ys : List Entry) → Every Q ys → EarlierThan e ys
each_earlier Q e f [] b = tt
each_earlier Q e f (y ∷ ys) b = (f y b.0, each_earlier Q e f ys b.1)

rising_append : (P Q : Entry → Type 0) → ((x y : Entry) → P x → Q y → Earlier x y) → (xs ys : List Entry) → Every P xs → Every Q ys → Rising xs → Rising ys → Rising (xs ++ ys)
rising_append P Q f [] ys a b r s = s
rising_append P Q f (x ∷ xs) ys a b r s =
    (earlier_append x xs ys r.0 (each_earlier Q x (λ y q. f x y a.0 q) ys b), rising_append P Q f xs ys a.1 b r.1 s)

-- at place i, of a component below n; of component n
abbrev Placed : ℕ → ℕ → Entry → Type 0
Placed i n e = (e.place ≡ i) × (e.component < n)

abbrev Last : ℕ → ℕ → Entry → Type 0
Last i n e = (e.place ≡ i) × (e.component ≡ n)

entry_last : (i t c : ℕ) (s : Option Word) → Every (Last i c) (entry_of i t c s)
entry_last i t c None = tt
entry_last i t c (Some within) = ((refl, refl), tt)
entry_last i t c (Some out) = ((refl, refl), tt)

entry_rising : (i t c : ℕ) (s : Option Word) → Rising (entry_of i t c s)
entry_rising i t c None = tt
entry_rising i t c (Some within) = (tt, tt)
entry_rising i t c (Some out) = (tt, tt)

module _ (cfg : FuseConfig) (w : Float) where
  up_placed : (was : List Bool) (i t : ℕ) (pos : List Float) (n : ℕ) → Every (Placed i n) (entries_up_to cfg w was i t pos n)
  up_placed was i t pos zero = tt
  up_placed was i t pos (suc n) =
      let s = said_in cfg w was pos n in
      every_append (Placed i (suc n)) (entries_up_to cfg w was i t pos n) (entry_of i t n s)
      (every_map (Placed i n) (Placed i (suc n)) (λ e p. (p.0, omega (arith, p.1))) (entries_up_to cfg w was i t pos n) (up_placed was i t pos n))
      (every_map (Last i n) (Placed i (suc n)) (λ e p. (p.0, omega (arith, p.1))) (entry_of i t n s) (entry_last i t n s))

  up_rising : (was : List Bool) (i t : ℕ) (pos : List Float) (n : ℕ) → Rising (entries_up_to cfg w was i t pos n)
  up_rising was i t pos zero = tt
  up_rising was i t pos (suc n) =
      let s = said_in cfg w was pos n in
      rising_append (Placed i n) (Last i n) (λ x y p q. inr (p.0 ∙ sym q.0, omega (arith, p.1, q.1))) (entries_up_to cfg w was i t pos n) (entry_of i t n s)
      (up_placed was i t pos n) (entry_last i t n s) (up_rising was i t pos n) (entry_rising i t n s)

  abbrev Here : ℕ → Entry → Type 0
  Here i e = e.place ≡ i

  abbrev From : ℕ → Entry → Type 0
  From i e = i ≤ e.place

  at_here : (was : List Bool) (i : ℕ) (m : Moment) → Every (Here i) (entries_at cfg w was i m)
  at_here was i (clean t pos) = every_map (Placed i (dims_of cfg)) (Here i) (λ e p. p.0) (entries_up_to cfg w was i t pos (dims_of cfg)) (up_placed was i t pos (dims_of cfg))
  at_here was i fault = tt
  at_here was i reset = tt

  at_rising : (was : List Bool) (i : ℕ) (m : Moment) → Rising (entries_at cfg w was i m)
  at_rising was i (clean t pos) = up_rising was i t pos (dims_of cfg)
  at_rising was i fault = tt
  at_rising was i reset = tt

  from_placed : (was : List Bool) (i : ℕ) (h : List Moment) → Every (From i) (entries_from cfg w was i h)
  from_placed was i [] = tt
  from_placed was i (m ∷ h) =
      let next = entries_from cfg w (flags_after cfg was m) (suc i) h in
      every_append (From i) (entries_at cfg w was i m) next
      (every_map (Here i) (From i) (λ e p. omega (arith, p)) (entries_at cfg w was i m) (at_here was i m))
      (every_map (From (suc i)) (From i) (λ e p. omega (arith, p)) next (from_placed (flags_after cfg was m) (suc i) h))

  from_rising : (was : List Bool) (i : ℕ) (h : List Moment) → Rising (entries_from cfg w was i h)
  from_rising was i [] = tt
  from_rising was i (m ∷ h) =
      let next = entries_from cfg w (flags_after cfg was m) (suc i) h in
      rising_append (Here i) (From (suc i)) (λ x y p q. inl (omega (arith, p, q))) (entries_at cfg w was i m) next
      (at_here was i m) (from_placed (flags_after cfg was m) (suc i) h) (at_rising was i m) (from_rising (flags_after cfg was m) (suc i) h)

-- ---- which lines there are

abbrev said_by : Word → Option Word
said_by within = (Some within)
said_by out = (Some out)

abbrev entry : ℕ → ℕ → Word → ℕ → Entry
entry i c word t = record { place = i; component = c; word = word; t = t }

record EntryIs (i t c : ℕ) (s : Option Word) (e : Entry) : Type 0 where
  place : e.place ≡ i
  component : e.component ≡ c
  time : e.t ≡ t
  said : s ≡ said_by e.word

entry_only : (i t c : ℕ) (s : Option Word) (e : Entry) → Memᴰ e (entry_of i t c s) → EntryIs i t c s e
entry_only i t c None e m = absurd (Memᴰ.not-nil m)
entry_only i t c (Some within) e m =
    let q : e ≡ entry i c within t = Memᴰ.eq_of_singleton m in
    record { place = ap (λ (x : Entry). x.place) q; component = ap (λ (x : Entry). x.component) q; time = ap (λ (x : Entry). x.t) q; said = sym (ap (λ (x : Entry). said_by x.word) q) }
entry_only i t c (Some out) e m =
    let q : e ≡ entry i c out t = Memᴰ.eq_of_singleton m in
    record { place = ap (λ (x : Entry). x.place) q; component = ap (λ (x : Entry). x.component) q; time = ap (λ (x : Entry). x.t) q; said = sym (ap (λ (x : Entry). said_by x.word) q) }

entry_every : (i t c : ℕ) (word : Word) (s : Option Word) → s ≡ said_by word → Memᴰ (entry i c word t) (entry_of i t c s)
entry_every i t c within s e = rw e (Memᴰ.head refl)
entry_every i t c out s e = rw e (Memᴰ.head refl)

module _ (cfg : FuseConfig) (w : Float) where
  -- of the first n components of a tick
  record UpToIs (was : List Bool) (i t : ℕ) (pos : List Float) (n : ℕ) (e : Entry) : Type 0 where
    place : e.place ≡ i
    component : e.component < n
    time : e.t ≡ t
    said : said_in cfg w was pos e.component ≡ said_by e.word

  module _ (was : List Bool) (i t : ℕ) (pos : List Float) where
    up_only_by : (n : ℕ) (e : Entry) → (Memᴰ e (entries_up_to cfg w was i t pos n) → UpToIs was i t pos n e)
        → Memᴰ e (entries_up_to cfg w was i t pos n) ⊎ Memᴰ e (entry_of i t n (said_in cfg w was pos n)) → UpToIs was i t pos (suc n) e
    up_only_by n e ih (inl m) = let u = ih m in record { place = u.place; component = omega (arith, u.component); time = u.time; said = u.said }
    up_only_by n e ih (inr m) =
        let u = entry_only i t n (said_in cfg w was pos n) e m in
        record { place = u.place; component = omega (arith, u.component); time = u.time; said = ap (said_in cfg w was pos) u.component ∙ u.said }

    up_only : (n : ℕ) (e : Entry) → Memᴰ e (entries_up_to cfg w was i t pos n) → UpToIs was i t pos n e
    up_only zero e m = absurd (Memᴰ.not-nil m)
    up_only (suc n) e m = up_only_by n e (λ q. up_only n e q) (Memᴰ.append_cases (entries_up_to cfg w was i t pos n) m)

    up_every_by : (n c : ℕ) (word : Word) → (c < n → Memᴰ (entry i c word t) (entries_up_to cfg w was i t pos n)) → c < suc n → said_in cfg w was pos c ≡ said_by word → Dec (c ≡ n)
        → Memᴰ (entry i c word t) (entries_up_to cfg w was i t pos n ++ entry_of i t n (said_in cfg w was pos n))
    up_every_by n c word ih h q (yes e) =
        let there = entry_every i t n word (said_in cfg w was pos n) (ap (said_in cfg w was pos) (sym e) ∙ q) in
        Memᴰ.cast (ap (λ (k : ℕ). entry i k word t) e) (Memᴰ.append_right (entries_up_to cfg w was i t pos n) there)
    up_every_by n c word ih h q (no e) = Memᴰ.append_left (entry_of i t n (said_in cfg w was pos n)) (ih (omega (arith, e)))

    up_every : (n c : ℕ) (word : Word) → c < n → said_in cfg w was pos c ≡ said_by word → Memᴰ (entry i c word t) (entries_up_to cfg w was i t pos n)
    up_every zero c word h q = absurd (omega arith)
    up_every (suc n) c word h q = up_every_by n c word (λ k. up_every n c word k q) h q (ℕ_discrete c n)

  -- of a history, from place i on
  abbrev place_after : ℕ → List Moment → ℕ
  place_after i [] = i
  place_after i (m ∷ h) = place_after (suc i) h

  place_after_lem : (i : ℕ) (h : List Moment) → place_after i h ≡ i + length h
  place_after_lem i [] = let e : i ≡ i + 0 = omega arith in e
  place_after_lem i (m ∷ h) = place_after_lem (suc i) h ∙ (let e : suc i + length h ≡ i + suc (length h) = omega arith in e)

  abbrev entries_on : List Bool → ℕ → List Moment → ℕ → List Float → List Entry
  entries_on was i past t pos = entries_up_to cfg w (flags_all cfg was past) (place_after i past) t pos (dims_of cfg)

  record Found (was : List Bool) (i : ℕ) (h : List Moment) (e : Entry) : Type 0 where
    past : List Moment
    later : List Moment
    t : ℕ
    pos : List Float
    at : h ≡ past ++ (clean t pos ∷ later)
    there : Memᴰ e (entries_on was i past t pos)

  found_here : (was : List Bool) (i : ℕ) (m : Moment) (h : List Moment) (e : Entry) → Memᴰ e (entries_at cfg w was i m) → Found was i (m ∷ h) e
  found_here was i (clean t pos) h e m = record { past = []; later = h; t = t; pos = pos; at = refl; there = m }
  found_here was i fault h e m = absurd (Memᴰ.not-nil m)
  found_here was i reset h e m = absurd (Memᴰ.not-nil m)

  found_later : (was : List Bool) (i : ℕ) (m : Moment) (h : List Moment) (e : Entry) → Found (flags_after cfg was m) (suc i) h e → Found was i (m ∷ h) e
  found_later was i m h e f = record { past = m ∷ f.past; later = f.later; t = f.t; pos = f.pos; at = ap (λ (l : List Moment). m ∷ l) f.at; there = f.there }

  found_by : (was : List Bool) (i : ℕ) (m : Moment) (h : List Moment) (e : Entry) → (Memᴰ e (entries_from cfg w (flags_after cfg was m) (suc i) h) → Found (flags_after cfg was m) (suc i) h e)
      → Memᴰ e (entries_at cfg w was i m) ⊎ Memᴰ e (entries_from cfg w (flags_after cfg was m) (suc i) h) → Found was i (m ∷ h) e
  found_by was i m h e ih (inl q) = found_here was i m h e q
  found_by was i m h e ih (inr q) = found_later was i m h e (ih q)

  from_only : (was : List Bool) (i : ℕ) (h : List Moment) (e : Entry) → Memᴰ e (entries_from cfg w was i h) → Found was i h e
  from_only was i [] e m = absurd (Memᴰ.not-nil m)
  from_only was i (m ∷ h) e q = found_by was i m h e (λ z. from_only (flags_after cfg was m) (suc i) h e z) (Memᴰ.append_cases (entries_at cfg w was i m) q)

  from_every : (was : List Bool) (i : ℕ) (past : List Moment) (t : ℕ) (pos : List Float) (later : List Moment) (e : Entry) → Memᴰ e (entries_on was i past t pos)
      → Memᴰ e (entries_from cfg w was i (past ++ (clean t pos ∷ later)))
  from_every was i [] t pos later e m = Memᴰ.append_left (entries_from cfg w (inside_of cfg pos) (suc i) later) m
  from_every was i (x ∷ past) t pos later e m = Memᴰ.append_right (entries_at cfg w was i x) (from_every (flags_after cfg was x) (suc i) past t pos later e m)

-- ---- what they say

other : {A : Type 0} → None ≡ (Some within) → A
other e = let z : ◌≡◌ {A = ℕ} 0 1 = cc in absurd (omega (arith, z))

other_out : {A : Type 0} → None ≡ (Some out) → A
other_out e = let z : ◌≡◌ {A = ℕ} 0 1 = cc in absurd (omega (arith, z))

exchanged : {A : Type 0} → (Some out) ≡ (Some within) → A
exchanged e = let z : ◌≡◌ {A = ℕ} 0 1 = cc in absurd (omega (arith, z))

abbrev choice : Bool → Bool → Bool → Option Word
choice i n q = cond i (cond n (Some within) None) (cond q (Some out) None)

within_only : (i n q : Bool) → choice i n q ≡ (Some within) → T i × T n
within_only true true q e = (tt, tt)
within_only true false q e = other e
within_only false n true e = exchanged e
within_only false n false e = other e

out_only : (i n q : Bool) → choice i n q ≡ (Some out) → (T i → ⊥) × T q
out_only true true q e = exchanged (sym e)
out_only true false q e = other_out e
out_only false n true e = (λ z. z, tt)
out_only false n false e = other_out e

within_every : (i n q : Bool) → T i → T n → choice i n q ≡ (Some within)
within_every true true q a b = refl
within_every true false q a b = absurd b
within_every false n q a b = absurd a

out_every : (i n q : Bool) → (T i → ⊥) → T q → choice i n q ≡ (Some out)
out_every true n q a b = absurd (a tt)
out_every false n true a b = refl
out_every false n false a b = absurd b

module _ (cfg : FuseConfig) (small : cfg.pos_dim ≤ max_pos) (w : Float) (past : List Moment) (was : List Bool) (s : Since cfg past was) (pos : List Float) (c : ℕ) where
  abbrev i : Bool
  i = inside_at cfg.box_lo cfg.box_hi pos c

  abbrev n : Bool
  n = near_at w cfg.box_lo cfg.box_hi pos c

  abbrev q : Bool
  q = get_or was c false

  says_only : (word : Word) → c < dims_of cfg → said_in cfg w was pos c ≡ said_by word → Says cfg w past pos c word
  unfolding said_of
  says_only within h e = let x = within_only i n q e in record { component = omega (arith, h); inside = x.0; near = x.1 }
  says_only out h e =
      let x = out_only i n q e in
      let b = flag_told cfg past was c (omega (arith, h)) s x.1 in
      record { component = omega (arith, h); outside = x.0; before = b.before; is_before = b.is_before; was_inside = b.was_inside }

  says_every : (word : Word) → Says cfg w past pos c word → said_in cfg w was pos c ≡ said_by word
  unfolding said_of
  says_every within x = within_every i n q x.inside x.near
  says_every out x = out_every i n q x.outside (flag_tells cfg past was c (omega (arith, small, x.component)) s x.before x.is_before x.was_inside)

  says_dims : (word : Word) → Says cfg w past pos c word → c < dims_of cfg
  says_dims within x = omega (arith, small, x.component)
  says_dims out x = omega (arith, small, x.component)

-- ---- the claim

module _ (cfg : FuseConfig) (small : cfg.pos_dim ≤ max_pos) (w : Float) (h : List Moment) where
  abbrev all : List Entry
  all = entries_from cfg w none_inside 0 h

  abbrev flags : List Moment → List Bool
  flags past = flags_all cfg none_inside past

  since : (past : List Moment) → Since cfg past (flags past)
  since past = since_all cfg [] none_inside past (since_start cfg)

  every_listed : (e : Entry) → LineOf cfg w h e → Memᴰ e all
  every_listed e l =
      let said = says_every cfg small w l.past (flags l.past) (since l.past) l.pos e.component e.word l.says in
      let dims = says_dims cfg small w l.past (flags l.past) (since l.past) l.pos e.component e.word l.says in
      let i : e.place ≡ place_after cfg w 0 l.past = omega (arith, l.place, place_after_lem cfg w 0 l.past) in
      let there = up_every cfg w (flags l.past) (place_after cfg w 0 l.past) e.t l.pos (dims_of cfg) e.component e.word dims said in
      let moved = Memᴰ.cast (ap (λ (k : ℕ). entry k e.component e.word e.t) i) there in
      rw l.at (from_every cfg w none_inside 0 l.past e.t l.pos l.later e moved)

  only_listed : (e : Entry) → Memᴰ e all → LineOf cfg w h e
  only_listed e m =
      let f = from_only cfg w none_inside 0 h e m in
      let u = up_only cfg w (flags f.past) (place_after cfg w 0 f.past) f.t f.pos (dims_of cfg) e f.there in
      record {
        past = f.past;
        later = f.later;
        pos = f.pos;
        at = f.at ∙ ap (λ (k : ℕ). f.past ++ (clean k f.pos ∷ f.later)) (sym u.time);
        place = (let i : e.place ≡ length f.past = omega (arith, u.place, place_after_lem cfg w 0 f.past) in i);
        says = says_only cfg small w f.past (flags f.past) (since f.past) f.pos e.component e.word u.component u.said;
      }

pub lines_listed : LinesListed
lines_listed cfg small w h = record {
  entries = all cfg small w h;
  text = put_text cfg w none_inside 0 h;
  listed = record {
    every = every_listed cfg small w h;
    only = only_listed cfg small w h;
    rising = from_rising cfg w none_inside 0 h;
  };
}
