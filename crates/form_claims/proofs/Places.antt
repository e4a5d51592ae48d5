-- Where a wide body has floats and where it has none, by place; and what it has there once each NaN
-- is quiet: what it had.
use Prim.Native.Nat.{ℕ, zero, suc, ◌+◌, ◌-◌, ◌*◌, ◌/◌, ◌%◌, ◌≤◌, ◌<◌}
use mathlib.Core.Path.{◌≡◌, refl, sym, ap, ap₂, ◌∙◌}
use mathlib.Core.Bool.{Bool, true, false, cond, ◌&&◌}
use mathlib.Core.List.{List, [], ◌∷◌, ◌++◌, append_assoc}
use native.Mathlib.Nat.{suc-mul}
use native.Mathlib.Omega.{arith}
use lib.Dec.{eqb, leb, ltb}
use lib.ListN.{length, get_or, take, drop, length-drop, get_or-append}
use lib.Seq.{length-take-le, drop_at, drop-drop, get_or-take, get_or-drop, get_or-append-add}
use lib.Ieee.{Float, binary64, of_bits, nan}
use borrow.Author.Tests.{eqb-true, leb-true, ltb-true, ltb-false}
use Rattle.stream.proofs.Stream.{impossible}
use Rattle.journal_records.specs.Little.{byte_at, le_at, float_at, floats_at}
use Rattle.journal_forms.specs.declared.Form.TheVariants.{Wide}
use Rattle.journal_forms.specs.declared.body.Run.{Run}
use Rattle.journal_forms.specs.Body.{float_in, floats_in, floats_to, run_bytes, runs_bytes, run_floats, body_floats, run_to, body_to}
use Rattle.journal_forms.proofs.Bytes.{le_at_front}
use Rattle.journal_forms.proofs.Floats.{and_both, floats_count}
use Rattle.journal_forms.proofs.Bodies.{run_long, body_floats_lem}
use Rattle.journal_forms.proofs.Records.{own_held}

-- the body with each NaN quiet
abbrev pub quiet : List Run → List ℕ → List ℕ
quiet rs s = body_to Wide Wide rs s

-- ---- bytes that are no float

-- that at place i
unfoldable pub is_copied : List Run → ℕ → Bool
is_copied [] i = true
is_copied (r ∷ rs) i = cond (ltb i (run_bytes Wide r)) (ltb i r.copied) (is_copied rs (i - run_bytes Wide r))

-- and those at n places, from there on
unfoldable pub are_copied : List Run → ℕ → ℕ → Bool
are_copied rs i zero = true
are_copied rs i (suc n) = is_copied rs i && are_copied rs (suc i) n

module _ (r : Run) (s v : List ℕ) (h : run_bytes Wide r ≤ length s) where
  parts : run_to Wide Wide r s ++ v ≡ take r.copied s ++ (floats_to Wide (run_floats Wide r s) ++ v)
  parts = append_assoc (take r.copied s) (floats_to Wide (run_floats Wide r s)) v

  copied_here : (i : ℕ) → i < r.copied → byte_at (run_to Wide Wide r s ++ v) i ≡ byte_at s i
  copied_here i l =
      ap (λ (u : List ℕ). byte_at u i) parts
      ∙ get_or-append (take r.copied s) (floats_to Wide (run_floats Wide r s) ++ v) 0 i (omega (arith, length-take-le r.copied s (omega arith)))
      ∙ get_or-take r.copied s i 0 l

  past_run : (i : ℕ) → run_bytes Wide r ≤ i → byte_at (run_to Wide Wide r s ++ v) i ≡ byte_at v (i - run_bytes Wide r)
  past_run i l =
      let n = run_bytes Wide r in
      let e : n + (i - n) ≡ i = omega arith in
      ap (λ (j : ℕ). byte_at (run_to Wide Wide r s ++ v) j) (sym e)
      ∙ sym (get_or-drop n (run_to Wide Wide r s ++ v) (i - n) 0)
      ∙ ap (λ (u : List ℕ). byte_at u (i - n)) (drop_at (run_to Wide Wide r s) v n (run_long Wide Wide r s (omega arith)))

byte_kept : (rs : List Run) (s : List ℕ) → runs_bytes Wide rs ≤ length s → (i : ℕ) → is_copied rs i ≡ true → byte_at (quiet rs s) i ≡ byte_at s i
unfolding is_copied runs_bytes body_to
byte_kept [] s h i e = refl
byte_kept (r ∷ rs) s h i e =
    by (ltb i (run_bytes Wide r)) refl (λ q. byte_kept rs (drop (run_bytes Wide r) s) (omega (arith, length-drop (run_bytes Wide r) s)) (i - run_bytes Wide r) q)
  where
    v : List ℕ
    v = quiet rs (drop (run_bytes Wide r) s)

    by : (t : Bool) → ltb i (run_bytes Wide r) ≡ t → (is_copied rs (i - run_bytes Wide r) ≡ true → byte_at v (i - run_bytes Wide r) ≡ byte_at (drop (run_bytes Wide r) s) (i - run_bytes Wide r))
        → byte_at (run_to Wide Wide r s ++ v) i ≡ byte_at s i
    by true q later = copied_here r s v (omega arith) i (ltb-true i r.copied (rw q at e))
    by false q later =
        let l : run_bytes Wide r ≤ i = ltb-false i (run_bytes Wide r) q in
        let back : run_bytes Wide r + (i - run_bytes Wide r) ≡ i = omega (arith, l) in
        past_run r s v (omega arith) i l ∙ later (rw q at e) ∙ get_or-drop (run_bytes Wide r) s (i - run_bytes Wide r) 0 ∙ ap (byte_at s) back

number_kept : (rs : List Run) (s : List ℕ) → runs_bytes Wide rs ≤ length s → (i n : ℕ) → are_copied rs i n ≡ true → le_at (quiet rs s) i n ≡ le_at s i n
unfolding le_at are_copied
number_kept rs s h i zero e = refl
number_kept rs s h i (suc n) e =
    let p = and_both (is_copied rs i) (are_copied rs (suc i) n) e in
    ap₂ (λ (x y : ℕ). x + 256 * y) (byte_kept rs s h i p.0) (number_kept rs s h (suc i) n p.1)

-- ---- floats

-- a float begins at place i; and how many are before it
unfoldable pub is_float : List Run → ℕ → Bool
is_float [] i = false
is_float (r ∷ rs) i = cond (ltb i (run_bytes Wide r)) (leb r.copied i && eqb ((i - r.copied) % 8) 0) (is_float rs (i - run_bytes Wide r))

unfoldable floats_before : List Run → ℕ → ℕ
floats_before [] i = 0
floats_before (r ∷ rs) i = cond (ltb i (run_bytes Wide r)) ((i - r.copied) / 8) (r.floats + floats_before rs (i - run_bytes Wide r))

-- n of them, from there on
unfoldable pub are_floats : List Run → ℕ → ℕ → Bool
are_floats rs i zero = true
are_floats rs i (suc n) = is_float rs i && are_floats rs (i + 8) n

-- one of those that are read one after the other
float_in_lem : (n : ℕ) (s : List ℕ) (j : ℕ) → j < n → get_or (floats_in Wide n s) j nan ≡ float_in Wide (drop (j * 8) s)
unfolding floats_in
float_in_lem zero s j h = absurd (omega arith)
float_in_lem (suc n) s zero h = let z : 0 * 8 ≡ 0 = omega arith in rw z refl
float_in_lem (suc n) s (suc j) h =
    let k : 8 + j * 8 ≡ suc j * 8 = omega (arith, suc-mul j 8) in
    float_in_lem n (drop 8 s) j (omega arith) ∙ ap (float_in Wide) (drop-drop (j * 8) 8 s ∙ ap (λ (i : ℕ). drop i s) k)

float_here : (s : List ℕ) (i : ℕ) → float_in Wide (drop i s) ≡ float_at s i
unfolding float_at
float_here s i = ap (of_bits binary64) (le_at_front s i 8)

-- it is one of the body's floats
float_listed : (rs : List Run) (s : List ℕ) (i : ℕ) → is_float rs i ≡ true → get_or (body_floats Wide rs s) (floats_before rs i) nan ≡ float_at s i
unfolding is_float floats_before body_floats
float_listed [] s i e = impossible cc
float_listed (r ∷ rs) s i e = by (ltb i (run_bytes Wide r)) refl (λ q. float_listed rs (drop (run_bytes Wide r) s) (i - run_bytes Wide r) q)
  where
    xs : List Float
    xs = run_floats Wide r s

    ys : List Float
    ys = body_floats Wide rs (drop (run_bytes Wide r) s)

    count : length xs ≡ r.floats
    count = floats_count Wide r.floats (drop r.copied s)

    by : (t : Bool) → ltb i (run_bytes Wide r) ≡ t
        → (is_float rs (i - run_bytes Wide r) ≡ true → get_or (body_floats Wide rs (drop (run_bytes Wide r) s)) (floats_before rs (i - run_bytes Wide r)) nan ≡ float_at (drop (run_bytes Wide r) s) (i - run_bytes Wide r))
        → get_or (xs ++ ys) (cond (ltb i (run_bytes Wide r)) ((i - r.copied) / 8) (r.floats + floats_before rs (i - run_bytes Wide r))) nan ≡ float_at s i
    by true q later =
        let p = and_both (leb r.copied i) (eqb ((i - r.copied) % 8) 0) (rw q at e) in
        let j = (i - r.copied) / 8 in
        let l : i < run_bytes Wide r = ltb-true i (run_bytes Wide r) q in
        let from : r.copied ≤ i = leb-true r.copied i p.0 in
        let whole : (i - r.copied) % 8 ≡ 0 = eqb-true _ _ p.1 in
        let under : j < r.floats = omega (arith, l, from, whole) in
        let back : r.copied + j * 8 ≡ i = omega (arith, from, whole) in
        rw q
        (get_or-append xs ys nan j (omega (arith, count, under))
        ∙ float_in_lem r.floats (drop r.copied s) j under
        ∙ ap (float_in Wide) (drop-drop (j * 8) r.copied s ∙ ap (λ (m : ℕ). drop m s) back)
        ∙ float_here s i)
    by false q later =
        let l : run_bytes Wide r ≤ i = ltb-false i (run_bytes Wide r) q in
        let back : run_bytes Wide r + (i - run_bytes Wide r) ≡ i = omega (arith, l) in
        rw q
        (ap (λ (m : ℕ). get_or (xs ++ ys) (m + floats_before rs (i - run_bytes Wide r)) nan) (sym count)
        ∙ get_or-append-add xs ys (floats_before rs (i - run_bytes Wide r)) nan
        ∙ later (rw q at e)
        ∙ sym (float_here (drop (run_bytes Wide r) s) (i - run_bytes Wide r))
        ∙ ap (float_in Wide) (drop-drop (i - run_bytes Wide r) (run_bytes Wide r) s ∙ ap (λ (m : ℕ). drop m s) back)
        ∙ float_here s i)

float_kept : (rs : List Run) (s : List ℕ) → runs_bytes Wide rs ≤ length s → (i : ℕ) → is_float rs i ≡ true → float_at (quiet rs s) i ≡ float_at s i
float_kept rs s h i e =
    sym (float_listed rs (quiet rs s) i e)
    ∙ ap (λ (l : List Float). get_or l (floats_before rs i) nan) (body_floats_lem Wide Wide rs s h (own_held Wide rs s))
    ∙ float_listed rs s i e

floats_kept : (rs : List Run) (s : List ℕ) → runs_bytes Wide rs ≤ length s → (i n : ℕ) → are_floats rs i n ≡ true → floats_at (quiet rs s) i n ≡ floats_at s i n
unfolding floats_at are_floats
floats_kept rs s h i zero e = refl
floats_kept rs s h i (suc n) e =
    let p = and_both (is_float rs i) (are_floats rs (i + 8) n) e in
    ap₂ (λ (x : Float) (xs : List Float). x ∷ xs) (float_kept rs s h i p.0) (floats_kept rs s h (i + 8) n p.1)

-- ---- both

-- t has at each place what s has there
pub record SamePlaces (rs : List Run) (s t : List ℕ) : Type 0 where
  pub byte : (i : ℕ) → is_copied rs i ≡ true → byte_at t i ≡ byte_at s i
  pub number : (i n : ℕ) → are_copied rs i n ≡ true → le_at t i n ≡ le_at s i n
  pub float : (i : ℕ) → is_float rs i ≡ true → float_at t i ≡ float_at s i
  pub floats : (i n : ℕ) → are_floats rs i n ≡ true → floats_at t i n ≡ floats_at s i n

pub same_places : (rs : List Run) (s : List ℕ) → runs_bytes Wide rs ≤ length s → SamePlaces rs s (quiet rs s)
same_places rs s h = record { byte = byte_kept rs s h; number = number_kept rs s h; float = float_kept rs s h; floats = floats_kept rs s h }
