-- Numbers and floats, put into memory one after the other.
use Prim.Native.Nat.{ℕ, zero, suc, ◌^◌, ◌+◌, ◌-◌, ◌*◌, ◌/◌, ◌%◌, ◌≤◌, ◌<◌}
use mathlib.Core.Path.{◌≡◌, refl, sym, ap, ap₂, ◌∙◌}
use mathlib.Core.Bool.{Bool, true, false, cond}
use mathlib.Core.List.{List, [], ◌∷◌, ◌++◌, append-nil, append_assoc}
use native.Mathlib.Nat.{pow-suc, suc-mul, mul-le-mul_right, div-div-eq-div-mul}
use native.Mathlib.Numerals.{add-one}
use native.Mathlib.Omega.{arith}
use lib.ListN.{length, take, drop, set, length-drop, length-append, drop_of_length-le}
use lib.Dec.{leb}
use lib.Seq.{paste, paste-zero, drop-drop, set_split, append_snoc, take_all, length-take-le}
use lib.Ieee.{Float, fits, to_bits}
use Rattle.std.specs.Int.{byte_at, to_le_bytes, bytes_low_first, w64}
use borrow.Rule.Slice.PartMut.{put_mid}
use Rattle.std.proofs.lemmas.Slice.{put_mid-paste}
use Rattle.text.specs.Memory.{Put, place_put, memory_put}
use Rattle.text.proofs.Puts.{put_none, put_on, put_there}
use Rattle.journal_forms.specs.declared.Form.{Form}
use Rattle.journal_forms.specs.declared.body.Run.{Run}
use Rattle.journal_forms.specs.Forms.{format_of, float_bytes}
use Rattle.journal_forms.specs.Body.{le_bytes, float_in, floats_in, float_to, floats_to, all_pass, run_bytes, runs_bytes, run_floats, body_floats, run_to, body_to, body_held}
use Rattle.journal_forms.proofs.Bytes.{bytes_long}
use Rattle.journal_forms.proofs.Floats.{both_pass, floats_more, to_append, float_place, pass_at}
use Rattle.journal_forms.proofs.Bodies.{run_long}

-- one byte
pub put_byte : (out : List ℕ) (n b : ℕ) → n < length out → Put out n (b ∷ []) (n + 1) (set out n b)
put_byte out n b h = record { ends = refl; memory = rw add-one (set_split out n b h ∙ sym (append_snoc (take n out) b (drop (suc n) out))) }

-- the part from a place on
pub part_from : (s : List ℕ) (at : ℕ) → take (length s - at) (drop at s) ≡ drop at s
part_from s at = take_all (length s - at) (drop at s) (omega (arith, length-drop at s))

-- an empty part is there already
pub none_put : (out : List ℕ) (n : ℕ) (s : List ℕ) → length s ≡ 0 → (n ≡ place_put (length out) n s) × (out ≡ memory_put out n s)
unfolding place_put memory_put
none_put out n [] h = by (leb (n + 0) (length out))
  where
    by : (t : Bool) → (n ≡ cond t (n + 0) n) × (out ≡ cond t (paste out n [] 0) out)
    by true = (omega arith, paste-zero out n [])
    by false = (refl, refl)
none_put out n (b ∷ s) h = absurd (omega arith)

-- ---- a number

-- the library's bytes are these
byte_is : (i n : ℕ) → byte_at i n ≡ n / 256 ^ i % 256
byte_is zero n = omega arith
byte_is (suc i) n = refl

low_first : (i k w n : ℕ) → w ≤ k → take w (bytes_low_first i k n) ≡ le_bytes w (n / 256 ^ i)
unfolding le_bytes
low_first i k zero n h = refl
low_first i zero (suc w) n h = absurd (omega arith)
low_first i (suc k) (suc w) n h =
    ap₂ ◌∷◌ (byte_is i n) (low_first (suc i) k w n (omega arith) ∙ ap (le_bytes w) (rw (pow-suc, div-div-eq-div-mul)))

number_bytes : (w n : ℕ) → w ≤ 8 → take w (to_le_bytes w64 n) ≡ le_bytes w n
number_bytes w n h = low_first 0 8 w n h ∙ ap (le_bytes w) (omega arith)

-- put in the place of as many
pub number_put : (out : List ℕ) (n w number : ℕ) (bytes : List ℕ) → w ≤ 8 → bytes ≡ take w (to_le_bytes w64 number) → Put out n (le_bytes w number) (n + w) (put_mid n (n + w - n) out bytes)
number_put out n w number bytes h e =
    let l = bytes_long w number in
    record {
      ends = omega (arith, l);
      memory = put_mid-paste n (n + w - n) out bytes (le_bytes w number) (length (le_bytes w number)) (e ∙ number_bytes w number h) (omega (arith, l)) refl;
    }

-- ---- floats

module _ (a b : Form) (s : List ℕ) (at count : ℕ) (out₀ : List ℕ) (n : ℕ) where
  -- the first i floats are there
  pub record Floats (out : List ℕ) (end i : ℕ) : Type 0 where
    pub long : length out ≡ length out₀
    pub upto : end ≡ n + i * float_bytes b
    pub so_far : Put out₀ n (floats_to b (floats_in a i (drop at s))) end out

  pub floats_none : Floats out₀ n 0
  unfolding floats_in floats_to
  floats_none = record {
    long = refl;
    upto = (let e : n ≡ n + 0 * float_bytes b = omega arith in e);
    so_far = put_none out₀ n;
  }

  module _ (out : List ℕ) (end i : ℕ) (h : i < count) (f : Floats out end i) where
    -- there is room for one more
    pub float_room : n + count * float_bytes b ≤ length out₀ → end + float_bytes b ≤ length out
    float_room room =
        let k : (i + 1) * float_bytes b ≤ count * float_bytes b = mul-le-mul_right (float_bytes b) (omega arith) in
        let e : (i + 1) * float_bytes b ≡ i * float_bytes b + float_bytes b = rw add-one (suc-mul i (float_bytes b)) in
        omega (arith, f.upto, f.long, room, k, e)

    module _ (v : ℕ) (x₀ : v ≡ float_bytes a) where
      here : drop (i * float_bytes a) (drop at s) ≡ drop (at + i * v) s
      here = float_place a s at (at + i * v) i (ap (λ (j : ℕ). at + i * j) x₀)

      -- the next float passes a test that all pass
      pub float_passes : (p : Float → Bool) → all_pass p (floats_in a count (drop at s)) ≡ true → p (float_in a (drop (at + i * v) s)) ≡ true
      float_passes p e = ap (λ (u : List ℕ). p (float_in a u)) (sym here) ∙ pass_at p a count (drop at s) i h e

      pub floats_on : n + count * float_bytes b ≤ length out₀ → (w pattern : ℕ) → w ≡ float_bytes b → pattern ≡ to_bits (format_of b) (float_in a (drop (at + i * v) s))
          → (end' : ℕ) (out' : List ℕ) → Put out end (le_bytes w pattern) end' out' → length out' ≡ length out → Floats out' end' (i + 1)
      unfolding floats_to
      floats_on room w pattern y z end' out' p l =
          let u = drop at s in
          let x = float_in a (drop (i * float_bytes a) u) in
          let g : (i + 1) * float_bytes b ≡ i * float_bytes b + float_bytes b = rw add-one (suc-mul i (float_bytes b)) in
          let q : le_bytes w pattern ≡ float_to b x = ap₂ le_bytes y (z ∙ ap (λ (v : List ℕ). to_bits (format_of b) (float_in a v)) (sym here)) in
          let t : floats_to b (floats_in a i u) ++ le_bytes w pattern ≡ floats_to b (floats_in a (i + 1) u)
          = ap (λ (v : List ℕ). floats_to b (floats_in a i u) ++ v) (q ∙ sym (append-nil (float_to b x)))
          ∙ sym (to_append b (floats_in a i u) (x ∷ []))
          ∙ ap (floats_to b) (sym (floats_more a i u) ∙ ap (λ (j : ℕ). floats_in a j u) (sym (add-one i))) in
          record {
            long = l ∙ f.long;
            upto = omega (arith, f.upto, g, p.ends, bytes_long w pattern, y);
            so_far = rw t at (put_on out₀ n (floats_to b (floats_in a i u)) end out (le_bytes w pattern) end' out' (omega (arith, room)) f.so_far p);
          }

-- ---- a run

module _ (a b : Form) (r : Run) (s : List ℕ) (at : ℕ) (inside : at + run_bytes a r ≤ length s) (out : List ℕ) (n : ℕ) (room : n + run_bytes b r ≤ length out) where
  -- the bytes that are copied
  pub run_first : (e : ℕ) → e ≡ at + r.copied → (end : ℕ) (out' : List ℕ)
      → (end ≡ place_put (length out) n (take (e - at) (drop at s))) × (out' ≡ memory_put out n (take (e - at) (drop at s))) → Put out n (take r.copied (drop at s)) end out'
  run_first e y end out' p =
      let k : e - at ≡ r.copied = omega (arith, y) in
      let l : length (take r.copied (drop at s)) ≡ r.copied = length-take-le r.copied (drop at s) (omega (arith, length-drop at s)) in
      put_there out n (take r.copied (drop at s)) (omega (arith, l)) end out' (rw k at p)

  -- its floats come next
  pub run_second : (p : Float → Bool) → all_pass p (run_floats a r (drop at s)) ≡ true → (e : ℕ) → e ≡ at + r.copied → (end : ℕ) (out' : List ℕ) → Put out n (take r.copied (drop at s)) end out' → length out' ≡ length out
      → (e + r.floats * float_bytes a ≤ length s) × (end + r.floats * float_bytes b ≤ length out') × (all_pass p (floats_in a r.floats (drop e s)) ≡ true)
  run_second p h e y end out' q k =
      let l : length (take r.copied (drop at s)) ≡ r.copied = length-take-le r.copied (drop at s) (omega (arith, length-drop at s)) in
      (omega (arith, y), omega (arith, q.ends, l, k), ap (λ (u : List ℕ). all_pass p (floats_in a r.floats u)) (sym (run_floats_at e y)) ∙ h)
    where
      run_floats_at : (e : ℕ) → e ≡ at + r.copied → drop r.copied (drop at s) ≡ drop e s
      run_floats_at e y = drop-drop r.copied at s ∙ ap (λ (j : ℕ). drop j s) (sym y)

  pub run_all : (e : ℕ) → e ≡ at + r.copied → (end : ℕ) (out' : List ℕ) → Put out n (take r.copied (drop at s)) end out' → (end' : ℕ) (out'' : List ℕ)
      → Put out' end (floats_to b (floats_in a r.floats (drop e s))) end' out'' → Put out n (run_to a b r (drop at s)) end' out''
  run_all e y end out' p end' out'' q =
      let k : drop e s ≡ drop r.copied (drop at s) = ap (λ (j : ℕ). drop j s) y ∙ sym (drop-drop r.copied at s) in
      put_on out n (take r.copied (drop at s)) end out' (floats_to b (run_floats a r (drop at s))) end' out'' (omega arith) p (rw k at q)

-- ---- a body, run by run

module _ (a b : Form) (rs : List Run) (s out₀ : List ℕ) (n : ℕ) where
  -- before run i, at place `at`: what was made so far is there, and the rest is still to be made
  pub record Runs (i at end : ℕ) (out : List ℕ) : Type 0 where
    pub long : length out ≡ length out₀
    pub sum : at + runs_bytes a (drop i rs) ≡ runs_bytes a rs
    pub held : body_held a b (drop i rs) (drop at s) ≡ true
    pub made : List ℕ
    pub so_far : Put out₀ n made end out
    pub same : made ++ body_to a b (drop i rs) (drop at s) ≡ body_to a b rs s

  module _ (inside : runs_bytes a rs ≤ length s) (room : n + length (body_to a b rs s) ≤ length out₀) where
    module _ (i at end : ℕ) (out : List ℕ) (w : Runs i at end out) (r : Run) (e : drop i rs ≡ r ∷ drop (i + 1) rs) where
      abbrev later : List Run
      later = drop (i + 1) rs

      abbrev text : List ℕ
      text = run_to a b r (drop at s)

      there : at + run_bytes a r ≤ length s
      unfolding runs_bytes
      there = omega (arith, w.sum, ap (runs_bytes a) e, inside)

      text_long : length text ≡ run_bytes b r
      text_long = run_long a b r (drop at s) (omega (arith, there, length-drop at s))

      split : body_to a b (drop i rs) (drop at s) ≡ text ++ body_to a b later (drop (at + run_bytes a r) s)
      unfolding body_to
      split = ap (λ (xs : List Run). body_to a b xs (drop at s)) e ∙ ap (λ (u : List ℕ). text ++ body_to a b later u) (drop-drop (run_bytes a r) at s)

      both : (all_pass (fits (format_of b)) (run_floats a r (drop at s)) ≡ true) × (body_held a b later (drop (at + run_bytes a r) s) ≡ true)
      unfolding body_floats
      both =
          let p = both_pass (fits (format_of b)) (run_floats a r (drop at s)) (body_floats a later (drop (run_bytes a r) (drop at s)))
          (sym (ap (λ (xs : List Run). body_held a b xs (drop at s)) e) ∙ w.held) in
          (p.0, ap (λ (u : List ℕ). body_held a b later u) (sym (drop-drop (run_bytes a r) at s)) ∙ p.1)

      lengths : length (body_to a b rs s) ≡ length w.made + (length text + length (body_to a b later (drop (at + run_bytes a r) s)))
      lengths =
          ap length (sym w.same ∙ ap (λ (u : List ℕ). w.made ++ u) split)
          ∙ length-append w.made (text ++ body_to a b later (drop (at + run_bytes a r) s))
          ∙ ap (λ (j : ℕ). length w.made + j) (length-append text (body_to a b later (drop (at + run_bytes a r) s)))

      pub run_asks : (at + run_bytes a r ≤ length s) × (end + run_bytes b r ≤ length out) × (all_pass (fits (format_of b)) (run_floats a r (drop at s)) ≡ true)
      run_asks = (there, omega (arith, w.long, w.so_far.ends, room, lengths, text_long), both.0)

      pub runs_more : (m : ℕ) → m ≡ run_bytes a r → (end' : ℕ) (out' : List ℕ) → Put out end text end' out' → length out' ≡ length out → Runs (i + 1) (at + m) end' out'
      unfolding runs_bytes
      runs_more m y end' out' p k = record {
        long = k ∙ w.long;
        sum = omega (arith, w.sum, ap (runs_bytes a) e, y);
        held = rw y both.1;
        made = w.made ++ text;
        so_far = put_on out₀ n w.made end out text end' out' (omega (arith, room)) w.so_far p;
        same = rw y (append_assoc w.made text (body_to a b later (drop (at + run_bytes a r) s)) ∙ ap (λ (u : List ℕ). w.made ++ u) (sym split) ∙ w.same);
      }

    -- what is left is copied
    module _ (i at end : ℕ) (out : List ℕ) (w : Runs i at end out) where
      pub runs_within : at ≤ length s
      runs_within = omega (arith, w.sum, inside)

      pub runs_all : length rs ≤ i → (rest : List ℕ) → rest ≡ drop at s → (r : ℕ) (out' : List ℕ) → (r ≡ place_put (length out) end rest) × (out' ≡ memory_put out end rest) → Put out₀ n (body_to a b rs s) r out'
      unfolding body_to
      runs_all h rest x r out' t =
          let f : w.made ++ rest ≡ body_to a b rs s = rw x (sym (rw (drop_of_length-le rs h) refl) ∙ w.same) in
          let k : length (body_to a b rs s) ≡ length w.made + length rest = ap length (sym f) ∙ length-append w.made rest in
          rw f at (put_on out₀ n w.made end out rest r out' (omega (arith, room)) w.so_far (put_there out end rest (omega (arith, room, k, w.so_far.ends, w.long)) r out' t))
