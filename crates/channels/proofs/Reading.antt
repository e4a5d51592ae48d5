-- Memory after a read, and what the read is counted as.
use Rattle.std.proofs.Common.{◌≡◌, ℕ, ◌+◌, ◌-◌, ◌%◌, ◌^◌, ◌<◌, ◌≤◌, min, false, List, [], ◌++◌, length, take, drop, sym, refl, ap, ◌∙◌, subst, append-nil, arith, length-append, length-drop, length-take, length-take-le, take_at, take-add}
use borrow.Rule.Slice.PartMut.{put_mid}
use Rattle.channels.specs.declared.intake.Got.{Got}
use Rattle.channels.specs.declared.intake.Reads.{Reads}
use Rattle.channels.specs.declared.intake.Supply.{Supply}
use Rattle.channels.specs.declared.intake.Supply.TheVariants.{More, Over, Failed, Spent}
use Rattle.channels.specs.Intake.{most_reads, may_come, is_spent, Counted, Came}
use Rattle.channels.proofs.Front.{front_is, not_both}

-- a read that was made
pub counted_by : (x : Supply) (before : ℕ) → is_spent x ≡ false → before < most_reads → Counted x before (before + 1)
counted_by More before e h = (h, refl)
counted_by Over before e h = (h, refl)
counted_by Failed before e h = (h, refl)
counted_by Spent before e h = not_both e

-- no read was made, and nothing came
pub came_none : (b : List ℕ) (have a : ℕ) → a ≡ min have (length b) → (reads : Reads) → reads.bytes < 2 ^ 64 → most_reads ≤ reads.made
    → Came (take have b) reads (record { have = a; reads = record { made = reads.made; bytes = reads.bytes; last = Spent } }) b
came_none b have a q reads k h =
    let t : take have b ≡ take a b = front_is b have ∙ ap (λ (j : ℕ). take j b) (sym q) in
    record {
      came = [];
      within = omega (arith, q);
      count = omega (arith, q, length-append (take have b) [], length-take have b);
      bytes = sym t ∙ sym (append-nil (take have b));
      brought = omega (arith, k);
      counted = (h, refl);
      none = λ z. refl;
    }

-- memory b, of which a read changed the bytes from place a on, the last of the first `have` bytes
-- or of all
module _ (b : List ℕ) (have a : ℕ) (q : a ≡ min have (length b)) (y : List ℕ) (l : length y ≡ length (take (length b - a) (drop a b))) where
  abbrev after_read : List ℕ
  after_read = put_mid a (length b - a) b y

  read_long : length after_read ≡ length b
  read_long =
      omega (
        arith,
        q,
        length-append (take a b) (y ++ drop (length b - a) (drop a b)),
        length-append y (drop (length b - a) (drop a b)),
        length-take-le a b (omega (arith, q)),
        l,
        length-take (length b - a) (drop a b),
        length-drop a b,
        length-drop (length b - a) (drop a b),
      )

  read_front : take a after_read ≡ take a b
  read_front = take_at (take a b) (y ++ drop (length b - a) (drop a b)) a (length-take-le a b (omega (arith, q)))

  -- n bytes came, and the read is counted
  pub came_is : (n : ℕ) (reads : Reads) (r : Got) → n ≤ length b - a → r.have ≡ a + n → r.reads.bytes ≡ (reads.bytes + n) % 2 ^ 64
      → Counted r.reads.last reads.made r.reads.made → (may_come r.reads.last ≡ false → n ≡ 0) → Came (take have b) reads r after_read
  came_is n reads r k e w f g =
      let t : take (a + n) after_read ≡ take a b ++ take n (drop a after_read)
      = take-add a n after_read ∙ ap (λ (x : List ℕ). x ++ take n (drop a after_read)) read_front in
      let m : length (take n (drop a after_read)) ≡ n = length-take-le n (drop a after_read) (omega (arith, k, length-drop a after_read, read_long)) in
      subst
      (λ (u : List ℕ). Came u reads r after_read)
      (sym (front_is b have ∙ ap (λ (j : ℕ). take j b) (sym q)))
      (record {
        came = take n (drop a after_read);
        within = omega (arith, q, read_long, e, k);
        count = e ∙ sym (length-take-le (a + n) after_read (omega (arith, q, read_long, k))) ∙ ap length t;
        bytes = ap (λ (j : ℕ). take j after_read) e ∙ t;
        brought = w ∙ ap (λ (j : ℕ). (reads.bytes + j) % 2 ^ 64) (sym m);
        counted = f;
        none = λ z. ap (λ (j : ℕ). take j (drop a after_read)) (g z);
      })
