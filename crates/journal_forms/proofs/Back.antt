-- There and back: what was converted with nothing refused is converted back with nothing refused,
-- each NaN with its quiet pattern and every other byte as it was (specs/Claims).
use Prim.Native.Nat.{ℕ, suc, ◌-◌}
use mathlib.Core.Path.{◌≡◌, refl, sym, ap, ap₂, ◌∙◌}
use mathlib.Core.Bool.{true}
use mathlib.Core.List.{List, [], ◌∷◌, ◌++◌}
use lib.ListN.{length, drop}
use Rattle.stream.specs.Stream.{tell, End, awaits, halted, Settled, telling, settled}
use Rattle.stream.proofs.Stream.{impossible, settled_wait, settled_tell}
use Rattle.journal_frames.specs.declared.Frame.TheVariants.{Whole}
use Rattle.journal_frames.specs.Frames.{body_len, body_of, frame_of, Framed, bytes_of}
use Rattle.journal_forms.specs.declared.Form.{Form}
use Rattle.journal_forms.specs.declared.Cause.{Cause}
use Rattle.journal_forms.specs.Forms.{other, kinds_of, runs_of}
use Rattle.journal_forms.specs.Body.{body_floats, body_to, body_held, all_pass}
use Rattle.journal_forms.specs.Conversion.{turned, on_form, ended, ending_of, conversion_of, records_floats, floats_of}
use Rattle.journal_forms.specs.Claims.{OfBytes, is_number, NoNan, ThereAndBack}
use Rattle.journal_forms.proofs.Bytes.{bytes_drop, bytes_take}
use Rattle.journal_forms.proofs.Floats.{both_pass}
use Rattle.journal_forms.proofs.Bodies.{body_same}
use Rattle.journal_forms.proofs.Records.{form_machine, whole_told, whole_at, inside, made_frame, made_body, made_after, made_held, made_through, own_held}
use Rattle.journal_forms.proofs.Done.{whole_bytes, framed_as_lem, turned_as, Done, by_records}

-- an ending with nothing refused says that all of s was taken
done_by : (p : ℕ) (v : List ℕ) (x : End Cause) → ending_of p v x ≡ ended → (x ≡ awaits) × (v ≡ [])
done_by p [] awaits e = (refl, refl)
done_by p (j ∷ v) awaits e = impossible cc
done_by p [] (halted c) e = impossible cc
done_by p (j ∷ v) (halted c) e = impossible cc

pub done_is : (a b : Form) (s : List ℕ) → (conversion_of a b s).ending ≡ ended → Done a b s
unfolding conversion_of
done_is a b s e = let m = settled (on_form a b) tt s in let d = done_by (length s - length m.rest) m.rest m.end e in record { end = d.0; rest = d.1 }

done_ends : (a b : Form) (s : List ℕ) → Done a b s → (conversion_of a b s).ending ≡ ended
unfolding conversion_of
done_ends a b s d = rw (d.end, d.rest) refl

-- ---- the way back

module _ (a b : Form) where
  -- what is written of s
  abbrev bytes : List ℕ → List ℕ
  bytes s = bytes_of (settled (on_form a b) tt s).told

  -- it is converted back to what s is in its own form, and all of it is
  record Trip (s : List ℕ) : Type 0 where
    back : settled (on_form b a) tt (bytes s) ≡ record { state = tt; rest = []; told = (settled (on_form a a) tt s).told; end = awaits }
    own : Done a a s

  trip_none : Trip []
  unfolding bytes_of
  trip_none =
      let e = settled_wait (on_form a b) (form_machine a b).there tt [] ((form_machine a b).idle tt) in
      let g = settled_wait (on_form a a) (form_machine a a).there tt [] ((form_machine a a).idle tt) in
      record {
        back = rw (e, g) (settled_wait (on_form b a) (form_machine b a).there tt [] ((form_machine b a).idle tt));
        own = record { end = rw g refl; rest = rw g refl };
      }

  module _ (s : List ℕ) (k n : ℕ) (i : frame_of (kinds_of a) s ≡ Whole k n) (h : body_held a b (runs_of k) (body_of n s) ≡ true) where
    abbrev later : List ℕ
    later = drop (suc n) s

    abbrev f : Framed
    f = record { kind = k; body = body_of n s }

    -- the record in its own form
    same : settled (on_form a a) tt s ≡ telling (turned a a f ∷ []) (settled (on_form a a) tt later)
    same = turned_as a a s k n i (own_held a (runs_of k) (body_of n s))

    abbrev t : List ℕ
    t = bytes later

    written : bytes s ≡ (k ∷ body_to a b (runs_of k) (body_of n s)) ++ t
    unfolding bytes_of
    written = ap (λ (m : Settled (Unit {0}) Framed Cause). bytes_of m.told) (turned_as a b s k n i h)

    -- and its bytes are converted back to its own form
    back_told : on_form b a tt ((k ∷ body_to a b (runs_of k) (body_of n s)) ++ t) ≡ tell tt (suc (body_len (kinds_of b) k)) (turned a a f)
    back_told =
        let v = (k ∷ body_to a b (runs_of k) (body_of n s)) ++ t in
        let x = made_body a b s k n i h t in
        let g : body_held b a (runs_of k) (body_of (body_len (kinds_of b) k) v) ≡ true = ap (body_held b a (runs_of k)) x ∙ made_held a b s k n i h t a (own_held a (runs_of k) (body_of n s)) in
        whole_told b a v k (body_len (kinds_of b) k) (made_frame a b s k n i h t) g
        ∙ ap (λ (y : List ℕ). tell tt (suc (body_len (kinds_of b) k)) (record { kind = k; body = y })) (ap (body_to b a (runs_of k)) x ∙ made_through a b s k n i h t a)

    trip_one : Trip later → Trip s
    trip_one d =
        let v = (k ∷ body_to a b (runs_of k) (body_of n s)) ++ t in
        record {
          back =
              ap (settled (on_form b a) tt) written
              ∙ settled_tell (on_form b a) (form_machine b a).there tt v tt (suc (body_len (kinds_of b) k)) (turned a a f) back_told
              ∙ ap (λ (u : List ℕ). telling (turned a a f ∷ []) (settled (on_form b a) tt u)) (made_after a b s k n i h t)
              ∙ ap (telling (turned a a f ∷ [])) d.back
              ∙ ap (λ (m : Settled (Unit {0}) Framed Cause). record { state = tt; rest = []; told = m.told; end = awaits }) (sym same);
          own = record { end = rw same d.own.end; rest = rw same d.own.rest };
        }

  trip : (s : List ℕ) → Done a b s → Trip s
  trip = by_records a b Trip trip_none trip_one

-- ---- the same bytes, where they are bytes and no float is a NaN

module _ (a : Form) where
  abbrev AsItWas : List ℕ → Type 0
  AsItWas s = OfBytes s → NoNan a s → bytes_of (settled (on_form a a) tt s).told ≡ s

  was_none : AsItWas []
  unfolding bytes_of
  was_none b q = ap (λ (m : Settled (Unit {0}) Framed Cause). bytes_of m.told) (settled_wait (on_form a a) (form_machine a a).there tt [] ((form_machine a a).idle tt))

  was_one : (s : List ℕ) (k n : ℕ) → frame_of (kinds_of a) s ≡ Whole k n → body_held a a (runs_of k) (body_of n s) ≡ true → AsItWas (drop (suc n) s) → AsItWas s
  unfolding bytes_of records_floats
  was_one s k n i h after b q =
      let later = drop (suc n) s in
      let r = both_pass is_number (body_floats a (runs_of k) (body_of n s)) (floats_of a later) (ap (λ (m : Settled (Unit {0}) Framed (Unit {0})). all_pass is_number (records_floats a m.told)) (sym (framed_as_lem a s k n i)) ∙ q) in
      let c : OfBytes (body_of n s) = bytes_take n (drop 1 s) (bytes_drop 1 s b) in
      ap (λ (m : Settled (Unit {0}) Framed Cause). bytes_of m.told) (turned_as a a s k n i h)
      ∙ ap₂ (λ (y z : List ℕ). (k ∷ y) ++ z) (body_same a (runs_of k) (body_of n s) (inside a a s k n i) c r.0) (after (bytes_drop (suc n) s b) r.1)
      ∙ whole_bytes s k n (whole_at a s k n i)

  as_it_was : (s : List ℕ) → Done a a s → AsItWas s
  as_it_was = by_records a a AsItWas was_none was_one

-- ---- the claim

pub there_and_back : ThereAndBack
unfolding conversion_of
there_and_back a s e =
    let t = trip a (other a) s (done_is a (other a) s e) in
    record {
      back = rw (t.back, t.own.end, t.own.rest) refl;
      ends = done_ends a a s t.own;
      restored = λ b q. ap (λ (m : Settled (Unit {0}) Framed Cause). bytes_of m.told) t.back ∙ as_it_was a s t.own b q;
    }
