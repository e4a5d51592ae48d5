-- Narrowing and then widening keeps what a journal means.
use Rattle.std.proofs.Common.{Ok, Err}
use Prim.Native.Nat.{ℕ, suc, ◌+◌, ◌-◌}
use mathlib.Core.Path.{◌≡◌, refl, sym, ap, ◌∙◌}
use mathlib.Core.Bool.{true}
use mathlib.Core.List.{List, [], ◌∷◌, ◌++◌}
use native.Mathlib.Omega.{arith}
use lib.ListN.{length, drop, length-append, length-drop}
use Rattle.stream.specs.Stream.{Next, halt, go, tell, End, awaits, halted, Settled, telling, settled}
use Rattle.stream.proofs.Stream.{settled_wait, settled_halt, settled_go, settled_tell}
use Rattle.journal_frames.specs.declared.Frame.TheVariants.{Whole}
use Rattle.journal_frames.specs.Frames.{body_len, body_of, frame_of, Framed, bytes_of}
use Rattle.journal_records.specs.Kinds.{journal_kinds}
use Rattle.journal_records.specs.declared.Record.{Record}
use Rattle.journal_records.specs.declared.Record.TheVariants.{Settings, Reset, Ack, Head, Value, Outcome, Tick, Width}
use Rattle.journal_records.specs.Body.{decode_of}
use Rattle.journal_refusals.specs.declared.Refusal.{Refusal}
use Rattle.journal_refusals.specs.Table.{Judged, whole_of}
use Rattle.journal_reader.specs.State.{State, seen_in}
use Rattle.journal_reader.specs.Reading.{Instruction, on_record, on_judged, on_whole, on_bytes}
use Rattle.journal_reader.proofs.Reading.{machine, next_frame}
use Rattle.journal.specs.Events.{events_from, run_after_all}
use Rattle.journal.specs.Journal.{Meaning, start_state, start_run, ending_of, journal_of}
use Rattle.journal_forms.specs.declared.Form.TheVariants.{Wide, Narrow}
use Rattle.journal_forms.specs.declared.Cause.{Cause}
use Rattle.journal_forms.specs.Forms.{runs_of}
use Rattle.journal_forms.specs.Body.{body_held}
use Rattle.journal_forms.specs.Conversion as C
use Rattle.journal_forms.specs.Conversion.{on_form, Conversion, conversion_of, converted_bytes}
use Rattle.journal_forms.specs.Claims.{Back}
use Rattle.journal_forms.proofs.Records.{form_machine, whole_at, inside, made_frame, made_body, made_after, made_long}
use Rattle.journal_forms.proofs.Done.{turned_as, Done, by_records}
use Rattle.journal_forms.proofs.Back.{done_is, there_and_back}
use Rattle.printer.specs.Printer.{Printer, kinds_taken, text_from, beside_from, text_of, beside_of}
use Rattle.form_claims.specs.Kept.{back_again, VerdictsKept}
use Rattle.form_claims.proofs.Places.{quiet}
use Rattle.form_claims.proofs.Decoded.{read_as}

abbrev Move : Type 0
Move = Next State Instruction Refusal

abbrev Comes : Type 0
Comes = Settled State Instruction Refusal

abbrev reads : State → List ℕ → Move
reads = on_bytes journal_kinds

-- what is written of s with each NaN quiet
abbrev quieted : List ℕ → List ℕ
quieted s = converted_bytes Wide Wide s

-- ---- one record

-- it is refused, or all of it is taken
data Moves (n : ℕ) : Move → Type 0 where
  stops : (r : Refusal) → Moves n (halt r)
  goes : (st : State) → Moves n (go st n)
  tells : (st : State) (i : Instruction) → Moves n (tell st n i)

moves_on : (st : State) (b : List ℕ) (n : ℕ) (x : Record) → Moves n (on_record st b n x)
unfolding on_record
moves_on st b n Settings = tells _ _
moves_on st b n Reset = tells _ _
moves_on st b n (Ack a) = goes _
moves_on st b n (Head h) = goes _
moves_on st b n (Value c x) = goes _
moves_on st b n Outcome = goes _
moves_on st b n (Tick t) = tells _ _
moves_on st b n (Width w) = tells _ _

moves_by : (st : State) (b : List ℕ) (n : ℕ) (x : Record) (j : Judged) → Moves n (on_judged st b n x j)
moves_by st b n x (Err r) = stops r
moves_by st b n x (Ok _) = moves_on st b n x

moves : (st : State) (k : ℕ) (b : List ℕ) (n : ℕ) → Moves n (on_whole st k b n)
unfolding on_whole
moves st k b n = moves_by st b n (decode_of k b) (whole_of (seen_in st) k b)

-- ---- the reader comes as far with both

record Alike (a b : Comes) : Type 0 where
  state : a.state ≡ b.state
  told : a.told ≡ b.told
  end : a.end ≡ b.end
  long : length a.rest ≡ length b.rest

same_alike : (a b c d : Comes) → a ≡ c → b ≡ d → Alike c d → Alike a b
same_alike a b c d e f x = record {
  state = ap (λ (m : Comes). m.state) e ∙ x.state ∙ sym (ap (λ (m : Comes). m.state) f);
  told = ap (λ (m : Comes). m.told) e ∙ x.told ∙ sym (ap (λ (m : Comes). m.told) f);
  end = ap (λ (m : Comes). m.end) e ∙ x.end ∙ sym (ap (λ (m : Comes). m.end) f);
  long = ap (λ (m : Comes). length m.rest) e ∙ x.long ∙ sym (ap (λ (m : Comes). length m.rest) f);
}

telling_alike : (is : List Instruction) (a b : Comes) → Alike a b → Alike (telling is a) (telling is b)
telling_alike is a b x = record { state = x.state; told = ap (λ (l : List Instruction). is ++ l) x.told; end = x.end; long = x.long }

module _ (st : State) (s t : List ℕ) (long : length t ≡ length s) (n : ℕ) (later : (r : State) → Alike (settled reads r (drop n t)) (settled reads r (drop n s))) where
  alike_by : (x : Move) → Moves n x → reads st t ≡ x → reads st s ≡ x → Alike (settled reads st t) (settled reads st s)
  alike_by x (stops r) e f =
      same_alike _ _ _ _ (settled_halt reads (machine journal_kinds).there st t r e) (settled_halt reads (machine journal_kinds).there st s r f)
      (record { state = refl; told = refl; end = refl; long = long })
  alike_by x (goes r) e f = same_alike _ _ _ _ (settled_go reads (machine journal_kinds).there st t r n e) (settled_go reads (machine journal_kinds).there st s r n f) (later r)
  alike_by x (tells r i) e f =
      same_alike _ _ _ _ (settled_tell reads (machine journal_kinds).there st t r n i e) (settled_tell reads (machine journal_kinds).there st s r n i f)
      (telling_alike (i ∷ []) (settled reads r (drop n t)) (settled reads r (drop n s)) (later r))

-- ---- all records

abbrev bytes : List ℕ → List ℕ
bytes s = bytes_of (settled (on_form Wide Wide) tt s).told

record Same (s : List ℕ) : Type 0 where
  long : length (bytes s) ≡ length s
  alike : (st : State) → Alike (settled reads st (bytes s)) (settled reads st s)

same_none : Same []
unfolding bytes_of
same_none =
    let e : bytes [] ≡ [] = ap (λ (m : Settled (Unit {0}) Framed Cause). bytes_of m.told) (settled_wait (on_form Wide Wide) (form_machine Wide Wide).there tt [] ((form_machine Wide Wide).idle tt)) in
    record { long = ap length e; alike = λ st. rw e (record { state = refl; told = refl; end = refl; long = refl }) }

module _ (s : List ℕ) (k n : ℕ) (i : frame_of journal_kinds s ≡ Whole k n) (h : body_held Wide Wide (runs_of k) (body_of n s) ≡ true) where
  abbrev later : List ℕ
  later = drop (suc n) s

  abbrev body : List ℕ
  body = body_of n s

  abbrev t : List ℕ
  t = bytes later

  abbrev made : List ℕ
  made = (k ∷ quiet (runs_of k) body) ++ t

  n_is : n ≡ body_len journal_kinds k
  n_is = (whole_at Wide s k n i).len

  -- the record with its NaNs quiet is read as it is
  made_read : (st : State) → reads st made ≡ on_whole st k body (suc n)
  made_read st =
      let m = body_len journal_kinds k in
      next_frame journal_kinds st made (Whole k m) (made_frame Wide Wide s k n i h t)
      ∙ ap (λ (b : List ℕ). on_whole st k b (suc m)) (made_body Wide Wide s k n i h t)
      ∙ read_as k st body (suc m) (inside Wide Wide s k n i)
      ∙ ap (λ (j : ℕ). on_whole st k body (suc j)) (sym n_is)

  same_one : bytes s ≡ made → Same later → Same s
  same_one e x =
      let after : drop (suc n) made ≡ t = ap (λ (j : ℕ). drop (suc j) made) n_is ∙ made_after Wide Wide s k n i h t in
      let w = whole_at Wide s k n i in
      let long : length made ≡ length s = omega (arith, length-append (quiet (runs_of k) body) t, made_long Wide Wide s k n i, n_is, x.long, length-drop (suc n) s, w.there) in
      record {
        long = ap length e ∙ long;
        alike = λ st.
            rw e
            (alike_by st s made long (suc n) (λ r. rw after (x.alike r)) (on_whole st k body (suc n)) (moves st k body (suc n)) (made_read st) (next_frame journal_kinds st s (Whole k n) i));
      }

same_next : (s : List ℕ) (k n : ℕ) → frame_of journal_kinds s ≡ Whole k n → body_held Wide Wide (runs_of k) (body_of n s) ≡ true → Same (drop (suc n) s) → Same s
unfolding bytes_of
same_next s k n i h = same_one s k n i h (ap (λ (m : Settled (Unit {0}) Framed Cause). bytes_of m.told) (turned_as Wide Wide s k n i h))

all_same : (s : List ℕ) → Done Wide Wide s → Same s
all_same = by_records Wide Wide Same same_none same_next

-- ---- the meaning

ending_alike : (p : ℕ) (u v : List ℕ) (x : End Refusal) → length u ≡ length v → ending_of p u x ≡ ending_of p v x
ending_alike p [] [] x e = refl
ending_alike p [] (j ∷ v) x e = absurd (omega (arith, e))
ending_alike p (i ∷ u) [] x e = absurd (omega (arith, e))
ending_alike p (i ∷ u) (j ∷ v) awaits e = refl
ending_alike p (i ∷ u) (j ∷ v) (halted r) e = refl

quiet_meaning : (s : List ℕ) → Same s → journal_of journal_kinds (bytes s) ≡ journal_of journal_kinds s
unfolding journal_of
quiet_meaning s x =
    let a = settled reads start_state (bytes s) in
    let b = settled reads start_state s in
    let y = x.alike start_state in
    let p : length (bytes s) - length a.rest ≡ length s - length b.rest = omega (arith, x.long, y.long) in
    rw (y.state, y.told, y.end, p) (ap (λ (z : _). record { events = events_from start_run b.told; ending = z; left = record { state = b.state; run = run_after_all start_run b.told } }) (ending_alike (length s - length b.rest) a.rest b.rest b.end y.long))

-- ---- the claim

module _ (s : List ℕ) (e : (conversion_of Wide Narrow s).ending ≡ C.ended) where
  back : Back Wide s
  back = there_and_back Wide s e

  -- back again, s is as it was with each NaN quiet
  back_is : back_again s ≡ bytes s
  unfolding conversion_of
  back_is = ap (λ (x : Conversion). bytes_of x.records) back.back

  meaning : journal_of journal_kinds (back_again s) ≡ journal_of journal_kinds s
  meaning = ap (journal_of journal_kinds) back_is ∙ quiet_meaning s (all_same s (done_is Wide Wide s back.ends))

  printed : (p : Printer) → text_of p (back_again s) ≡ text_of p s
  unfolding text_of kinds_taken
  printed p = ap (λ (m : Meaning). text_from p m.events m.left.run m.ending) meaning

  beside : (p : Printer) → beside_of p (back_again s) ≡ beside_of p s
  unfolding beside_of kinds_taken
  beside p = ap (λ (m : Meaning). beside_from p m.events m.left.run m.ending) meaning

pub verdicts_kept : VerdictsKept
verdicts_kept s e = record {
  widened = ap (λ (x : Conversion). x.ending) (back s e).back ∙ (back s e).ends;
  meaning = meaning s e;
  printed = printed s e;
  beside = beside s e;
}
