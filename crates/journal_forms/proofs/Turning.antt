-- Records put into memory one after the other: what is made of the bytes at hand, step by step.
use Prim.Native.Nat.{ℕ, zero, suc, ◌+◌, ◌-◌, ◌≤◌, ◌<◌}
use mathlib.Core.Path.{◌≡◌, refl, sym, ap, ap₂, ◌∙◌}
use mathlib.Core.Bool.{Bool, true, false, cond}
use mathlib.Core.List.{List, [], ◌∷◌, ◌++◌, append-nil, append_assoc}
use native.Mathlib.Omega.{arith}
use lib.ListN.{length, take, drop, length-append, length-drop}
use lib.Seq.{drop-drop, take_at, take-length}
use borrow.Author.Tests.{leb-true, leb-false, le-leb, lt-leb}
use Rattle.text.specs.Memory.{Put, has_room}
use Rattle.text.proofs.Puts.{put_none, put_on}
use Rattle.std.proofs.Common.{Option, Some, None}
use Rattle.stream.specs.Stream.{Next, wait, halt, go, tell, takes, size, End, awaits, halted, Settled, telling, settled}
use Rattle.stream.proofs.Stream.{impossible, tells_on, settled_wait, settled_halt, settled_tell, telling_telling}
use Rattle.journal_frames.specs.Frames.{Framed, bytes_of}
use Rattle.journal_forms.specs.declared.Form.{Form}
use Rattle.journal_forms.specs.declared.Cause.{Cause}
use Rattle.journal_forms.specs.declared.Converted.{Converted}
use Rattle.journal_forms.specs.Forms.{other, record_most}
use Rattle.journal_forms.specs.Conversion.{on_form}
use Rattle.journal_forms.specs.Turns.{Stop, refuses, full, record_of, counted, into_room, part_of, is_full, refused_by, number_if, answer_of, PartConverted, step_of, memory_of, Stepped, goes_on_of, Rests}
use Rattle.journal_forms.proofs.Records.{form_machine, Turn, waits, not_known, is_turned, not_held, turn}

-- the bytes of records, and of more after them
pub bytes_append : (fs gs : List Framed) → bytes_of (fs ++ gs) ≡ bytes_of fs ++ bytes_of gs
unfolding bytes_of
bytes_append [] gs = refl
bytes_append (f ∷ fs) gs = ap (λ (l : List ℕ). record_of f ++ l) (bytes_append fs gs) ∙ sym (append_assoc (record_of f) (bytes_of fs) (bytes_of gs))

module _ (a : Form) (room : ℕ) where
  abbrev into : ℕ → List ℕ → Next ℕ Framed Stop
  into = into_room a room

  -- with no room, and with room
  into_full : (n : ℕ) (s : List ℕ) → room < n + record_most → into n s ≡ halt full
  unfolding into_room
  into_full n s h = rw (lt-leb (n + record_most) room h) refl

  into_room_lem : (n : ℕ) (s : List ℕ) → n + record_most ≤ room → (x : Next (Unit {0}) Framed Cause) → on_form a (other a) tt s ≡ x → into n s ≡ counted n x
  unfolding into_room
  into_room_lem n s h x e = rw (le-leb (n + record_most) room h) (ap (counted n) e)

  counted_takes : (n : ℕ) (x : Next (Unit {0}) Framed Cause) → takes (counted n x) ≡ takes x
  unfolding counted
  counted_takes n wait = refl
  counted_takes n (halt c) = refl
  counted_takes n (go r k) = refl
  counted_takes n (tell r k f) = refl

  counted_size : (n : ℕ) (x : Next (Unit {0}) Framed Cause) → size (counted n x) ≡ size x
  unfolding counted
  counted_size n wait = refl
  counted_size n (halt c) = refl
  counted_size n (go r k) = refl
  counted_size n (tell r k f) = refl

  there_by : (n : ℕ) (s : List ℕ) (t : Bool) → has_room record_most n room ≡ t → takes (into n s) ≡ true → (0 < size (into n s)) × (size (into n s) ≤ length s)
  there_by n s true h y =
      let x = on_form a (other a) tt s in
      let e : into n s ≡ counted n x = into_room_lem n s (leb-true (n + record_most) room h) x refl in
      let b = (form_machine a (other a)).there tt s (sym (counted_takes n x) ∙ ap takes (sym e) ∙ y) in
      let k : size (into n s) ≡ size x = ap size e ∙ counted_size n x in
      (omega (arith, b.0, k), omega (arith, b.1, k))
  there_by n s false h y =
      let z : false ≡ true = ap takes (sym (into_full n s (leb-false (n + record_most) room h))) ∙ y in
      impossible cc

  into_there : (n : ℕ) (s : List ℕ) → takes (into n s) ≡ true → (0 < size (into n s)) × (size (into n s) ≤ length s)
  into_there n s y = there_by n s (has_room record_most n room) refl y

  -- no record is taken, and why
  pub record Stopped (n : ℕ) (s : List ℕ) (more : Bool) (refused : Option Cause) : Type 0 where
    pub end : End Stop
    pub stays : settled into n s ≡ record { state = n; rest = s; told = []; end = end }
    pub more_is : more ≡ is_full end
    pub refused_is : refused ≡ refused_by end

  stops_full : (n : ℕ) (s : List ℕ) → room < n + record_most → Stopped n s true None
  stops_full n s h = record { end = halted full; stays = settled_halt into into_there n s full (into_full n s h); more_is = refl; refused_is = refl }

  stops_waiting : (n : ℕ) (s : List ℕ) → n + record_most ≤ room → on_form a (other a) tt s ≡ wait → Stopped n s false None
  unfolding counted
  stops_waiting n s h e = record { end = awaits; stays = settled_wait into into_there n s (into_room_lem n s h wait e); more_is = refl; refused_is = refl }

  stops_refused : (n : ℕ) (s : List ℕ) → n + record_most ≤ room → (c : Cause) → on_form a (other a) tt s ≡ halt c → Stopped n s false (Some c)
  unfolding counted
  stops_refused n s h c e = record { end = halted (refuses c); stays = settled_halt into into_there n s (refuses c) (into_room_lem n s h (halt c) e); more_is = refl; refused_is = refl }

  -- one record more
  goes_one : (n : ℕ) (s : List ℕ) → n + record_most ≤ room → (k : ℕ) (f : Framed) → on_form a (other a) tt s ≡ tell tt k f
      → settled into n s ≡ telling (f ∷ []) (settled into (n + length (record_of f)) (drop k s))
  unfolding counted
  goes_one n s h k f e = settled_tell into into_there n s (n + length (record_of f)) k f (into_room_lem n s h (tell tt k f) e)

-- ---- from the first byte

-- the answer r, where the records `told` were put so far: where there is more to do, there is room;
-- where it is over, no more records are taken
pub record Since (a : Form) (s out₀ : List ℕ) (r : Converted) (out : List ℕ) (more : Bool) : Type 0 where
  pub told : List Framed
  pub within : r.at ≤ length s
  pub goes : settled (into_room a (length out₀)) 0 s ≡ telling told (settled (into_room a (length out₀)) r.n (drop r.at s))
  pub text : Put out₀ 0 (bytes_of told) r.n out
  pub long : length out ≡ length out₀
  pub room : more ≡ true → r.n + record_most ≤ length out₀
  pub over : more ≡ false → Stopped a (length out₀) r.n (drop r.at s) r.more r.refused

room_left : (more : Bool) (n room : ℕ) (m : Bool) → m ≡ goes_on_of more n room → m ≡ true → n + record_most ≤ room
unfolding goes_on_of
room_left more n room m e y = by (has_room record_most n room) refl
  where
    by : (t : Bool) → has_room record_most n room ≡ t → n + record_most ≤ room
    by true h = leb-true (n + record_most) room h
    by false h = let z : false ≡ true = sym (rw h at (sym y ∙ e)) in impossible cc

-- where there may be more, and it is over, the room is full
over_full : (a : Form) (s : List ℕ) (n room : ℕ) (m : Bool) → m ≡ goes_on_of true n room → m ≡ false → Stopped a room n s true None
unfolding goes_on_of
over_full a s n room m e y = by (has_room record_most n room) refl
  where
    by : (t : Bool) → has_room record_most n room ≡ t → Stopped a room n s true None
    by true h = let z : true ≡ false = sym (rw h at (sym y ∙ e)) in impossible cc
    by false h = stops_full a room n s (leb-false (n + record_most) room h)

goes_off : (n room : ℕ) → goes_on_of false n room ≡ false
unfolding goes_on_of
goes_off n room = by (has_room record_most n room)
  where
    by : (t : Bool) → cond t false false ≡ false
    by true = refl
    by false = refl

one_or_none : (t : Bool) → cond t 1 0 ≤ 1
one_or_none true = omega arith
one_or_none false = omega arith

abbrev first : Converted
first = record { at = 0; n = 0; more = true; refused = None }

pub since_first : (a : Form) (s out : List ℕ) (more : Bool) → more ≡ goes_on_of true 0 (length out) → Since a s out first out more
unfolding bytes_of
since_first a s out more e = record {
  told = [];
  within = omega arith;
  goes = refl;
  text = put_none out 0;
  long = refl;
  room = room_left true 0 (length out) more e;
  over = over_full a s 0 (length out) more e;
}

-- nothing was put
since_over : (a : Form) (s out₀ : List ℕ) (q : Converted) (out : List ℕ) → Since a s out₀ q out true → (why : Option Cause) → Stopped a (length out₀) q.n (drop q.at s) false why
    → (r : Converted) → r ≡ record { at = q.at; n = q.n; more = false; refused = why } → (more : Bool) → Since a s out₀ r out more
since_over a s out₀ q out i why o r e more = rw e (record {
  told = i.told;
  within = i.within;
  goes = i.goes;
  text = i.text;
  long = i.long;
  room = λ z. i.room refl;
  over = λ z. o;
})

module _ (a : Form) (s out₀ : List ℕ) (q : Converted) (out : List ℕ) (i : Since a s out₀ q out true) (r : Converted) (out' : List ℕ) (k : length out' ≡ length out) where
  abbrev rest : List ℕ
  rest = drop q.at s

  enough : q.n + record_most ≤ length out₀
  enough = i.room refl

  room_now : length out' ≡ length out₀
  room_now = k ∙ i.long

  since_one : (n : ℕ) (f : Framed) → on_form a (other a) tt rest ≡ tell tt n f → r ≡ step_of q (tell tt n f) → out' ≡ memory_of out q.n (tell tt n f)
      → (more : Bool) → more ≡ goes_on_of r.more r.n (length out') → Since a s out₀ r out' more
  unfolding step_of memory_of bytes_of
  since_one n f e x y more z =
      let b = tells_on (on_form a (other a)) (form_machine a (other a)).there tt rest tt n f e in
      let p : Put out q.n (record_of f) (q.n + length (record_of f)) out' = record { ends = refl; memory = y } in
      let t : bytes_of i.told ++ record_of f ≡ bytes_of (i.told ++ (f ∷ [])) = ap (λ (l : List ℕ). bytes_of i.told ++ l) (sym (append-nil (record_of f))) ∙ sym (bytes_append i.told (f ∷ [])) in
      let m : more ≡ goes_on_of true (q.n + length (record_of f)) (length out₀) = rw (x, room_now) at z in
      rw x
      (record {
        told = i.told ++ (f ∷ []);
        within = omega (arith, i.within, b.1, length-drop q.at s);
        goes =
            i.goes
            ∙ ap (telling i.told) (goes_one a (length out₀) q.n rest enough n f e)
            ∙ telling_telling i.told (f ∷ []) (settled (into_room a (length out₀)) (q.n + length (record_of f)) (drop n rest))
            ∙ ap (λ (u : List ℕ). telling (i.told ++ (f ∷ [])) (settled (into_room a (length out₀)) (q.n + length (record_of f)) u)) (drop-drop n q.at s);
        text = rw t at (put_on out₀ 0 (bytes_of i.told) q.n out (record_of f) (q.n + length (record_of f)) out' (omega arith) i.text p);
        long = room_now;
        room = room_left true (q.n + length (record_of f)) (length out₀) more m;
        over = over_full a (drop (q.at + n) s) (q.n + length (record_of f)) (length out₀) more m;
      })

  since_none : (why : Option Cause) → Stopped a (length out₀) q.n rest false why → r ≡ record { at = q.at; n = q.n; more = false; refused = why } → out' ≡ out
      → (more : Bool) → more ≡ goes_on_of r.more r.n (length out') → Since a s out₀ r out' more
  since_none why o x y more z =
      rw y (since_over a s out₀ q out i why o r x more)

  since_by : Turn a (other a) rest → (x : Next (Unit {0}) Framed Cause) → on_form a (other a) tt rest ≡ x → Stepped q x out r out'
      → (more : Bool) → more ≡ goes_on_of r.more r.n (length out') → Since a s out₀ r out' more
  unfolding step_of memory_of
  since_by (waits f e) x y p = let z : x ≡ wait = sym y ∙ e in since_none None (stops_waiting a (length out₀) q.n rest enough e) (rw z at p.answer) (rw z at p.memory)
  since_by (not_known f e) x y p = let z = sym y ∙ e in since_none _ (stops_refused a (length out₀) q.n rest enough _ e) (rw z at p.answer) (rw z at p.memory)
  since_by (not_held j n f h e) x y p = let z = sym y ∙ e in since_none _ (stops_refused a (length out₀) q.n rest enough _ e) (rw z at p.answer) (rw z at p.memory)
  since_by (is_turned j n f h e) x y p = let z = sym y ∙ e in since_one (suc n) _ e (rw z at p.answer) (rw z at p.memory)

  pub since_more : Stepped q (on_form a (other a) tt rest) out r out' → (more : Bool) → more ≡ goes_on_of r.more r.n (length out') → Since a s out₀ r out' more
  since_more p = since_by (turn a (other a) rest) (on_form a (other a) tt rest) refl p

  -- each step goes further, or is the last
  less_none : (why : Option Cause) → r ≡ record { at = q.at; n = q.n; more = false; refused = why } → (more : Bool) → more ≡ goes_on_of r.more r.n (length out')
      → length s - r.at + cond more 1 0 < length s - q.at + 1
  less_none why x more y = let z : more ≡ false = rw x at y ∙ goes_off q.n (length out') in rw (x, z) (omega arith)

  less_one : (n : ℕ) (f : Framed) → on_form a (other a) tt rest ≡ tell tt n f → r ≡ step_of q (tell tt n f) → (more : Bool) → length s - r.at + cond more 1 0 < length s - q.at + 1
  unfolding step_of
  less_one n f e x more =
      let b = tells_on (on_form a (other a)) (form_machine a (other a)).there tt rest tt n f e in
      rw x (omega (arith, b.0, b.1, length-drop q.at s, one_or_none more))

  less_by : Turn a (other a) rest → (x : Next (Unit {0}) Framed Cause) → on_form a (other a) tt rest ≡ x → r ≡ step_of q x → (more : Bool) → more ≡ goes_on_of r.more r.n (length out')
      → length s - r.at + cond more 1 0 < length s - q.at + 1
  unfolding step_of
  less_by (waits f e) x y p more w = let z = sym y ∙ e in less_none None (rw z at p) more w
  less_by (not_known f e) x y p more w = let z = sym y ∙ e in less_none _ (rw z at p) more w
  less_by (not_held j n f h e) x y p more w = let z = sym y ∙ e in less_none _ (rw z at p) more w
  less_by (is_turned j n f h e) x y p more w = let z = sym y ∙ e in less_one (suc n) _ e (rw z at p) more

  pub since_less : Stepped q (on_form a (other a) tt rest) out r out' → (more : Bool) → more ≡ goes_on_of r.more r.n (length out') → length s - r.at + cond more 1 0 < length s - q.at + 1
  since_less p = less_by (turn a (other a) rest) (on_form a (other a) tt rest) refl p.answer

-- where it is over, that is what is made of the bytes
pub converted_is : (a : Form) (s out : List ℕ) (r : Converted) (out' : List ℕ) (more : Bool) → more ≡ false → Since a s out r out' more → PartConverted a s out r out'
unfolding part_of answer_of
converted_is a s out r out' more y i =
    let o = i.over y in
    let m : Settled ℕ Framed Stop = record { state = r.n; rest = drop r.at s; told = i.told; end = o.end } in
    let e : part_of a s (length out) ≡ m
    = i.goes ∙ ap (telling i.told) o.stays ∙ ap (λ (x : List Framed). record { state = r.n; rest = drop r.at s; told = x; end = o.end }) (append-nil i.told) in
    let k : length s - length (drop r.at s) ≡ r.at = omega (arith, length-drop r.at s, i.within) in
    let t = bytes_of i.told in
    let z : 0 + length t ≡ length t = omega arith in
    record {
      answer = rw (e, k, sym o.more_is, sym o.refused_is) refl;
      memory = rw e (i.text.memory ∙ ap₂ (λ (x : List ℕ) (j : ℕ). x ++ drop j out) (take-length t) z);
    }

-- ---- what was made, in terms of the conversion

module _ (a : Form) (room : ℕ) where
  abbrev form : Unit {0} → List ℕ → Next (Unit {0}) Framed Cause
  form = on_form a (other a)

  -- some bytes are taken, unless there was no room from the start
  record Follows (n : ℕ) (s : List ℕ) (m : Settled ℕ Framed Stop) : Type 0 where
    place : ℕ
    within : place ≤ length s
    rest_is : m.rest ≡ drop place s
    same : settled form tt s ≡ telling m.told (settled form tt m.rest)
    count : m.state ≡ n + length (bytes_of m.told)
    rests : is_full m.end ≡ false → Rests a m.rest (number_if (refused_by m.end))
    further : n + record_most ≤ room → is_full m.end ≡ true → 0 < place

  follows_none : (n : ℕ) (s : List ℕ) (x : End Stop) → (is_full x ≡ false → Rests a s (number_if (refused_by x))) → (n + record_most ≤ room → is_full x ≡ true → ⊥) → Follows n s (record { state = n; rest = s; told = []; end = x })
  unfolding bytes_of
  follows_none n s x q h = record {
    place = 0;
    within = omega arith;
    rest_is = refl;
    same = refl;
    count = (let z : n ≡ n + 0 = omega arith in z);
    rests = q;
    further = λ k y. absurd (h k y);
  }

  follows_tell : (n : ℕ) (s : List ℕ) (k : ℕ) (f : Framed) (m : Settled ℕ Framed Stop) → 0 < k → k ≤ length s → settled form tt s ≡ telling (f ∷ []) (settled form tt (drop k s))
      → Follows (n + length (record_of f)) (drop k s) m → Follows n s (telling (f ∷ []) m)
  unfolding bytes_of
  follows_tell n s k f m b c g i = record {
    place = k + i.place;
    within = omega (arith, i.within, length-drop k s);
    rest_is = i.rest_is ∙ drop-drop i.place k s;
    same = g ∙ ap (telling (f ∷ [])) i.same ∙ telling_telling (f ∷ []) m.told (settled form tt m.rest);
    count = omega (arith, i.count, length-append (record_of f) (bytes_of m.told));
    rests = i.rests;
    further = λ h y. omega arith;
  }

  follows_by : (f : ℕ) → ((n : ℕ) (s : List ℕ) → length s < f → Follows n s (settled (into_room a room) n s)) → (n : ℕ) (s : List ℕ) → length s ≤ f
      → (t : Bool) → has_room record_most n room ≡ t → Turn a (other a) s → Follows n s (settled (into_room a room) n s)
  unfolding counted
  follows_by f ih n s l false h x =
      let o = leb-false (n + record_most) room h in
      rw (settled_halt (into_room a room) (into_there a room) n s full (into_full a room n s o)) (follows_none n s (halted full) (λ y. impossible cc) (λ k y. omega arith))
  follows_by f ih n s l true h (waits i e) =
      rw (settled_wait (into_room a room) (into_there a room) n s (into_room_lem a room n s (leb-true (n + record_most) room h) wait e))
      (follows_none n s awaits (λ y. record { end = awaits; number_is = refl; rests = settled_wait form (form_machine a (other a)).there tt s e }) (λ k y. impossible cc))
  follows_by f ih n s l true h (not_known i e) =
      rw (settled_halt (into_room a room) (into_there a room) n s (refuses _) (into_room_lem a room n s (leb-true (n + record_most) room h) (halt _) e))
      (follows_none n s (halted (refuses _)) (λ y. record { end = halted _; number_is = refl; rests = settled_halt form (form_machine a (other a)).there tt s _ e }) (λ k y. impossible cc))
  follows_by f ih n s l true h (not_held j m i g e) =
      rw (settled_halt (into_room a room) (into_there a room) n s (refuses _) (into_room_lem a room n s (leb-true (n + record_most) room h) (halt _) e))
      (follows_none n s (halted (refuses _)) (λ y. record { end = halted _; number_is = refl; rests = settled_halt form (form_machine a (other a)).there tt s _ e }) (λ k y. impossible cc))
  follows_by f ih n s l true h (is_turned j m i g e) =
      let b = tells_on form (form_machine a (other a)).there tt s tt (suc m) _ e in
      rw (goes_one a room n s (leb-true (n + record_most) room h) (suc m) _ e)
      (follows_tell n s (suc m) _ _ b.0 b.1 (settled_tell form (form_machine a (other a)).there tt s tt (suc m) _ e) (ih _ (drop (suc m) s) (omega (arith, length-drop (suc m) s))))

  follows_at : (f : ℕ) (n : ℕ) (s : List ℕ) → length s < f → Follows n s (settled (into_room a room) n s)
  follows_at zero n s l = absurd (omega arith)
  follows_at (suc f) n s l = follows_by f (λ m u q. follows_at f m u q) n s (omega arith) (has_room record_most n room) refl (turn a (other a) s)

-- the records `told` are those of the first bytes of s, and their bytes are in memory; the other
-- bytes give what is left of the journal
pub record Followed (a : Form) (s out : List ℕ) (r : Converted) (out' : List ℕ) : Type 0 where
  pub told : List Framed
  pub within : r.at ≤ length s
  pub goes : settled (on_form a (other a)) tt s ≡ telling told (settled (on_form a (other a)) tt (drop r.at s))
  pub text : take r.n out' ≡ bytes_of told
  pub fits : r.n ≤ length out'
  pub further : record_most ≤ length out → r.more ≡ true → 0 < r.at
  pub stops : r.more ≡ false → Rests a (drop r.at s) (number_if r.refused)

pub followed : (a : Form) (s out : List ℕ) (r : Converted) (out' : List ℕ) → PartConverted a s out r out' → Followed a s out r out'
unfolding part_of answer_of
followed a s out r out' q =
    let m = part_of a s (length out) in
    let f : Follows a (length out) 0 s m = follows_at a (length out) (suc (length s)) 0 s (omega arith) in
    let t = bytes_of m.told in
    let k : length s - length m.rest ≡ f.place = omega (arith, ap length f.rest_is, length-drop f.place s, f.within) in
    let d : drop (length s - length m.rest) s ≡ m.rest = ap (λ (j : ℕ). drop j s) k ∙ sym f.rest_is in
    rw (q.answer, q.memory)
    (record {
      told = m.told;
      within = omega arith;
      goes = rw d f.same;
      text = take_at t (drop (length t) out) m.state (omega (arith, f.count));
      fits = omega (arith, f.count, length-append t (drop (length t) out));
      further = λ h y. omega (arith, k, f.further (omega (arith, h)) y);
      stops = λ y. rw d (f.rests y);
    })
