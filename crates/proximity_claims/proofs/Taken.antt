-- The widths that a journal tells are those that it takes: before the record of each is a journal
-- that ends with nothing refused, and the record is accepted.
use mathlib.Core.Path.{◌≡◌, refl, sym, ap, subst, ◌∙◌}
use mathlib.Core.Bool.{true}
use mathlib.Core.List.{List, [], ◌∷◌, ◌++◌, append_assoc}
use Prim.Native.Nat.{ℕ, zero, suc, ◌≤◌}
use native.Mathlib.Omega.{arith}
use lib.Ieee.{Float}
use lib.ListN.{length, take, drop, length-take, take-append-drop, drop_of_length-le}
use Rattle.journal_frames.specs.Frames.{body_len}
use Rattle.journal_records.specs.Little.{float_at}
use Rattle.journal_records.specs.declared.Record.{Record}
use Rattle.journal_records.specs.Kinds.{width_kind}
use Rattle.journal_records.specs.Body.{decode_of}
use Rattle.journal_records.proofs.Decoded.{decoded}
use Rattle.journal_refusals.specs.declared.Refusal.{Refusal}
use Rattle.journal_refusals.specs.Table.{Accepted, Judged, judged_of}
use Rattle.stream.specs.Stream.{wait, halt, go, tell, awaits, Settled, telling, after, settle, settled, takes, size}
use Rattle.stream.proofs.Stream.{impossible, joined, settled_wait, settled_go, settled_tell}
use Rattle.journal_reader.specs.State.{State, seen_in}
use Rattle.journal_reader.specs.Reading.{Instruction, width, on_record, on_bytes}
use Rattle.journal_reader.proofs.Reading.{Move, machine, Does, takes_it, halts, waits, judged_does}
use Rattle.journal.specs.Journal.{start_state, Meaning}
use Rattle.journal.specs.Widths.{WidthTaken, measured}
use Rattle.journal.proofs.Parts.{meaning_is}
use Rattle.journal.proofs.WithoutWidth.{width_told}
use Rattle.journal_claims.specs.Instructions.{told_in}
use Rattle.printer.specs.Printer.{proximity, kinds_taken}
use Rattle.proximity_claims.specs.EveryLine.{HasWidth}

abbrev kinds : List ℕ
kinds = kinds_taken proximity

-- ---- what is taken is told

pub record Tells (s : List ℕ) (x : Float) : Type 0 where
  pub before : List Instruction
  pub later : List Instruction
  pub is : told_in (kinds_taken proximity) s ≡ before ++ (width x ∷ later)

pub taken_told : (s : List ℕ) (x : Float) → HasWidth s x → Tells s x
unfolding told_in
taken_told s x h =
    let front = settled (on_bytes kinds) start_state h.front in
    record {
      before = front.told;
      later = (settled (on_bytes kinds) (measured front.state) h.back).told;
      is = rw (h.bytes, h.number) (width_told kinds h.front h.body h.back h.taken);
    }

-- ---- what is told is taken

-- the bytes `front` bring the reader to the state st, and leave nothing
record Read (front : List ℕ) (st : State) : Type 0 where
  told : List Instruction
  is : settled (on_bytes kinds) start_state front ≡ record { state = st; rest = []; told = told; end = awaits }

nothing_left : (st : State) → settled (on_bytes kinds) st [] ≡ record { state = st; rest = []; told = []; end = awaits }
nothing_left st = settled_wait (on_bytes kinds) (machine kinds).there st [] ((machine kinds).idle st)

read_none : Read [] start_state
read_none = record { told = []; is = nothing_left start_state }

-- one record more
module _ (st : State) (s : List ℕ) (st' : State) (n : ℕ) where
  all_taken : drop n (take n s) ≡ []
  all_taken = drop_of_length-le (take n s) {i = n} (omega (arith, length-take n s))

  alone : takes (on_bytes kinds st s) ≡ true → size (on_bytes kinds st s) ≡ n → on_bytes kinds st (take n s) ≡ on_bytes kinds st s
  alone y e = rw e at ((machine kinds).enough st s y)

  one_go : on_bytes kinds st s ≡ go st' n → settled (on_bytes kinds) st (take n s) ≡ record { state = st'; rest = []; told = []; end = awaits }
  one_go e =
      settled_go (on_bytes kinds) (machine kinds).there st (take n s) st' n (alone (ap takes e) (ap size e) ∙ e)
      ∙ ap (settled (on_bytes kinds) st') all_taken
      ∙ nothing_left st'

  one_tell : (i : Instruction) → on_bytes kinds st s ≡ tell st' n i
      → settled (on_bytes kinds) st (take n s) ≡ record { state = st'; rest = []; told = i ∷ []; end = awaits }
  one_tell i e =
      settled_tell (on_bytes kinds) (machine kinds).there st (take n s) st' n i (alone (ap takes e) (ap size e) ∙ e)
      ∙ ap (λ (u : List ℕ). telling (i ∷ []) (settled (on_bytes kinds) st' u)) all_taken
      ∙ ap (telling (i ∷ [])) (nothing_left st')

  read_on : (front : List ℕ) → Read front st → (is : List Instruction)
      → settled (on_bytes kinds) st (take n s) ≡ record { state = st'; rest = []; told = is; end = awaits } → Read (front ++ take n s) st'
  read_on front r is e = record {
    told = r.told ++ is;
    is =
        joined (on_bytes kinds) (machine kinds) start_state front (take n s)
        ∙ ap (λ (a : Settled State Instruction Refusal). telling a.told (settled (on_bytes kinds) a.state (a.rest ++ take n s))) r.is
        ∙ ap (telling r.told) e;
  }

  read_whole : (front : List ℕ) → (front ++ take n s) ++ drop n s ≡ front ++ s
  read_whole front = append_assoc front (take n s) (drop n s) ∙ ap (λ (u : List ℕ). front ++ u) (take-append-drop n s)

-- a record that tells a width is one
module _ (st : State) (k : ℕ) (u : List ℕ) (st' : State) (n : ℕ) (x : Float) where
  abbrev body : List ℕ
  body = take (body_len kinds k) u

  record IsWidth : Type 0 where
    kind : k ≡ width_kind
    number : x ≡ float_at body 0
    sized : n ≡ suc (body_len kinds k)

  record_width : on_record st body (suc (body_len kinds k)) (decode_of k body) ≡ tell st' n (width x) → IsWidth
  unfolding on_record
  record_width =
      decoded k body (λ (r : Record). on_record st body (suc (body_len kinds k)) r ≡ tell st' n (width x) → IsWidth)
      (record {
        settings = λ p e. impossible cc;
        reset = λ p e. impossible cc;
        ack = λ p e. impossible cc;
        head = λ p e. impossible cc;
        value = λ p e. impossible cc;
        outcome = λ p e. impossible cc;
        width = λ p e. record { kind = p; number = cc; sized = cc };
        tick = λ e. impossible cc;
      })

  width_by : {j : Judged} → Does kinds st k u j → on_bytes kinds st (k ∷ u) ≡ tell st' n (width x) → IsWidth × (j ≡ Accepted)
  width_by (takes_it e) h = (record_width (sym e ∙ h), refl)
  width_by (halts r e) h = impossible cc
  width_by (waits e) h = impossible cc

-- which is taken after `front`
module _ (front : List ℕ) (st : State) (r : Read front st) (u : List ℕ) where
  abbrev read_body : List ℕ
  read_body = take (body_len kinds width_kind) u

  taken_here : body_len kinds width_kind ≤ length u → judged_of kinds (seen_in st) width_kind read_body ≡ Accepted → WidthTaken kinds front read_body
  taken_here l a = record {
    before = ap (λ (m : Meaning). m.ending) (meaning_is kinds front _ r.is);
    whole = omega (arith, length-take (body_len kinds width_kind) u);
    accepted = ap (λ (m : Meaning). judged_of kinds (seen_in m.left.state) width_kind read_body) (meaning_is kinds front _ r.is) ∙ a;
  }

  has_here : (x : Float) → body_len kinds width_kind ≤ length u → judged_of kinds (seen_in st) width_kind read_body ≡ Accepted → x ≡ float_at read_body 0
      → HasWidth (front ++ (width_kind ∷ u)) x
  has_here x l a e = record {
    front = front;
    body = read_body;
    back = drop (body_len kinds width_kind) u;
    bytes = ap (λ (v : List ℕ). front ++ (width_kind ∷ v)) (sym (take-append-drop (body_len kinds width_kind) u));
    taken = taken_here l a;
    number = e;
  }

has_width : (front : List ℕ) (st : State) → Read front st → (s : List ℕ) (st' : State) (n : ℕ) (x : Float) → on_bytes kinds st s ≡ tell st' n (width x) → HasWidth (front ++ s) x
has_width front st r [] st' n x e = let z = (machine kinds).idle st in impossible cc
has_width front st r (k ∷ u) st' n x e =
    let b = width_by st k u st' n x (judged_does kinds st k u) e in
    let w = b.0 in
    let there = ((machine kinds).there st (k ∷ u) (ap takes e)).1 in
    let l : body_len kinds k ≤ length u = omega (arith, there, ap size e, w.sized) in
    rw w.kind (has_here front st r u x (rw w.kind at l) (rw w.kind at b.1) (rw w.kind at w.number))

-- ---- all records

-- a width that is told from here on
abbrev Found : ℕ → State → List ℕ → Type 0
Found f st s = (front : List ℕ) → Read front st → (before : List Instruction) (x : Float) (later : List Instruction)
    → (settle (on_bytes kinds) f st s).told ≡ before ++ (width x ∷ later) → HasWidth (front ++ s) x

none_told : (before : List Instruction) (x : Float) (later : List Instruction) → [] ≡ before ++ (width x ∷ later) → ⊥
none_told [] x later e = impossible cc
none_told (i ∷ before) x later e = impossible cc

module _ (f : ℕ) (ih : (st : State) (s : List ℕ) → Found f st s) (st : State) (s front : List ℕ) (r : Read front st) (x : Float) (later : List Instruction) where
  found_on : (st' : State) (n : ℕ) (is : List Instruction) → settled (on_bytes kinds) st (take n s) ≡ record { state = st'; rest = []; told = is; end = awaits }
      → (before : List Instruction) → (settle (on_bytes kinds) f st' (drop n s)).told ≡ before ++ (width x ∷ later) → HasWidth (front ++ s) x
  found_on st' n is e before q =
      subst (λ (u : List ℕ). HasWidth u x) (read_whole st s st' n front) (ih st' (drop n s) (front ++ take n s) (read_on st s st' n front r is e) before x later q)

  found_by : (y : Move) → on_bytes kinds st s ≡ y → (before : List Instruction)
      → (after st s y (λ (st' : State) (n : ℕ). settle (on_bytes kinds) f st' (drop n s))).told ≡ before ++ (width x ∷ later) → HasWidth (front ++ s) x
  found_by wait e before q = absurd (none_told before x later q)
  found_by (halt h) e before q = absurd (none_told before x later q)
  found_by (go st' n) e before q = found_on st' n [] (one_go st s st' n e) before q
  found_by (tell st' n i) e [] q = let z : i ≡ width x = cc in has_width front st r s st' n x (e ∙ ap (tell st' n) z)
  found_by (tell st' n i) e (j ∷ before) q = found_on st' n (i ∷ []) (one_tell st s st' n i e) before cc

found : (f : ℕ) (st : State) (s : List ℕ) → Found f st s
unfolding settle
found zero st s front r before x later q = absurd (none_told before x later q)
found (suc f) st s front r before x later q = found_by f (λ st' u. found f st' u) st s front r x later (on_bytes kinds st s) refl before q

pub told_taken : (s : List ℕ) (before : List Instruction) (x : Float) (later : List Instruction) → told_in (kinds_taken proximity) s ≡ before ++ (width x ∷ later) → HasWidth s x
unfolding told_in settled
told_taken s before x later q = found (suc (length s)) start_state s [] read_none before x later q
