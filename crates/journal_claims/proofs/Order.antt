-- What a journal tells is nothing, or its settings, then one width or none, and then resets and ticks:
-- the judge refuses what comes before settings, settings again, and a width again or after a reset or
-- a tick.
use Rattle.std.proofs.Common.{Ok, Err}
use mathlib.Core.Path.{◌≡◌, refl, sym, ap, ◌∙◌}
use mathlib.Core.Bool.{Bool, true, false, cond, not, ◌&&◌, ◌||◌}
use mathlib.Core.List.{List, [], ◌∷◌}
use Prim.Native.Nat.{ℕ, zero, suc, ◌<◌}
use native.Mathlib.Omega.{arith}
use borrow.Author.Tests.{eq-eqb}
use lib.Dec.{eqb}
use lib.Ieee.{Float}
use lib.ListN.{take, drop}
use Rattle.lictor_core.specs.declared.envelope.Settings as S
use Rattle.lictor_core.specs.FirstThat.{first_that}
use Rattle.lictor_settings.specs.Settings.{bad_size, settings_table, check_of}
use Rattle.claims.specs.Runs.{All}
use Rattle.claims.specs.Demand3.{Sized}
use Rattle.journal_records.specs.Little.{byte_at}
use Rattle.journal_records.proofs.Laws.{le_at_under}
use Rattle.journal_frames.specs.declared.Frame.{Frame}
use Rattle.journal_frames.specs.declared.Frame.TheVariants as F
use Rattle.journal_frames.specs.Frames.{body_of, frame_of, on_frame}
use Rattle.journal_records.specs.declared.Record.TheVariants.{Settings}
use Rattle.journal_records.specs.Kinds.{settings_kind, width_kind}
use Rattle.journal_records.proofs.Decoded.{decoded}
use Rattle.journal_records.specs.Long.{limits_of, settings_of}
use Rattle.journal_records.specs.Body.{decode_of}
use Rattle.journal_refusals.specs.declared.Refusal.{Refusal}
use Rattle.journal_refusals.specs.declared.Refusal.TheVariants.{UnknownKind, BeforeSettings, Again, BadCode, BadSize, BadFloat, BoxCrossed}
use Rattle.journal_refusals.specs.declared.Seen.{Seen}
use Rattle.journal_refusals.specs.Causes.{before_settings, again, code_not_listed, size_outside, float_outside, box_crossed}
use Rattle.journal_refusals.specs.Table.{Accepted, Judged, order_rows, content_rows, whole_rows, whole_of}
use Rattle.journal_refusals.proofs.Exactly.{cause_of, no_cause}
use Rattle.stream.specs.Stream.{Next, wait, halt, go, tell, after, settle, settled}
use Rattle.journal_reader.specs.State.{State, seen_in, ack_waits, head_waits, value_waits, outcome_waits, settings_came, width_came, emptied, start_reader}
use Rattle.journal_reader.specs.Reading.{Instruction, begin, restart, tick, width, on_record, on_judged, on_whole, on_bytes}
use Rattle.journal_reader.proofs.Reading.{next_frame}
use Rattle.journal.specs.Journal.{start_state}
use Rattle.journal.specs.Widths.{for_fuse}
use Rattle.stream.proofs.Stream.{impossible}
use Rattle.journal_claims.specs.Instructions.{told_in}
use Rattle.journal_claims.specs.JournalStops.{Bytes, GoesOn, SettledBy}

-- ---- bytes

pub some_drop : (n : ℕ) (s : List ℕ) → Bytes s → Bytes (drop n s)
some_drop zero s h = h
some_drop (suc n) [] h = h
some_drop (suc n) (x ∷ s) h = some_drop n s h.1

pub some_take : (n : ℕ) (s : List ℕ) → Bytes s → Bytes (take n s)
some_take zero s h = tt
some_take (suc n) [] h = h
some_take (suc n) (x ∷ s) h = (h.0, some_take n s h.1)

pub byte_under : (s : List ℕ) (i : ℕ) → Bytes s → byte_at s i < 256
byte_under [] i h = omega arith
byte_under (x ∷ s) zero h = h.0
byte_under (x ∷ s) (suc i) h = byte_under s i h.1

-- so the limits of settings that were read have the sizes of their fields
read_sized : (b : List ℕ) → Bytes b → Sized (settings_of b)
unfolding settings_of limits_of
read_sized b h =
    let u : (i : ℕ) → byte_at b i < 256 = λ i. byte_under b i h in
    record {
      brake = omega (arith, le_at_under b 18 2 2 u (omega arith));
      hold = omega (arith, le_at_under b 22 2 2 u (omega arith));
      handoff = omega (arith, le_at_under b 24 4 4 u (omega arith));
      rearms = omega (arith, u 11);
    }

-- ---- one record

-- the settings came; a width came, or a reset or a tick
abbrev came : State → Bool
came st = st.reader.waiting.seen.settings

abbrev wide : State → Bool
wide st = st.reader.waiting.seen.width

abbrev past : State → Bool
past st = wide st || st.reader.waiting.seen.underway

-- what is known of settings that the bytes s held: they passed the check, and their limits have the
-- sizes of their fields
pub record Checked (s : List ℕ) (w : S.Settings) : Type 0 where
  pub check : check_of w ≡ Ok tt
  pub sizes : bad_size w ≡ false
  pub sized : Bytes s → Sized w

-- what an instruction says of these, before and after it
abbrev Told : State → List ℕ → State → Instruction → Type 0
Told st s st' (begin w) = (came st ≡ false) × ((came st' ≡ true) × ((past st' ≡ past st) × Checked s w))
Told st s st' restart = (came st ≡ true) × ((came st' ≡ true) × (past st' ≡ true))
Told st s st' (tick c) = (came st ≡ true) × ((came st' ≡ true) × (past st' ≡ true))
Told st s st' (width x) = (came st ≡ true) × ((came st' ≡ true) × ((past st ≡ false) × (past st' ≡ true)))

abbrev Moves : State → List ℕ → Next State Instruction Refusal → Type 0
Moves st s wait = Unit {0}
Moves st s (halt r) = Unit {0}
Moves st s (go st' n) = (came st' ≡ came st) × (past st' ≡ past st)
Moves st s (tell st' n i) = Told st s st' i

not_both : {x : Bool} → x ≡ true → x ≡ false → ⊥
not_both p q = impossible cc

or_right : (a : Bool) → (a || true) ≡ true
or_right true = refl
or_right false = refl

module _ (st : State) (s b : List ℕ) (n : ℕ) where
  settings_move : came st ≡ false → Checked s (settings_of b) → Moves st s (on_record st b n Settings)
  unfolding on_record settings_came
  settings_move e c = (e, (refl, (refl, c)))

  -- after the settings; of a width it is known that none came, and no reset or tick
  others_move : (k : ℕ) → eqb k settings_kind ≡ false → came st ≡ true → (k ≡ width_kind → past st ≡ false) → Moves st s (on_record st b n (decode_of k b))
  unfolding on_record width_came emptied ack_waits head_waits value_waits outcome_waits
  others_move k e c f =
      decoded k b (λ x. Moves st s (on_record st b n x))
      (record {
        settings = λ p. absurd (not_both (eq-eqb k settings_kind p) e);
        reset = λ p. (c, (c, or_right (wide st)));
        ack = λ p. (refl, refl);
        head = λ p. (refl, refl);
        value = λ p. (refl, refl);
        outcome = λ p. (refl, refl);
        width = λ p. (c, (c, (f p, refl)));
        tick = (c, (c, or_right (wide st)));
      })

-- what the rows about the order and the settings say of a record that is accepted
record Passed (seen : Seen) (k : ℕ) (b : List ℕ) : Type 0 where
  order : before_settings seen k b ≡ false
  twice : again seen k b ≡ false
  codes : code_not_listed seen k b ≡ false
  sizes : size_outside seen k b ≡ false
  floats : float_outside seen k b ≡ false
  box : box_crossed seen k b ≡ false

passed_by : (seen : Seen) (k : ℕ) (b : List ℕ) → whole_of seen k b ≡ Accepted → Passed seen k b
unfolding whole_of whole_rows order_rows content_rows cause_of
passed_by seen k b e =
    let none = no_cause seen k b whole_rows e in
    record {
      order = none BeforeSettings;
      twice = none Again;
      codes = none BadCode;
      sizes = none BadSize;
      floats = none BadFloat;
      box = none BoxCrossed;
    }

both_false : (x : Bool) → (not false && not x) ≡ false → x ≡ true
both_false true e = refl
both_false false e = impossible cc

module _ (st : State) (s : List ℕ) (k : ℕ) (b : List ℕ) (n : ℕ) (h : Bytes s → Bytes b) where
  kind_moves : Passed (seen_in st) k b → (t : Bool) → eqb k settings_kind ≡ t → Moves st s (on_record st b n (decode_of k b))
  unfolding decode_of before_settings again code_not_listed size_outside float_outside box_crossed check_of settings_table first_that
  kind_moves p true e =
      let z = rw e at p.sizes in
      let c : check_of (settings_of b) ≡ Ok tt = rw (rw e at p.codes, z, rw e at p.floats, rw e at p.box) refl in
      rw e (settings_move st s b n (rw e at p.twice) (record { check = c; sizes = z; sized = λ q. read_sized b (h q) }))
  kind_moves p false e =
      others_move st s b n k e (both_false (came st) (rw e at p.order)) (λ q. sym (ap (λ (j : ℕ). again (seen_in st) j b) q) ∙ p.twice)

  judged_moves : (j : Judged) → whole_of (seen_in st) k b ≡ j → Moves st s (on_judged st b n (decode_of k b) j)
  judged_moves (Err r) e = tt
  judged_moves (Ok _) e = kind_moves (passed_by (seen_in st) k b e) (eqb k settings_kind) refl

frame_moves : (st : State) (s : List ℕ) (x : Frame) → Moves st s (on_frame UnknownKind on_whole st s x)
unfolding on_whole
frame_moves st s F.Waits = tt
frame_moves st s F.Unknown = tt
frame_moves st s (F.Whole k n) = judged_moves st s k (body_of n s) (suc n) (λ h. some_take n (drop 1 s) (some_drop 1 s h)) _ refl

next_moves : (kinds : List ℕ) (st : State) (s : List ℕ) → Moves st s (on_bytes kinds st s)
next_moves kinds st s = rw (next_frame kinds st s (frame_of kinds s) refl) (frame_moves st s (frame_of kinds s))

-- ---- all records

-- after a width, a reset or a tick
module _ (kinds : List ℕ) (f : ℕ) (ih : (st : State) (s : List ℕ) → came st ≡ true → past st ≡ true → All GoesOn (settle (on_bytes kinds) f st s).told) where
  later_by : (st : State) (s : List ℕ) → came st ≡ true → past st ≡ true → (x : Next State Instruction Refusal) → Moves st s x
      → All GoesOn (after st s x (λ st' n. settle (on_bytes kinds) f st' (drop n s))).told
  later_by st s c p wait m = tt
  later_by st s c p (halt r) m = tt
  later_by st s c p (go st' n) m = ih st' (drop n s) (m.0 ∙ c) (m.1 ∙ p)
  later_by st s c p (tell st' n (begin w)) m = absurd (not_both c m.0)
  later_by st s c p (tell st' n restart) m = (tt, ih st' (drop n s) m.1.0 m.1.1)
  later_by st s c p (tell st' n (tick a)) m = (tt, ih st' (drop n s) m.1.0 m.1.1)
  later_by st s c p (tell st' n (width x)) m = absurd (not_both p m.1.1.0)

later : (kinds : List ℕ) (f : ℕ) (st : State) (s : List ℕ) → came st ≡ true → past st ≡ true → All GoesOn (settle (on_bytes kinds) f st s).told
unfolding settle
later kinds zero st s c p = tt
later kinds (suc f) st s c p = later_by kinds f (λ st' u c' p'. later kinds f st' u c' p') st s c p (on_bytes kinds st s) (next_moves kinds st s)

-- after the settings
pub data Goes (is : List Instruction) : Type 0 where
  plain : All GoesOn is → Goes is
  measured : (x : Float) (rest : List Instruction) → is ≡ width x ∷ rest → All GoesOn rest → Goes is

module _ (kinds : List ℕ) (f : ℕ) (ih : (st : State) (s : List ℕ) → came st ≡ true → past st ≡ false → Goes (settle (on_bytes kinds) f st s).told) where
  goes_by : (st : State) (s : List ℕ) → came st ≡ true → past st ≡ false → (x : Next State Instruction Refusal) → Moves st s x
      → Goes (after st s x (λ st' n. settle (on_bytes kinds) f st' (drop n s))).told
  goes_by st s c p wait m = plain tt
  goes_by st s c p (halt r) m = plain tt
  goes_by st s c p (go st' n) m = ih st' (drop n s) (m.0 ∙ c) (m.1 ∙ p)
  goes_by st s c p (tell st' n (begin w)) m = absurd (not_both c m.0)
  goes_by st s c p (tell st' n restart) m = plain (tt, later kinds f st' (drop n s) m.1.0 m.1.1)
  goes_by st s c p (tell st' n (tick a)) m = plain (tt, later kinds f st' (drop n s) m.1.0 m.1.1)
  goes_by st s c p (tell st' n (width x)) m = measured x (settle (on_bytes kinds) f st' (drop n s)).told refl (later kinds f st' (drop n s) m.1.0 m.1.1.1)

goes_at : (kinds : List ℕ) (f : ℕ) (st : State) (s : List ℕ) → came st ≡ true → past st ≡ false → Goes (settle (on_bytes kinds) f st s).told
unfolding settle
goes_at kinds zero st s c p = plain tt
goes_at kinds (suc f) st s c p = goes_by kinds f (λ st' u c' p'. goes_at kinds f st' u c' p') st s c p (on_bytes kinds st s) (next_moves kinds st s)

-- from the first byte on
pub data Ordered (s : List ℕ) (is : List Instruction) : Type 0 where
  nothing : is ≡ [] → Ordered s is
  under : (w : S.Settings) (rest : List Instruction) → is ≡ begin w ∷ rest → Checked s w → Goes rest → Ordered s is

-- what the bytes of a part held, the whole held
ordered_on : (n : ℕ) (s : List ℕ) (is : List Instruction) → Ordered (drop n s) is → Ordered s is
ordered_on n s is (nothing e) = nothing e
ordered_on n s is (under w rest e c g) =
    under w rest e (record { check = c.check; sizes = c.sizes; sized = λ h. c.sized (some_drop n s h) }) g

module _ (kinds : List ℕ) (f : ℕ) (ih : (st : State) (s : List ℕ) → came st ≡ false → past st ≡ false → Ordered s (settle (on_bytes kinds) f st s).told) where
  ordered_by : (st : State) (s : List ℕ) → came st ≡ false → past st ≡ false → (x : Next State Instruction Refusal) → Moves st s x
      → Ordered s (after st s x (λ st' n. settle (on_bytes kinds) f st' (drop n s))).told
  ordered_by st s c p wait m = nothing refl
  ordered_by st s c p (halt r) m = nothing refl
  ordered_by st s c p (go st' n) m = ordered_on n s _ (ih st' (drop n s) (m.0 ∙ c) (m.1 ∙ p))
  ordered_by st s c p (tell st' n (begin w)) m =
      under w (settle (on_bytes kinds) f st' (drop n s)).told refl m.1.1.1 (goes_at kinds f st' (drop n s) m.1.0 (m.1.1.0 ∙ p))
  ordered_by st s c p (tell st' n restart) m = absurd (not_both m.0 c)
  ordered_by st s c p (tell st' n (tick a)) m = absurd (not_both m.0 c)
  ordered_by st s c p (tell st' n (width x)) m = absurd (not_both m.0 c)

ordered_at : (kinds : List ℕ) (f : ℕ) (st : State) (s : List ℕ) → came st ≡ false → past st ≡ false → Ordered s (settle (on_bytes kinds) f st s).told
unfolding settle
ordered_at kinds zero st s c p = nothing refl
ordered_at kinds (suc f) st s c p = ordered_by kinds f (λ st' u c' p'. ordered_at kinds f st' u c' p') st s c p (on_bytes kinds st s) (next_moves kinds st s)

pub ordered : (kinds s : List ℕ) → Ordered s (told_in kinds s)
unfolding told_in settled start_state start_reader
ordered kinds s = ordered_at kinds _ start_state s refl refl

-- ---- a width left out

fuse_goes : (is : List Instruction) → All GoesOn is → All GoesOn (for_fuse is)
fuse_goes [] g = tt
fuse_goes (begin w ∷ is) g = absurd g.0
fuse_goes (restart ∷ is) g = (tt, fuse_goes is g.1)
fuse_goes (tick c ∷ is) g = (tt, fuse_goes is g.1)
fuse_goes (width x ∷ is) g = absurd g.0

goes_for_fuse : (is : List Instruction) → Goes is → All GoesOn (for_fuse is)
goes_for_fuse is (plain g) = fuse_goes is g
goes_for_fuse is (measured x rest e g) = rw e (fuse_goes rest g)

pub settled_by : (s : List ℕ) → Bytes s → (is : List Instruction) (w : S.Settings) (rest : List Instruction) → is ≡ begin w ∷ rest → Checked s w → Goes rest
    → SettledBy w (for_fuse is)
settled_by s h is w rest e c g = record {
  rest = for_fuse rest;
  first = ap for_fuse e;
  once = goes_for_fuse rest g;
  check = c.check;
  sized = c.sized h;
}
