-- A run of a conversion: what was read and written, and how it ends.
use Prim.Native.Nat.{ℕ, suc, ◌+◌, ◌-◌, ◌≤◌}
use mathlib.Core.Path.{◌≡◌, refl, sym, ap, ap₂, subst, ◌∙◌}
use mathlib.Core.List.{List, [], ◌∷◌, append-nil}
use mathlib.Core.Bool.{Bool, true, false, cond}
use native.Mathlib.Omega.{arith}
use lib.Dec.{eqb}
use lib.ListN.{length}
use lib.Seq.{length-take-le}
use borrow.Author.Tests.{eqb-false, ne_eqb}
use Rattle.std.specs.Prelude.{Option, None, Some, option_map}
use Rattle.stream.specs.Stream.{End, awaits, halted, Settled, telling, settled}
use Rattle.stream.proofs.Stream.{impossible}
use Rattle.journal_frames.specs.Frames.{Framed, bytes_of}
use Rattle.channels.specs.declared.intake.Supply.TheVariants.{Over}
use Rattle.channels.specs.declared.outlet.Written.{Written}
use Rattle.printer.specs.declared.Channel.TheVariants.{Errors}
use Rattle.console.specs.declared.phases.Phase.{Phase}
use Rattle.console.specs.declared.phases.Phase.TheVariants.{Plays, Waits, Refused, InputOver, ReadFailed, ReadsOver, WriteFailed}
use Rattle.console.specs.declared.rounds.Round.{Round}
use Rattle.console.specs.declared.rounds.Ended.{Ended}
use Rattle.console.specs.Phases.{is_going, is_unwritten, has_ending, phase_ended, number_left, number_ended}
use Rattle.console.specs.Rounds.{at_hand, KnownIn, Sending, number_kept, ending_in, ended_with, ended_keeping, RanBy, RanKeeping, StartsWith}
use Rattle.console.proofs.ByPhase.{wrote_ended}
use Rattle.console.proofs.Numbers.{keeping}
use Rattle.journal_forms.specs.declared.Form.{Form}
use Rattle.journal_forms.specs.declared.Cause.{Cause}
use Rattle.journal_forms.specs.Forms.{other}
use Rattle.journal_forms.specs.Conversion.{on_form, Ending, ended, refused, ending_of, conversion_of, number_of}
use Rattle.journal_forms.specs.Conversion as J
use Rattle.journal_forms.specs.Turns.{number_at, number_if, Rests}
use Rattle.journal_forms.proofs.Records.{some_number}
use Rattle.journal_forms.proofs.Turning.{bytes_append}
use Rattle.converter.specs.declared.Conversion.{Conversion}
use Rattle.converter.specs.Converter.{ConversionGoes, ConversionRests, refusal_by, written_of, refusal_text, beside_of, end_number, end_place, Answers, Pauses, EndsBy, Ran}
use Rattle.converter.specs.Conversions.{none_is}

-- the line of an ending, by its number
refusal_is : (s : List ℕ) (e : Ending) → refusal_by (end_number e) (end_place s e) ≡ refusal_text e
unfolding end_number end_place
refusal_is s ended = refl
refusal_is s (refused c p) = refl

-- the number of a refusal
record Numbered (number n : ℕ) : Type 0 where
  is : n ≡ number
  some : n ≡ 0 → ⊥

some_is : (number : ℕ) (o : Option Cause) → Some number ≡ option_map number_of o → Numbered number (number_if o)
some_is number None e = impossible cc
some_is number (Some c) e = let q : number_of c ≡ number = cc in record { is = q; some = λ z. absurd (omega (arith, z, some_number c)) }

-- a journal whose bytes s came, of which the records `told` were made
module _ (a : Form) (m : Conversion) (z₀ : m.from ≡ a) (r : Round) (b s : List ℕ) (told : List Framed)
    (goes : settled (on_form a (other a)) tt s ≡ telling told (settled (on_form a (other a)) tt (at_hand r b)))
    (count : r.place + r.have ≡ length s) (within : r.have ≤ length b) where
  abbrev rest : List ℕ
  rest = at_hand r b

  abbrev text : List ℕ
  text = bytes_of told

  have_is : length rest ≡ r.have
  have_is = length-take-le r.have b within

  abbrev Rested : End Cause → Type 0
  Rested x = settled (on_form a (other a)) tt rest ≡ record { state = tt; rest = rest; told = []; end = x }

  -- where nothing more can be taken, it comes to this
  comes : (x : End Cause) → Rested x → settled (on_form a (other a)) tt s ≡ record { state = tt; rest = rest; told = told; end = x }
  comes x e = goes ∙ ap (telling told) e ∙ ap (λ (u : List Framed). record { state = tt; rest = rest; told = u; end = x }) (append-nil told)

  settles : (x : End Cause) → Rested x → conversion_of a (other a) s ≡ record { records = told; ending = ending_of r.place rest x }
  unfolding conversion_of
  settles x e = let k : length s - length rest ≡ r.place = omega (arith, count, have_is) in rw (comes x e, k) refl

  text_is : (x : End Cause) → Rested x → text ≡ written_of a s
  text_is x e = ap (λ (c : J.Conversion). bytes_of c.records) (sym (settles x e))

  ending_is : (x : End Cause) → Rested x → (conversion_of a (other a) s).ending ≡ ending_of r.place rest x
  ending_is x q = ap (λ (c : J.Conversion). c.ending) (settles x q)

  module _ (e : Ended) (w : Written) (z : e ≡ ended_keeping r w) where
    answers : (x : Ending) → (conversion_of a (other a) s).ending ≡ x → number_kept r ≡ end_number x → r.place ≡ end_place s x → Answers a e s
    unfolding ended_with
    answers x h n k = rw z (record { refused_is = rw h n; place_is = rw h k })

    abbrev last : List ℕ
    last = refusal_by (number_kept r) r.place

    last_is : (x : Ending) → (conversion_of a (other a) s).ending ≡ x → number_kept r ≡ end_number x → r.place ≡ end_place s x → last ≡ beside_of a s
    last_is x h n k = ap₂ refusal_by n k ∙ refusal_is s x ∙ ap refusal_text (sym h)

    -- what was handed over so far is how the records begin
    begins : StartsWith text (written_of a s)
    unfolding conversion_of
    begins =
        let x = settled (on_form a (other a)) tt rest in
        record { later = bytes_of x.told; is = ap (λ (u : Settled (Unit {0}) Framed Cause). bytes_of u.told) goes ∙ bytes_append told x.told }

    number_by : (x : Phase) → r.phase ≡ x → number_kept r ≡ number_ended x r.refused r.have
    number_by x y = ap (λ (u : Phase). number_ended u r.refused r.have) y

    abbrev ending : Phase → List ℕ
    ending x = cond (has_ending x) last []

    abbrev EndsIn : Phase → Phase → Type 0
    EndsIn x y = EndsBy a e s text (ending x) y

    -- a refusal: its number, and its place
    refused_ends : (number : ℕ) → r.phase ≡ Refused number → ConversionRests m rest (Some number) → EndsIn (Refused number) (Refused number)
    unfolding end_number end_place
    refused_ends number y h =
        let q = some_is number h.refused h.number_is in
        let t : Rests a rest (number_if h.refused) = rw z₀ at h.rests in
        by t.end t.rests (number_by (Refused number) y ∙ ap Some (sym q.is ∙ t.number_is)) (λ o. q.some (t.number_is ∙ o))
      where
        by : (x : End Cause) → Rested x → number_kept r ≡ Some (number_at x) → (number_at x ≡ 0 → ⊥) → EndsIn (Refused number) (Refused number)
        by awaits t n o = absurd (o refl)
        by (halted c) t n o = at_end rest refl
          where
            at_end : (u : List ℕ) → rest ≡ u → EndsIn (Refused number) (Refused number)
            at_end [] y' = let i = ending_is (halted c) t ∙ ap (λ (u : List ℕ). ending_of r.place u (halted c)) y' in
                (text_is (halted c) t, last_is _ i n refl, answers _ i n refl, record { why = c; end = ap (λ (u : Settled (Unit {0}) Framed Cause). u.end) (comes (halted c) t) })
            at_end (j ∷ u) y' = let i = ending_is (halted c) t ∙ ap (λ (u : List ℕ). ending_of r.place u (halted c)) y' in
                (text_is (halted c) t, last_is _ i n refl, answers _ i n refl, record { why = c; end = ap (λ (u : Settled (Unit {0}) Framed Cause). u.end) (comes (halted c) t) })

    -- the end of the input: what is left over is a record that is cut
    over_ends : (u : List ℕ) → rest ≡ u → (number_left r.have ≡ end_number (ending_of r.place u awaits)) × (r.place ≡ end_place s (ending_of r.place u awaits))
    unfolding end_number end_place
    over_ends [] y = let k : r.have ≡ 0 = sym have_is ∙ ap length y in (rw k refl, omega (arith, count, k))
    over_ends (c ∷ u) y =
        let k : r.have ≡ suc (length u) = sym have_is ∙ ap length y in
        (rw (k, ne_eqb (suc (length u)) 0 (λ o. omega (arith, o))) refl, refl)

    -- where nothing was refused, more bytes have to come
    waits : ConversionRests m rest None → Rested awaits
    waits h = let t : Rests a rest (number_if h.refused) = rw z₀ at h.rests in by t.end t.rests (sym t.number_is ∙ none_is h.refused h.number_is)
      where
        by : (x : End Cause) → Rested x → number_at x ≡ 0 → Rested awaits
        by awaits q n = q
        by (halted c) q n = absurd (omega (arith, n, some_number c))

    input_ends : r.phase ≡ InputOver → ConversionRests m rest None × (e.reads.last ≡ Over) → EndsIn InputOver InputOver
    input_ends y h =
        let t = waits h.0 in
        let o = over_ends rest refl in
        let n = number_by InputOver y ∙ o.0 in
        (text_is awaits t, last_is _ (ending_is awaits t) n o.1, answers _ (ending_is awaits t) n o.1, h.1)

    pauses : number_kept r ≡ None → ConversionRests m rest None → (text ≡ written_of a s) × Pauses a e s
    unfolding ended_with
    pauses n h =
        let t = waits h in
        let c = comes awaits t in
        let k : r.place ≡ length s - length rest = omega (arith, count, have_is) in (
          text_is awaits t,
          record {
            end = ap (λ (u : Settled (Unit {0}) Framed Cause). u.end) c;
            place_is = ap (λ (u : Ended). u.place) z ∙ k ∙ ap (λ (u : Settled (Unit {0}) Framed Cause). length s - length u.rest) (sym c);
            refused_is = ap (λ (u : Ended). u.refused) z ∙ n;
          },
        )

    -- nothing is left of a whole text
    whole : (u v : List ℕ) → u ≡ v → StartsWith u v
    whole u v h = record { later = []; is = sym (append-nil u ∙ h) }

    -- why it is over, by the phase before the ending, and whether a write failed
    ends_by : (x : Phase) → r.phase ≡ x → is_going x ≡ false → KnownIn ConversionRests x m rest r.refused r.reads → (has_ending x ≡ false → is_unwritten x ≡ false → w.failed ≡ false)
        → (f : Bool) → w.failed ≡ f → EndsIn x (phase_ended x f)
    unfolding ended_with
    ends_by Plays y g h v f k = impossible cc
    ends_by Waits y g h v f k = impossible cc
    ends_by (Refused number) y g h v true k = let q = refused_ends number y (rw h.1 at h.0) in (whole _ _ q.0, whole _ _ q.1)
    ends_by (Refused number) y g h v false k = refused_ends number y (rw h.1 at h.0)
    ends_by InputOver y g h v true k = let q = input_ends y (rw h.1 at h.0, rw z h.2) in (whole _ _ q.0, whole _ _ q.1)
    ends_by InputOver y g h v false k = input_ends y (rw h.1 at h.0, rw z h.2)
    ends_by ReadFailed y g h v true k = let o : true ≡ false = sym k ∙ v refl refl in impossible cc
    ends_by ReadFailed y g h v false k = let q = pauses (number_by ReadFailed y ∙ h.1) (rw h.1 at h.0) in (q.0, refl, q.1, rw z h.2)
    ends_by ReadsOver y g h v true k = let o : true ≡ false = sym k ∙ v refl refl in impossible cc
    ends_by ReadsOver y g h v false k = let q = pauses (number_by ReadsOver y ∙ h.1) (rw h.1 at h.0) in (q.0, refl, q.1, rw z h.2)
    ends_by WriteFailed y g h v true k = (begins, record { later = beside_of a s; is = refl })
    ends_by WriteFailed y g h v false k = (begins, record { later = beside_of a s; is = refl })

-- ---- the whole run

abbrev line_in : Conversion → Option ℕ → ℕ → List ℕ
line_in m number place = refusal_by number place

abbrev line_on : Sending Conversion
line_on m number = Errors

pub ran_keeping : (m₀ m : Conversion) (e : Ended) → RanKeeping ConversionGoes ConversionRests line_in line_on m₀ m e → Ran m₀.from e
unfolding ended_with
ran_keeping m₀ m e t =
    let a = m₀.from in
    let r = t.round in
    let w = e.written in
    let x = t.through.past in
    let made : ConversionGoes m₀ x.past x.text m (at_hand r t.buf) = x.makes in
    let ending = ending_in line_in m r (number_kept r) in
    let reads-are : e.reads ≡ r.reads = ap (λ (u : Ended). u.reads) t.closed.is in
    let phase-is : e.phase ≡ phase_ended r.phase w.failed = ap (λ (u : Ended). u.phase) t.closed.is in
    record {
      journal = x.past;
      text = bytes_of made.told;
      beside = ending;
      brought = rw reads-are x.brought;
      handed = t.closed.put.handed.0 ∙ rw made.text at x.handed;
      handed_beside = omega (arith, t.closed.put.handed.1, x.beside);
      wrote = wrote_ended r.phase w.failed (λ h. ap (λ (u : Written). u.failed) (t.closed.put.none h) ∙ t.through.sound.wrote) ∙ sym (ap is_unwritten phase-is);
      ends =
          subst (λ (u : Phase). EndsBy a e x.past (bytes_of made.told) ending u) (sym phase-is)
          (ends_by a m (ap (λ (u : Conversion). u.from) made.same) r t.buf x.past made.told made.goes x.count t.through.sound.fits.within e w t.closed.is r.phase refl t.through.over t.through.sound.stops
          (λ h u. ap (λ (v : Written). v.failed) (t.closed.put.none h) ∙ t.through.sound.wrote ∙ u) w.failed refl);
    }

pub ran : (m₀ m : Conversion) (e : Ended) → RanBy ConversionGoes ConversionRests line_in line_on m₀ m e → Ran m₀.from e
ran m₀ m e t = ran_keeping m₀ m e (keeping ConversionGoes ConversionRests line_in line_on m₀ m e t)
