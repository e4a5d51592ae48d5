-- The lines of a page are 55 characters wide, and each field of a tick's row reads back to the text
-- that `fuse` prints.
use Prim.Native.Nat.{ℕ, ◌-◌, ◌*◌, ◌^◌, ◌≤◌, ◌<◌}
use mathlib.Core.Path.{◌≡◌, refl, sym, ap, ◌∙◌}
use mathlib.Core.Bool.{Bool, true, false, cond}
use mathlib.Core.List.{List, [], ◌∷◌, ◌++◌, append_assoc}
use native.Mathlib.Omega.{arith}
use borrow.Author.Tests.{ltb-false}
use lib.Dec.{T, ltb, lit<, lit≤}
use lib.IntN.{pos, nat_abs}
use lib.ListN.{length, length-append, get_or}
use lib.Seq.{take_at}
use lib.Ieee.{Float, nan, inf, fin, up, down}
use Rattle.text.specs.Ascii.{ascii}
use Rattle.text.specs.Line.{line_room}
use Rattle.text.specs.Number.{decimal_of}
use Rattle.text.specs.Column.{blanks, right, left, unblanked, plain, cut, row_of, after_blanks, at_left, Within, Plain}
use Rattle.text.specs.Words.{words_from, word_at, after_blank}
use Rattle.text.proofs.Signs.{nat_abs_neg}
use Rattle.text.proofs.Digits.{decimal_short, decimal_20}
use Rattle.text.proofs.Columns.{right_length, left_length, right_most, left_most, right_back, decimal_plain, signed_plain, signed_short, row_length, text_at}
use Rattle.text.proofs.Words.{words_back, after_last}
use Rattle.lictor_core.specs.Codes.{state_code, reason_code, source_code}
use Rattle.lictor_core.specs.declared.reason.ReasonCode.{ReasonCode}
use Rattle.lictor_core.specs.declared.reason.ReasonCode.TheVariants as R
use Rattle.lictor_core.specs.declared.state.FuseState.{FuseState}
use Rattle.lictor_core.specs.declared.state.FuseState.TheVariants as S
use Rattle.lictor_core.specs.declared.verdict.SafetyVerdict.{SafetyVerdict}
use Rattle.margin.specs.declared.Margin.{Margin}
use Rattle.margin.specs.declared.Margin.TheVariants.{NoMargin, PlusFar, MinusFar, Millis}
use Rattle.margin.specs.Margin.{margin_of, millis_of, far_of, signed, nearest_whole}
use Rattle.report.specs.Lines.{margin_text, tick_text}
use Rattle.report.proofs.Fits.{margin_21}
use Rattle.page_text.specs.Names.{state_name, state_named}
use Rattle.page_text.specs.Rows.{page_width, column, tick_columns, tick_row, page_row, as_line, Fitting, ReadBack}

-- ---- the texts: how long they are, and that they have no blank

name_short : (q : FuseState) → length (state_name q) ≤ 10
name_short S.Idle = lit≤ tt
name_short S.Armed = lit≤ tt
name_short S.Watching = lit≤ tt
name_short S.Clamped = lit≤ tt
name_short S.Braking = lit≤ tt
name_short S.Held = lit≤ tt
name_short S.Escalated = lit≤ tt
name_short S.Fault = lit≤ tt
name_short S.Terminated = lit≤ tt

name_plain : (q : FuseState) → T (plain (state_name q))
unfolding plain
name_plain S.Idle = tt
name_plain S.Armed = tt
name_plain S.Watching = tt
name_plain S.Clamped = tt
name_plain S.Braking = tt
name_plain S.Held = tt
name_plain S.Escalated = tt
name_plain S.Fault = tt
name_plain S.Terminated = tt

far_short : (s : Bool) → length (margin_text (far_of s)) ≤ 8
unfolding margin_text
far_short true = lit≤ tt
far_short false = lit≤ tt

signed_small : (s : Bool) (n : ℕ) → n ≤ 999999 → nat_abs (signed s n) < 10 ^ 7
signed_small true n h = rw (nat_abs_neg (pos n)) (omega arith)
signed_small false n h = omega arith

millis_short : (s : Bool) (n : ℕ) → length (margin_text (millis_of s n)) ≤ 8
unfolding margin_text
millis_short s n = go (ltb 999999 n) refl
  where
    go : (b : Bool) → ltb 999999 n ≡ b → length (margin_text (cond b (far_of s) (Millis (signed s n)))) ≤ 8
    go true e = far_short s
    go false e = signed_short (signed s n) 7 (lit≤ tt) (signed_small s n (ltb-false 999999 n e))

margin_short : (x : Float) → length (margin_text (margin_of x)) ≤ 8
unfolding margin_of margin_text
margin_short nan = lit≤ tt
margin_short (inf s) = far_short s
margin_short (fin s m e) = millis_short s (nearest_whole (m * up e * 1000) (down e))

margin_plain : (m : Margin) → T (plain (margin_text m))
unfolding margin_text plain
margin_plain NoMargin = tt
margin_plain PlusFar = tt
margin_plain MinusFar = tt
margin_plain (Millis z) = signed_plain z

reason_small : (r : ReasonCode) → reason_code r < 10 ^ 2
reason_small R.Ok = lit< tt
reason_small R.ObserveOnly = lit< tt
reason_small R.WatchBand = lit< tt
reason_small R.ClampWorkspace = lit< tt
reason_small R.ClampSpeed = lit< tt
reason_small R.ClampAccel = lit< tt
reason_small R.ClampJerk = lit< tt
reason_small R.ClampReach = lit< tt
reason_small R.ClampContact = lit< tt
reason_small R.BrakeInfeasible = lit< tt
reason_small R.BrakeTier1Cp = lit< tt
reason_small R.BrakeClampBudget = lit< tt
reason_small R.Stopping = lit< tt
reason_small R.HeldStandstill = lit< tt
reason_small R.EscalateHoldTimeout = lit< tt
reason_small R.EscalateRearmBudget = lit< tt
reason_small R.EscalateTier1Persistent = lit< tt
reason_small R.FaultNonFinite = lit< tt
reason_small R.FaultSchema = lit< tt
reason_small R.FaultWatchdog = lit< tt
reason_small R.FaultBrakeTimeout = lit< tt
reason_small R.FaultInternal = lit< tt
reason_small R.RearmedAuto = lit< tt
reason_small R.RearmedAck = lit< tt
reason_small R.TerminatedAbort = lit< tt
reason_small R.TerminatedTimeout = lit< tt
reason_small R.TerminatedRetune = lit< tt
reason_small R.EpisodeEnd = lit< tt

-- ---- the row of a tick

within : (v : SafetyVerdict) → Fitting v → Within (tick_columns v)
within v f = (
  decimal_short v.seq 10 (lit≤ tt) (omega (arith, f.seq)),
  (
    decimal_short v.t 10 (lit≤ tt) (omega (arith, f.t)),
    (
      name_short v.state,
      (
        decimal_short (reason_code v.reason) 2 (lit≤ tt) (reason_small v.reason),
        (
          decimal_short v.trips 10 (lit≤ tt) (omega (arith, f.trips)),
          (
            margin_short v.brake_margin,
            tt,
          ),
        ),
      ),
    ),
  ),
)

pub plain_texts : (v : SafetyVerdict) → Plain (tick_columns v)
plain_texts v = (
  decimal_plain v.seq,
  (
    decimal_plain v.t,
    (
      name_plain v.state,
      (
        decimal_plain (reason_code v.reason),
        (
          decimal_plain v.trips,
          (
            margin_plain (margin_of v.brake_margin),
            tt,
          ),
        ),
      ),
    ),
  ),
)

pub tick_width : (v : SafetyVerdict) → Fitting v → length (tick_row v) ≡ 55
unfolding tick_row
tick_width v f = row_length (tick_columns v) (within v f)

-- ---- reading back

-- a name tells its state
pub name_back : (q : FuseState) → state_named (state_name q) ≡ q
name_back S.Idle = refl
name_back S.Armed = refl
name_back S.Watching = refl
name_back S.Clamped = refl
name_back S.Braking = refl
name_back S.Held = refl
name_back S.Escalated = refl
name_back S.Fault = refl
name_back S.Terminated = refl

-- the line of `fuse` is made of these words
abbrev tick_words : SafetyVerdict → List (List ℕ)
tick_words v =
    decimal_of v.seq
    ∷ decimal_of v.t
    ∷ decimal_of (state_code v.state)
    ∷ decimal_of (reason_code v.reason)
    ∷ decimal_of v.trips
    ∷ decimal_of (source_code v.action_src)
    ∷ []

abbrev margin_word : SafetyVerdict → List ℕ
margin_word v = margin_text (margin_of v.brake_margin)

tick_joined : (v : SafetyVerdict) → tick_text v ≡ ascii "tick" ++ (after_blank (tick_words v ++ (margin_word v ∷ [])) ++ ascii "\n")
unfolding tick_text
tick_joined v =
    ap (λ (y : List ℕ). ascii "tick" ++ (y ++ ascii "\n")) (append_assoc (after_blank (tick_words v)) (ascii " ") (margin_word v) ∙ sym (after_last (tick_words v) (margin_word v)))

tick_words_lem : (v : SafetyVerdict) → words_from [] (tick_text v) ≡ ascii "tick" ∷ ((tick_words v ++ (margin_word v ∷ [])) ++ ([] ∷ []))
unfolding plain
tick_words_lem v =
    ap (words_from []) (tick_joined v)
    ∙ words_back (ascii "tick") (tick_words v ++ (margin_word v ∷ [])) tt (
      decimal_plain v.seq,
      (
        decimal_plain v.t,
        (
          decimal_plain (state_code v.state),
          (decimal_plain (reason_code v.reason), (decimal_plain v.trips, (decimal_plain (source_code v.action_src), (margin_plain (margin_of v.brake_margin), tt)))),
        ),
      ),
    )

word_is : (v : SafetyVerdict) (i : ℕ) → word_at i (tick_text v) ≡ get_or (ascii "tick" ∷ ((tick_words v ++ (margin_word v ∷ [])) ++ ([] ∷ []))) i []
word_is v i = ap (λ (ws : List (List ℕ)). get_or ws i []) (tick_words_lem v)

pub reads_back : (v : SafetyVerdict) → Fitting v → ReadBack v
unfolding tick_row
reads_back v f =
    let cs = tick_columns v in
    let w = within v f in
    let p = plain_texts v in
    let z = column 0 at_left [] in
    record {
      seq = text_at cs 0 z w p (lit< tt) ∙ sym (word_is v 1);
      t = text_at cs 1 z w p (lit< tt) ∙ sym (word_is v 2);
      state = ap (λ (s : List ℕ). decimal_of (state_code (state_named s))) (text_at cs 2 z w p (lit< tt)) ∙ ap (λ (q : FuseState). decimal_of (state_code q)) (name_back v.state) ∙ sym (word_is v 3);
      reason = text_at cs 3 z w p (lit< tt) ∙ sym (word_is v 4);
      trips = text_at cs 4 z w p (lit< tt) ∙ sym (word_is v 5);
      margin = text_at cs 5 z w p (lit< tt) ∙ sym (word_is v 7);
    }

-- ---- the line of a page's number

number_short : (n : ℕ) → n < 10 ^ 10 → length (right 10 (decimal_of n)) ≡ 10
number_short n h = right_length 10 (decimal_of n) (decimal_short n 10 (lit≤ tt) h)

pub page_width_lem : (n : ℕ) → n < 10 ^ 10 → length (page_row n) ≡ page_width
unfolding page_row
page_width_lem n h = left_length page_width (ascii "page " ++ right 10 (decimal_of n)) (omega (arith, number_short n h))

-- its number, at columns 5 to 14
pub page_back : (n : ℕ) → n < 10 ^ 10 → unblanked (cut 5 10 (page_row n)) ≡ decimal_of n
unfolding page_row left
page_back n h =
    ap unblanked (take_at (right 10 (decimal_of n)) (blanks (page_width - length (ascii "page " ++ right 10 (decimal_of n)))) 10 (number_short n h))
    ∙ right_back 10 (decimal_of n) (decimal_plain n)

-- ---- both lines fit into a line of the code, whatever the numbers

pub tick_row_fits : (v : SafetyVerdict) → length (as_line (tick_row v)) ≤ line_room
unfolding tick_row row_of after_blanks
tick_row_fits v =
    simp length-append
    (omega (
      arith,
      right_most 10 (decimal_of v.seq),
      decimal_20 v.seq,
      right_most 10 (decimal_of v.t),
      decimal_20 v.t,
      left_most 10 (state_name v.state),
      name_short v.state,
      right_most 2 (decimal_of (reason_code v.reason)),
      decimal_20 (reason_code v.reason),
      right_most 10 (decimal_of v.trips),
      decimal_20 v.trips,
      right_most 8 (margin_text (margin_of v.brake_margin)),
      margin_21 (margin_of v.brake_margin),
    ))

pub page_row_fits : (n : ℕ) → length (as_line (page_row n)) ≤ line_room
unfolding page_row
page_row_fits n =
    simp length-append
    (omega (arith, left_most page_width (ascii "page " ++ right 10 (decimal_of n)), right_most 10 (decimal_of n), decimal_20 n))
