use Prim.Native.Nat.{ℕ}
use Rattle.text.specs.declared.Line.{Line}
use mathlib.Core.Path.{refl, sym, ◌≡◌, ap, ◌∙◌}
use mathlib.Core.List.{List, [], ◌∷◌, ◌++◌}
use native.Mathlib.Omega.{arith}
use borrow.Author.Rules.{rules}
use denote.Enum.Declared.{tag_of}
use lib.ListN.{drop}
use Rattle.text.specs.Line.{push_of}
use Rattle.text.specs.Number.{decimal_of}
use Rattle.text.specs.Column.{right, left}
use Rattle.text.proofs.Lines.{line_text, push_line, push_append}
use Rattle.text.proofs.Columns.{row_joined}
use Rattle.lictor_core.specs.Codes.{reason_code}
use Rattle.lictor_core.specs.contracts.reason.ReasonCode.{the_type}
use Rattle.margin.specs.Margin.{margin_of}
use Rattle.report.specs.Lines.{margin_text}
use Rattle.report.proofs.Fits.{margin_21}
use Rattle.page_text.specs.Names.{state_name}
use Rattle.page_text.specs.Rows.{tick_row, tick_columns, as_line}
use Rattle.page_text.proofs.push_row.Goals as goal

-- a blank and a column more
one_more : (l : Line) (s f : List ℕ) → push_of (push_of (push_of l s) (32 ∷ [])) f ≡ push_of l (s ++ (32 ∷ f))
unfolding push_of
one_more l s f = sym (push_append l s (32 ∷ f))

pub returns : goal.returns
unfolding tick_row
returns c =
    let l = c.args.l.now in
    let v = c.args.v in
    let m = margin_of v.brake_margin in
    let seq = right 10 (decimal_of v.seq) in
    let t = right 10 (decimal_of v.t) in
    let state = left 10 (state_name v.state) in
    let reason = right 2 (decimal_of (reason_code v.reason)) in
    let trips = right 10 (decimal_of v.trips) in
    let code : tag_of the_type v.reason ≡ reason_code v.reason = search rules in
    let margin : c.as_bytes.result.now ≡ margin_text m = rw (c.as_bytes.ensures.bytes, c.push_margin.ensures, c.from-4.ensures, c.new-margin.ensures, push_line [] (margin_text m)) (line_text (margin_text m) (omega (arith, margin_21 m))) in
    let one : c.push_number.new.l ≡ push_of l seq = rw (c.push_number.ensures, c.from.ensures) refl in
    let two : c.push_number-2.new.l ≡ push_of l (seq ++ (32 ∷ t)) = rw (c.push_number-2.ensures, c.push.ensures, one, c.from-2.ensures) (one_more l seq t) in
    let three : c.push_left.new.l ≡ push_of l (seq ++ (32 ∷ t) ++ (32 ∷ state)) = rw (c.push_left.ensures, c.push-2.ensures, two, c.name_of.ensures) (one_more l (seq ++ (32 ∷ t)) state) in
    let four : c.push_number-3.new.l ≡ push_of l (seq ++ (32 ∷ t) ++ (32 ∷ state) ++ (32 ∷ reason)) = rw (c.push_number-3.ensures, c.push-3.ensures, three, code) (one_more l (seq ++ (32 ∷ t) ++ (32 ∷ state)) reason) in
    let five : c.push_number-4.new.l ≡ push_of l (seq ++ (32 ∷ t) ++ (32 ∷ state) ++ (32 ∷ reason) ++ (32 ∷ trips)) = rw (c.push_number-4.ensures, c.push-4.ensures, four, c.from-3.ensures) (one_more l (seq ++ (32 ∷ t) ++ (32 ∷ state) ++ (32 ∷ reason)) trips) in
    let six : c.push_right.new.l ≡ push_of l (seq ++ (32 ∷ t) ++ (32 ∷ state) ++ (32 ∷ reason) ++ (32 ∷ trips) ++ (32 ∷ right 8 (margin_text m))) = rw (c.push_right.ensures, c.push-5.ensures, five, margin) (one_more l (seq ++ (32 ∷ t) ++ (32 ∷ state) ++ (32 ∷ reason) ++ (32 ∷ trips)) (right 8 (margin_text m))) in
    let row = seq ++ (32 ∷ t) ++ (32 ∷ state) ++ (32 ∷ reason) ++ (32 ∷ trips) ++ (32 ∷ right 8 (margin_text m)) in
    rw (c.push-6.ensures, six, ← push_append l row (10 ∷ [])) (ap (λ (s : List ℕ). push_of l (as_line s)) (row_joined _ (drop 1 (tick_columns v))))
