use Prim.Native.Nat.{ℕ, ◌≤◌}
use mathlib.Core.Path.{◌≡◌, ◌∙◌}
use mathlib.Core.List.{List, ◌++◌}
use native.Mathlib.Omega.{arith}
use lib.ListN.{length, length-append}
use Rattle.text.specs.Ascii.{ascii}
use Rattle.text.specs.Line.{line_of}
use Rattle.text.specs.Number.{decimal_of}
use Rattle.text.specs.Column.{right, left}
use Rattle.text.proofs.Columns.{right_most}
use Rattle.text.proofs.Digits.{decimal_20}
use Rattle.text.proofs.Lines.{held_text, push_line}
use Rattle.page_text.specs.Rows.{page_row}
use Rattle.page_text.proofs.page_line.Goals as goal

said : ℕ → List ℕ
said n = ascii "page " ++ right 10 (decimal_of n)

said_short : (n : ℕ) → length (said n) ≤ 256
unfolding said
said_short n = simp length-append (omega (arith, right_most 10 (decimal_of n), decimal_20 n))

pub returns : goal.returns
unfolding page_row left said
returns c =
    let n = c.args.number in
    let so_far : c.push_number.new.l ≡ line_of (said n) = simp (c.push_number.ensures, c.push.ensures, c.new-l.ensures, push_line) in
    let long = c.as_bytes-n.ensures.bytes ∙ held_text _ (said n) (said_short n) so_far in
    simp (c.push-2.ensures, c.push_blanks.ensures, c.saturating_sub.ensures, long, so_far, push_line)
