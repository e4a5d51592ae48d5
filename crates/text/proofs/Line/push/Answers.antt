-- All bytes are put where there is room for them, and else as many as there is room for.
use mathlib.Core.Path.{◌≡◌, refl, sym, ap, ◌∙◌}
use native.Mathlib.Omega.{arith}
use Prim.Native.Nat.{◌-◌}
use borrow.Author.Rules.{rules}
use lib.ListN.{length, take, length-take}
use Rattle.std.proofs.lemmas.Slice.{put_mid-paste}
use Rattle.text.proofs.Lines.{line_is, push_full, push_all, push_most}
use Rattle.text.proofs.Line.push.Goals as goal

pub returns-then-b-room : goal.returns-then-b-room
returns-then-b-room c =
    let l = c.args.self.now in
    let b = c.args.b.now in
    let long : length l.text ≡ 256 = search rules in
    let there = put_mid-paste _ _ _ _ _ _ c.copy_from_slice.ensures.after (omega arith) refl in
    line_is _ _ there refl ∙ sym (push_all l b long (omega arith))

pub returns-else-b-room : goal.returns-else-b-room
returns-else-b-room c =
    let l = c.args.self.now in
    let b = c.args.b.now in
    let long : length l.text ≡ 256 = search rules in
    let few = length-take (256 - l.n) b in
    let there = put_mid-paste _ _ _ _ _ _ c.copy_from_slice-else-b-room.ensures.after refl (omega (arith, few)) in
    line_is _ _ there refl ∙ sym (push_most l b (256 - l.n) long (omega arith) (omega arith))

pub returns-else-n-lt-LINE : goal.returns-else-n-lt-LINE
returns-else-n-lt-LINE c = sym (push_full _ _ c.if-n-lt-LINE.false)
