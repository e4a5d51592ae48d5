use mathlib.Core.Path.{◌≡◌, sym, ◌∙◌}
use mathlib.Core.Bool.{true}
use native.Mathlib.Omega.{arith}
use borrow.Author.Tests.{leb-true}
use lib.ListN.{length}
use Rattle.text.specs.Line.{line_room}
use Rattle.text.specs.Memory.{has_room}
use Rattle.text.proofs.Puts.{no_room, with_room, put_there}
use Rattle.text.proofs.memory.show_line.Goals as goal

pub returns-then-not-has_room : goal.returns-then-not-has_room
returns-then-not-has_room c = no_room _ _ _ _ (sym c.has_room.ensures ∙ c.if-not-has_room.true)

pub returns : goal.returns
returns c =
    let there : has_room line_room c.args.n (length c.args.out.now) ≡ true = sym c.has_room.ensures ∙ c.if-not-has_room.false in
    let e = c.as_bytes.ensures.bytes in
    let short = rw e at c.as_bytes.ensures.fits in
    with_room _ _ _ _ there _ _ (put_there _ _ _ (omega (arith, leb-true _ _ there, short)) _ _ (rw e at c.put.ensures))
