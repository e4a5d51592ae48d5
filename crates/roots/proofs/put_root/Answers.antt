use mathlib.Core.Path.{◌∙◌}
use native.Mathlib.Omega.{arith}
use Rattle.text.proofs.Puts.{put_there}
use Rattle.roots.proofs.Laws.{line_length, root_shown}
use Rattle.roots.proofs.put_root.Goals as goal

pub returns : goal.returns
returns c =
    let b = c.args.b in
    let shown = c.as_bytes.ensures.bytes ∙ root_shown b _ c.root_line.ensures in
    put_there _ _ _ (omega (arith, line_length b)) _ _ (rw shown at c.put.ensures)
