-- Four texts, one after the other.
use Rattle.text.proofs.Lines.{push_line}
use Rattle.roots.specs.Text.{root_text}
use Rattle.roots.proofs.root_line.Goals as goal

pub returns : goal.returns
unfolding root_text
returns c = simp (c.push-2.ensures, c.push_float.ensures, c.push.ensures, c.push_hex.ensures, c.new-l.ensures, c.sqrt-root.ensures, c.double.ensures, push_line)
