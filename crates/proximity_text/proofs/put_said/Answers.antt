use Rattle.proximity_text.proofs.Laws.{said_none, said_word}
use Rattle.proximity_text.proofs.put_said.Goals as goal

pub returns-in-None : goal.returns-in-None
returns-in-None c = rw c.in-None.is (said_none _ _ _ _)

pub returns-in-Some : goal.returns-in-Some
returns-in-Some c =
    let line = rw c.text_of.ensures at c.fields_line.ensures in
    rw c.in-Some.is (said_word c.in-Some.word _ _ _ _ c.requires _ line _ _ c.put_line.ensures)
