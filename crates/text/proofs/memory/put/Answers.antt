use Rattle.std.proofs.Common.{refl, sym, ◌∙◌, arith}
use Rattle.std.proofs.lemmas.Slice.{put_mid-paste}
use Rattle.text.proofs.Puts.{not_put, all_put}
use Rattle.text.proofs.memory.put.Goals as goal

pub returns-then-not-has_room : goal.returns-then-not-has_room
returns-then-not-has_room c = not_put _ _ _ (sym c.has_room.ensures ∙ c.if-not-has_room.true)

pub returns : goal.returns
returns c = all_put _ _ _ (sym c.has_room.ensures ∙ c.if-not-has_room.false) _ (put_mid-paste _ _ _ _ _ _ c.copy_from_slice.ensures.after (omega arith) refl)
