-- What the table says by the frame: of a kind that is not listed, of a record that is cut, and of a
-- whole one, which the rows below the first two judge.
use mathlib.Core.Bool.{true, false}
use mathlib.Core.List.{List, ◌∷◌}
use mathlib.Core.Path.{◌≡◌, refl, ◌∙◌}
use Prim.Native.Nat.{ℕ, ◌<◌}
use native.Mathlib.Omega.{arith}
use borrow.Author.Tests.{lt-ltb, le-ltb, leb-false}
use lib.ListN.{length, get_or, take, length-take}
use Rattle.journal_frames.specs.declared.Frame.{Frame}
use Rattle.journal_frames.specs.Frames.{body_len, frame_of}
use Rattle.journal_frames.proofs.Frames.{FrameAt, unknown, cut, whole, frame_at}
use Rattle.journal_records.specs.Little.{byte_at}
use Rattle.journal_records.specs.Kinds.{value_kind}
use Rattle.lictor_core.specs.FirstThat.{first_that, refuse◌when◌}
use Rattle.journal_refusals.specs.declared.Seen.{Seen}
use Rattle.journal_refusals.specs.declared.Refusal.TheVariants.{UnknownKind, CutBody, BadCode, ListFull}
use Rattle.journal_refusals.specs.Causes.{capacities, count_of, unknown_kind, body_cut, code_not_listed, list_full}
use Rattle.journal_refusals.specs.Table.{Accepted, Refused, Row, first_row, framing_rows, order_rows, content_rows, whole_rows, refusal_table, judged_of, whole_of, framed_as}
use Rattle.journal_refusals.proofs.Exactly.{cause_of, no_cause}

module _ (kinds : List ℕ) (seen : Seen) (k : ℕ) (u : List ℕ) where
  -- the body, as far as it came
  abbrev body : List ℕ
  body = take (body_len kinds k) u

  -- a row whose cause is there is the table's answer; one whose cause is not is passed over
  answers : (w : Row) (ws : List Row) → w.cause seen k body ≡ true → first_row (w ∷ ws) seen k body ≡ Refused w.answer
  unfolding first_that
  answers w ws e = rw e refl

  passes : (w : Row) (ws : List Row) → w.cause seen k body ≡ false → first_row (w ∷ ws) seen k body ≡ first_row ws seen k body
  unfolding first_that
  passes w ws e = rw e refl

  -- the first two rows
  abbrev unlisted : Row
  unlisted = refuse UnknownKind when unknown_kind kinds

  abbrev cut_off : Row
  cut_off = refuse CutBody when body_cut kinds

  framed_by : {x : Frame} → FrameAt kinds k u x → judged_of kinds seen k body ≡ framed_as seen u x
  unfolding judged_of refusal_table framing_rows whole_of unknown_kind body_cut
  framed_by (unknown e) = answers unlisted (cut_off ∷ whole_rows) (rw e refl)
  framed_by (cut e h) =
      passes unlisted (cut_off ∷ whole_rows) (rw e refl)
      ∙ answers cut_off whole_rows (lt-ltb (length body) (body_len kinds k) (omega (arith, length-take (body_len kinds k) u)))
  framed_by (whole e h) =
      passes unlisted (cut_off ∷ whole_rows) (rw e refl)
      ∙ passes cut_off whole_rows (le-ltb (length body) (body_len kinds k) (omega (arith, length-take (body_len kinds k) u)))

  -- the table, by the frame
  pub judged_framed : judged_of kinds seen k body ≡ framed_as seen u (frame_of kinds (k ∷ u))
  judged_framed = framed_by (frame_at kinds k u)

-- a value that is accepted goes to one of the lists, which has room
module _ (seen : Seen) (b : List ℕ) (e : whole_of seen value_kind b ≡ Accepted) where
  pub accepted_list : byte_at b 0 < length capacities
  unfolding whole_of whole_rows order_rows content_rows cause_of code_not_listed
  accepted_list = leb-false (length capacities) (byte_at b 0) (no_cause seen value_kind b whole_rows e BadCode)

  pub accepted_room : count_of seen (byte_at b 0) < get_or capacities (byte_at b 0) 0
  unfolding whole_of whole_rows order_rows content_rows cause_of list_full
  accepted_room = leb-false (get_or capacities (byte_at b 0) 0) (count_of seen (byte_at b 0)) (no_cause seen value_kind b whole_rows e ListFull)
