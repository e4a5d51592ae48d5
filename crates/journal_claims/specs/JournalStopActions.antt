-- `stopped` in the line `end`, of every journal (request 8): the tally that a journal leaves, which
-- `end` prints, has counted those ticks since its last reset that stop the arm.
-- Proved in proofs/JournalStopActions, `journal_stop_actions`.
use Rattle.std.specs.Prelude.{◌≡◌, List, [], ◌∷◌, ℕ, ◌-◌, ◌^◌, min}
use Rattle.lictor_core.specs.declared.verdict.SafetyVerdict.{SafetyVerdict}
use Rattle.lictor_tally.specs.Tally.{stops_arm}
use Rattle.claims.specs.Tallies.{how_many}
use Rattle.journal.specs.Events.{Event, began, restarted, ticked, width_given}
use Rattle.journal.specs.Journal.{journal_of}

-- the verdicts since the last reset, or since the settings where none came, the last one first;
-- before these events there were the verdicts l
abbrev pub since_reset : List SafetyVerdict → List Event → List SafetyVerdict
since_reset l [] = l
since_reset l (began run ∷ es) = since_reset [] es
since_reset l (restarted run ∷ es) = since_reset [] es
since_reset l (ticked t ∷ es) = since_reset (t.verdict ∷ l) es
since_reset l (width_given run w ∷ es) = since_reset l es

-- of every list of bytes, for every table of kinds
abbrev pub JournalStopActions : Type 0
JournalStopActions =
    (kinds s : List ℕ) → (journal_of kinds s).left.run.rt.tally.stop_actions
    ≡ min (how_many stops_arm (since_reset [] (journal_of kinds s).events)) (2 ^ 32 - 1)
