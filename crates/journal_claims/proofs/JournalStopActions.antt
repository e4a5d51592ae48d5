-- `stopped` of every journal: the proof of specs/JournalStopActions. A tick moves the count where its
-- verdict stops the arm, and settings and a reset begin it anew.
use mathlib.Core.Path.{◌≡◌, refl, ◌∙◌}
use mathlib.Core.Bool.{Bool, true, false, cond}
use mathlib.Core.List.{List, [], ◌∷◌}
use Prim.Native.Nat.{ℕ, ◌+◌, ◌-◌, ◌^◌, min}
use native.Mathlib.Omega.{arith}
use lib.Dec.{eqb}
use lib.Ieee.{Float}
use Rattle.lictor_core.specs.declared.envelope.FuseConfig.{FuseConfig}
use Rattle.lictor_core.specs.declared.fuse.FuseRt.{FuseRt}
use Rattle.lictor_core.specs.declared.fuse.TickInput.{TickInput}
use Rattle.lictor_core.specs.declared.outcome.Outcome.{Outcome}
use Rattle.lictor_core.specs.declared.tally.Tally.{Tally}
use Rattle.lictor_core.specs.declared.verdict.SafetyVerdict.{SafetyVerdict}
use Rattle.lictor_core.specs.Initial.{empty_tally, new_of, reset_of}
use Rattle.lictor_guard.specs.Guard.{guard_of}
use Rattle.lictor_table.proofs.Lines.{by_test}
use Rattle.lictor_tally.specs.Tally.{count, stops_arm, record_of, record_chunk}
use Rattle.lictor_fuse.specs.declared.decide.Decided.{Decided}
use Rattle.lictor_fuse.specs.Decide.{decide_by, decide_of}
use Rattle.lictor_fuse.specs.CleanTick.{chunk_tally, close_clean, clean_tick}
use Rattle.lictor_fuse.specs.FaultTick.{close_fault, fault_tick}
use Rattle.lictor_fuse.specs.Closed.{closed_of}
use Rattle.claims.specs.Tallies.{how_many}
use Rattle.journal_reader.specs.Reading.{Instruction, begin, restart, tick, width}
use Rattle.journal.specs.declared.tick.Run.{Run}
use Rattle.journal.specs.Events.{begun_of, restarted_of, decided_of, ticked_of, run_after_all, report_of, events_from}
use Rattle.journal.specs.Journal.{start_run, journal_of}
use Rattle.journal_claims.specs.Instructions.{told_in}
use Rattle.journal_claims.specs.JournalStopActions.{since_reset, JournalStopActions}

-- ---- one tick

-- a chunk has no part in it
chunk_keeps : (b : Bool) (t : Tally) (trips : ℕ) → (chunk_tally b t trips).stop_actions ≡ t.stop_actions
unfolding chunk_tally record_chunk
chunk_keeps true t trips = refl
chunk_keeps false t trips = refl

module _ (cfg : FuseConfig) (rt : FuseRt) where
  abbrev Moves : Decided → Type 0
  Moves d = d.rt.tally.stop_actions ≡ count (stops_arm d.verdict) rt.tally.stop_actions

  tick_moves : (inp : TickInput) (out : Outcome) (pos vel aux ext chunk : List Float) → Moves (decide_of cfg rt inp out pos vel aux ext chunk)
  unfolding decide_of decide_by clean_tick close_clean fault_tick close_fault closed_of record_of
  tick_moves inp out pos vel aux ext chunk = by_test Moves (eqb (guard_of cfg rt.clock inp pos vel aux ext chunk) 0) _ _ (λ h. rw chunk_keeps refl) (λ h. refl)

-- ---- a list of instructions

-- the count is that of the verdicts l
abbrev Told : Run → List SafetyVerdict → Type 0
Told r l = r.rt.tally.stop_actions ≡ min (how_many stops_arm l) (2 ^ 32 - 1)

one_more : (b : Bool) (c n : ℕ) → c ≡ min n (2 ^ 32 - 1) → count b c ≡ min (cond b 1 0 + n) (2 ^ 32 - 1)
unfolding count
one_more true c n e = omega (arith, e)
one_more false c n e = omega (arith, e)

told_after : (r : Run) (is : List Instruction) (l : List SafetyVerdict) → Told r l → Told (run_after_all r is) (since_reset l (events_from r is))
unfolding begun_of restarted_of new_of reset_of empty_tally decided_of ticked_of report_of
told_after r [] l e = e
told_after r (begin s ∷ is) l e = told_after (begun_of s) is [] refl
told_after r (restart ∷ is) l e = told_after (restarted_of r) is [] refl
told_after r (width w ∷ is) l e = told_after r is l e
told_after r (tick c ∷ is) l e =
    told_after (ticked_of r (decided_of r c)) is ((decided_of r c).verdict ∷ l)
    (tick_moves r.config r.rt c.input c.outcome c.pos c.vel c.aux c.ext c.chunk
    ∙ one_more (stops_arm (decided_of r c).verdict) r.rt.tally.stop_actions (how_many stops_arm l) e)

-- ---- the claim

pub journal_stop_actions : JournalStopActions
unfolding journal_of told_in start_run begun_of new_of empty_tally
journal_stop_actions kinds s = told_after start_run (told_in kinds s) [] refl
