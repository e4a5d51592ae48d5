-- The end of the clock: the proofs of specs/ClockEnd.
use Rattle.std.proofs.lemmas.Bool.{or_right}
use mathlib.Core.Path.{◌≡◌, refl, ◌∙◌}
use mathlib.Core.Logic.{◌⊎◌, inl, inr}
use mathlib.Core.Bool.{Bool, true, false, not, ◌||◌}
use mathlib.Core.List.{List}
use Prim.Native.Nat.{ℕ, zero, suc, ◌+◌, ◌-◌, ◌≤◌, ◌<◌}
use native.Mathlib.Omega.{arith}
use borrow.Author.Tests.{ne_eqb, eqb-true, not-false}
use lib.Bits.{bit_or, or_zero_r}
use lib.Dec.{T, T_not, eqb}
use lib.Ieee.{Float}
use Rattle.lictor_core.specs.declared.envelope.FuseConfig.{FuseConfig}
use Rattle.lictor_core.specs.declared.fuse.Control.{Control}
use Rattle.lictor_core.specs.declared.fuse.FuseRt.{FuseRt}
use Rattle.lictor_core.specs.declared.state.FuseState.TheVariants.{Armed, Fault, Terminated}
use Rattle.lictor_core.specs.Initial.{reset_of}
use Rattle.lictor_core.specs.Num.{sat_up}
use Rattle.lictor_core.specs.Masks.{any_of, nonfinite, schema, watchdog, fault_bits}
use Rattle.lictor_settings.specs.Settings.{config_of}
use Rattle.lictor_guard.specs.Guard.{clock_bad, schema_bad, bit_if, guard_of}
use Rattle.lictor_core.specs.FirstThat.{first_that}
use Rattle.lictor_table.specs.declared.FsmInput.{FsmInput}
use Rattle.lictor_table.specs.Helpers.{settled_of}
use Rattle.lictor_table.specs.Table.{table, next_from, next_of}
use Rattle.lictor_fuse.specs.declared.decide.Decided.{Decided}
use Rattle.lictor_fuse.specs.declared.Ticked.{Ticked}
use Rattle.lictor_fuse.specs.CleanTick.{clean_clock, close_clean, clean_tick}
use Rattle.lictor_fuse.specs.FaultTick.{fault_motion, fault_input, fault_verdict, fault_clock, close_fault, fault_tick}
use Rattle.lictor_fuse.specs.Closed.{closed_of}
use Rattle.lictor_fuse.specs.Tick.{given_of}
use Rattle.claims.specs.Runs.{Step}
use Rattle.claims.specs.Calls.{Call, settings_pass, tick_answer, guard_bits, TickSeen, seen_of, step_of}
use Rattle.claims.specs.Demand3.{ends_in, begins, closes}
use Rattle.claims.specs.ClockEnd.{last_time, PastTheEnd, ClockEnds, ClockCloses}
use Rattle.claims.proofs.Runs.{Meets, runs, answered}
use Rattle.claims.proofs.Tick.{by_call, by_guard, by_step, decided, fault_turn, guard_faults}

-- past the end no t meets the sum
no_time : (seq last t missed : ℕ) → 0 < seq → t ≤ last_time → last_time < last + 1 + missed → clock_bad seq last t missed ≡ true
unfolding clock_bad
no_time seq last t missed p h k = rw (ne_eqb seq 0 (λ e. omega arith), ne_eqb (last + 1 + missed) t (λ e. omega arith)) refl

last_on : (a b : Bool) → a || (b || true) ≡ true
last_on a b = or_right a (b || true) (or_right b true refl)

-- SCHEMA stays, whatever comes beside it
schema_stays : (a d : Bool) → T (any_of (bit_or (bit_or (bit_if a nonfinite) (bit_if true schema)) (bit_if d watchdog)) schema)
unfolding any_of bit_if
schema_stays true true = tt
schema_stays true false = tt
schema_stays false true = tt
schema_stays false false = tt

-- a fault bit leads to Fault and adds none of its own
pub row_one : (cfg : FuseConfig) (rt : Control) (pos : List Float) (inp : FsmInput) → any_of inp.trips fault_bits ≡ true
    → ((next_of cfg rt pos inp).state ≡ Fault) × ((next_of cfg rt pos inp).extra ≡ 0)
unfolding next_of next_from settled_of first_that table
row_one cfg rt pos inp e = rw e (refl, refl)

-- whether the tick's t is not the one that the clock asks for
abbrev off_time : FuseRt → Call → Bool
off_time r c = clock_bad r.clock.seq r.clock.last_t c.input.t c.input.missed_ticks

module _ (r : FuseRt) (c : Call) (bad : off_time r c ≡ true) where
  finds : T (any_of (guard_bits r c) schema)
  unfolding guard_bits guard_of schema_bad
  finds = rw (bad, last_on) (schema_stays _ _)

  abbrev Faulted : Decided → Type 0
  Faulted d = T (any_of d.verdict.trips schema) × (d.verdict.state ≡ Fault)

  fault_tick_lem : any_of (guard_bits r c) fault_bits ≡ true → T (any_of (bit_or (guard_bits r c) (fault_turn r c).extra) schema) × ((fault_turn r c).state ≡ Fault)
  unfolding fault_input
  fault_tick_lem e =
      let t = row_one (config_of c.settings) r.control (fault_motion (config_of c.settings) r.motion c.pos).pos (fault_input (config_of c.settings) c.input (guard_bits r c)) e in
      (rw (t.1, or_zero_r) finds, t.0)

  some_bit : not (eqb (guard_bits r c) 0) ≡ true
  unfolding any_of
  some_bit = rw (ne_eqb (guard_bits r c) 0 (λ e. rw e at finds)) refl

  faults : Faulted (decided r c)
  unfolding fault_tick close_fault closed_of fault_verdict
  faults =
      by_guard (λ b (d : Decided). Faulted d) r c (λ z. absurd (T_not (eqb (guard_bits r c) 0) (rw some_bit tt) z))
      (λ z. fault_tick_lem (guard_faults r c ∙ some_bit))

pub past_the_end : PastTheEnd
unfolding given_of
past_the_end r c a p h k =
    let bad = no_time r.clock.seq r.clock.last_t c.input.t c.input.missed_ticks p h k in
    let f = faults r c bad in
    let d : (T (any_of (tick_answer r c).verdict.trips schema)) × ((tick_answer r c).verdict.state ≡ Fault) =
    by_call (λ (x : Ticked). T (any_of x.verdict.trips schema) × (x.verdict.state ≡ Fault)) r c (λ z. f) (λ z. absurd (T_not (settings_pass c) z a)) in
    record { guard = finds r c bad; trips = d.0; state = d.1 }

pub clock_ends : ClockEnds
clock_ends r c a p h e = past_the_end r c a p h (omega arith)

-- ---- the clock's end closes every stop

-- what is seen of the clock: seq, and the last t
abbrev Clocked : Type 0
Clocked = ℕ × ℕ

abbrev clock_of : FuseRt → Clocked
clock_of r = (r.clock.seq, r.clock.last_t)

-- a tick that is not the first has a later t than the one before it, or ends in Fault
record Moves (c : Clocked) (x : TickSeen) (c' : Clocked) : Type 0 where
  begun : 0 < c'.0
  within : c'.1 ≤ last_time
  moved : T (ends_in Fault x) ⊎ (0 < c.0 → c.1 < c'.1)

on_time : (seq last t missed : ℕ) → clock_bad seq last t missed ≡ false → 0 < seq → last < t
unfolding clock_bad
on_time seq last t missed e p =
    let d : not (eqb (last + 1 + missed) t) ≡ false = rw (ne_eqb seq 0 (λ z. omega arith)) at e in
    omega (arith, eqb-true (last + 1 + missed) t (not-false (eqb (last + 1 + missed) t) d))

module _ (r : FuseRt) (c : Call) (h : c.input.t ≤ last_time) where
  taken : ((decided r c).rt.clock.seq ≡ sat_up 32 r.clock.seq) × ((decided r c).rt.clock.last_t ≡ c.input.t)
  unfolding clean_tick close_clean clean_clock fault_tick close_fault fault_clock closed_of
  taken = by_guard (λ b (d : Decided). (d.rt.clock.seq ≡ sat_up 32 r.clock.seq) × (d.rt.clock.last_t ≡ c.input.t)) r c (λ z. (refl, refl)) (λ z. (refl, refl))

  moves : Moves (clock_of r) (seen_of r c (given_of (decided r c))) (clock_of (decided r c).rt)
  unfolding given_of
  moves = record {
    begun = rw taken.0 (omega arith);
    within = rw taken.1 h;
    moved = by_time (off_time r c) refl;
  }
    where
      by_time : (b : Bool) → off_time r c ≡ b → T (ends_in Fault (seen_of r c (given_of (decided r c)))) ⊎ (0 < r.clock.seq → r.clock.last_t < (decided r c).rt.clock.last_t)
      by_time true e = inl (rw (faults r c e).1 tt)
      by_time false e = inr (λ p. rw taken.1 (on_time r.clock.seq r.clock.last_t c.input.t c.input.missed_ticks e p))

-- how many ticks the clock has left, and one more before the first
abbrev left_in : ℕ → ℕ → ℕ
left_in zero t = last_time + 2
left_in (suc n) t = last_time + 1 - t

or_in : (a b c : Bool) → T b → T (a || (b || c))
or_in a b c h = grind arith

falls : (n t n' t' : ℕ) (x : TickSeen) → 0 < n' → t' ≤ last_time → T (ends_in Fault x) ⊎ (0 < n → t < t') → T (closes x) ⊎ ((0 < left_in n' t') × (left_in n' t' < left_in n t))
falls n t zero t' x p q m = absurd (omega arith)
falls zero t (suc n') t' x p q m = inr (omega arith, omega arith)
falls (suc n) t (suc n') t' x p q (inl f) = inl (or_in (ends_in Armed x) (ends_in Fault x) (ends_in Terminated x) f)
falls (suc n) t (suc n') t' x p q (inr l) = let k : t < t' = l (omega arith) in inr (omega arith, omega arith)

owes : (n t : ℕ) → 0 < n → t ≤ last_time → (0 < left_in n t) × (left_in n t ≤ last_time + 1)
owes zero t p q = absurd (omega arith)
owes (suc n) t p q = (omega arith, omega arith)

abbrev Clocks : FuseRt → Step FuseRt TickSeen → Type 0
Clocks = Meets (step_of seen_of) clock_of (λ r. Unit {0}) (λ c. c.input.t ≤ last_time) Moves

clock_meets : (r : FuseRt) (c : Call) → Unit {0} → c.input.t ≤ last_time → Clocks r (step_of seen_of r c)
clock_meets r c o h = by_step seen_of (λ r'. Clocks r) r c (λ z. (tt, moves r c h)) (λ z. (tt, refl))

pub clock_closes : ClockCloses
clock_closes r cs u =
    answered Moves (λ c. left_in c.0 c.1) (λ y. T (closes y)) (λ c x c' m p. falls c.0 c.1 c'.0 c'.1 x m.begun m.within m.moved)
    (λ x. T (begins x)) (last_time + 1) (λ c x c' m b. owes c'.0 c'.1 m.begun m.within)
    (runs (step_of seen_of) clock_of (λ r'. Unit {0}) (λ c. c.input.t ≤ last_time) Moves clock_meets cs u (reset_of r) tt)
