-- The limit of demand 3 is met: the proof of specs/Limit, tick by tick through the slowest stop.
use Rattle.std.proofs.Common.{None, Option}
use Rattle.lictor_core.specs.declared.ack.VerifiedAck.{VerifiedAck}
use mathlib.Core.Path.{◌≡◌, refl, sym, subst, subst₂}
use mathlib.Core.Bool.{Bool, true, false, not, ◌||◌}
use mathlib.Core.List.{List, [], ◌∷◌, ◌++◌}
use Prim.Native.Nat.{ℕ, zero, suc, ◌+◌, ◌-◌, ◌≤◌, ◌<◌}
use native.Mathlib.Omega.{arith}
use borrow.Author.Tests.{ne_eqb, eq-eqb, lt-leb, le-leb}
use lib.Dec.{T, T_not, not_T, eqb, eqb→eq}
use lib.Ieee.{Float, is_nan, lt, le, mul, add}
use lib.Ieee.Scale.{finite}
use lib.ListN.{length, take, set}
use Rattle.fmath.specs.Float.{all_finite, add_squares, norm_of}
use Rattle.fmath.specs.Root.{root_of}
use Rattle.lictor_core.specs.declared.envelope.FuseConfig.{FuseConfig}
use Rattle.lictor_core.specs.declared.envelope.Settings.{Settings}
use Rattle.lictor_core.specs.declared.fuse.Control.{Control}
use Rattle.lictor_core.specs.declared.fuse.FuseRt.{FuseRt}
use Rattle.lictor_core.specs.declared.state.FuseState.{FuseState}
use Rattle.lictor_core.specs.declared.state.FuseState.TheVariants.{Idle, Armed, Watching, Clamped, Braking, Held, Escalated, Fault, Terminated}
use Rattle.lictor_core.specs.Codes.{state_code, is_state, mode_of, rearm_of}
use Rattle.lictor_core.specs.Initial.{zero_float, one_float, zeros, fresh_control, fresh_motion, fresh_clock, reset_of}
use Rattle.lictor_core.specs.Masks.{any_of, fault_bits}
use Rattle.lictor_core.specs.Rows.{row_to, taken_row}
use Rattle.lictor_core.specs.FirstThat.{first_that}
use Rattle.lictor_settings.specs.Settings.{bad_code, bad_size, bad_float, any_below, crossed_of, bad_box, settings_table, check_of, config_of}
use Rattle.lictor_core.proofs.RowLaws.{row_length}
use Rattle.lictor_guard.specs.Delivery.{delivered_of, sizes_bad, place_bad, head_bad, delivery_bad}
use Rattle.lictor_guard.specs.Guard.{non_finite, lengths_of, shape_bad, clock_bad, schema_bad, bit_if, guard_of}
use Rattle.lictor_stages.specs.Ingest.{velocity_of, ingest_of}
use Rattle.lictor_stages.specs.Findings.{with_brake, masked_of, slow_of, standstill_of, findings_of, machine_input}
use Rattle.lictor_stages.specs.Verdict.{verdict_of}
use Rattle.lictor_table.specs.declared.FsmInput.{FsmInput}
use Rattle.lictor_table.specs.Helpers.{accepted_ack, settled_of, count_run}
use Rattle.lictor_table.specs.Rows.{confirmed_of, standstill_row, stopping_row, braking_of, brake_row, running_of, by_from, transition_of, next_by_rows}
use Rattle.lictor_table.specs.Table.{next_of}
use Rattle.lictor_table.proofs.ByTable.{tells}
use Rattle.lictor_table.proofs.Stops.{StopLaw, stop_law}
use Rattle.lictor_fuse.specs.declared.decide.Decided.{Decided}
use Rattle.lictor_fuse.specs.CleanTick.{ready_of, clean_clock, close_clean, clean_tick}
use Rattle.lictor_fuse.specs.Closed.{closed_of}
use Rattle.lictor_fuse.specs.Tick.{is_accepted, given_of}
use Rattle.claims.specs.Runs.{All, Any, here, later, First, Where, at, past, series, Step, silent, event, and_then, course}
use Rattle.claims.specs.Demand3.{begins, closes, limit, StopsWithin}
use Rattle.claims.specs.Calls.{TickSeen, Call, settings_pass, guard_bits, step_of, seen_of, ticks_from}
use Rattle.claims.specs.ClockEnd.{last_time}
use Rattle.claims.specs.Limit.{slow_settings, call_at, trips, moves, stands, slowest, Met, LimitMet}
use Rattle.claims.proofs.Demand3.{state_agrees}
use Rattle.claims.proofs.Tick.{by_step, by_guard, decided, found_of, clean_turn}

-- ---- the n-th of a list, and none before it

module _ {A : Type 0} (P : A → Type 0) where
  first_length : (n : ℕ) (l : List A) → First P (suc n) l → n ≤ length l
  first_length n [] f = absurd f
  first_length zero (x ∷ l) f = omega arith
  first_length (suc n) (x ∷ l) f = omega (arith, first_length n l f.1)

  -- none among the first n
  first_none : (n : ℕ) (l : List A) → First P (suc n) l → Any P (take n l) → ⊥
  first_none n [] f k = f
  first_none zero (x ∷ l) f k = elim k [ ]
  first_none (suc n) (x ∷ l) f (here p) = f.0 p
  first_none (suc n) (x ∷ l) f (later k) = first_none n l f.1 k

-- so the limit cannot be one less
one_less : (n : ℕ) (l : List TickSeen) → Where (λ x after. T (begins x) × First (λ y. T (closes y)) (suc n) after) l → StopsWithin n l → ⊥
one_less n [] w s = elim w [ ]
one_less n (x ∷ l) (at p) s = first_none (λ y. T (closes y)) n l p.1 (s.0 p.0 (first_length (λ y. T (closes y)) n l p.1))
one_less n (x ∷ l) (past w) s = one_less n l w s.1

-- ---- a stretch of calls, one for each count j and time i, with no answer on the way

module _ {R A K : Type 0} (step : R → K → Step R A) (P : A → Type 0) where
  -- the step gives an event that is no answer, and leaves a state that meets Q
  abbrev Quiet : (R → Type 0) → Step R A → Type 0
  Quiet Q (silent r) = ⊥
  Quiet Q (event x r) = (¬ P x) × Q r

  one : (Q : R → Type 0) (m : ℕ) (s : Step R A) (k : R → List A) → Quiet Q s → ((r : R) → Q r → First P (suc m) (k r)) → First P (suc (suc m)) (and_then s k)
  one Q m (silent r) k q f = absurd q
  one Q m (event x r) k q f = (q.0, f r q.1)

  through : (I : ℕ → ℕ → R → Type 0) (call : ℕ → K) (ks : List K) (m top last : ℕ)
      → ((j i t : ℕ) (r : R) → t ≡ suc i → I j i r → j < top → Quiet (I (suc j) (suc i)) (step r (call t)))
      → ((r : R) → I top last r → First P (suc m) (course step r ks))
      → (n j i t : ℕ) → j + n ≡ top → i + n ≡ last → t ≡ suc i → (r : R) → I j i r → First P (suc (n + m)) (course step r (series call t n ++ ks))
  through I call ks m top last law after zero j i t p q u r h =
      let e : j ≡ top = omega arith in
      let d : i ≡ last = omega arith in
      let z : m ≡ 0 + m = omega arith in
      subst (λ (k : ℕ). First P (suc k) (course step r ks)) z (after r (subst₂ (λ (j i : ℕ). I j i r) e d h))
  through I call ks m top last law after (suc n) j i t p q u r h =
      let z : suc (n + m) ≡ suc n + m = omega arith in
      subst (λ (k : ℕ). First P (suc k) (course step r (call t ∷ (series call (suc t) n ++ ks)))) z
      (one (I (suc j) (suc i)) (n + m) (step r (call t)) (λ r'. course step r' (series call (suc t) n ++ ks)) (law j i t r u h (omega arith))
      (λ r' h'. through I call ks m top last law after n (suc j) (suc i) (suc t) (omega arith) (omega arith) (omega arith) r' h'))

-- ---- the state machine in Braking, with no fault bit

module _ (cfg : FuseConfig) (rt : Control) (pos : List Float) (inp : FsmInput) (none : any_of inp.trips fault_bits ≡ false) where
  braking_rows : (q : FuseState) (clean : Bool) (ack : Option VerifiedAck) (r : Control) → T (is_state Braking q) → transition_of cfg r pos q clean ack inp ≡ braking_of cfg r pos inp
  unfolding transition_of by_from
  braking_rows Idle clean ack r h = absurd h
  braking_rows Armed clean ack r h = absurd h
  braking_rows Watching clean ack r h = absurd h
  braking_rows Clamped clean ack r h = absurd h
  braking_rows Braking clean ack r h = rw none refl
  braking_rows Held clean ack r h = absurd h
  braking_rows Escalated clean ack r h = absurd h
  braking_rows Fault clean ack r h = absurd h
  braking_rows Terminated clean ack r h = absurd h

  -- what moves goes on braking
  moving : T (is_state Braking rt.state) → rt.brake_ticks < cfg.hyst.brake_timeout_ticks → inp.stopped ≡ false → (next_of cfg rt pos inp).state ≡ Braking
  unfolding next_by_rows settled_of count_run braking_of confirmed_of stopping_row
  moving h k m = rw (← tells cfg rt pos inp, braking_rows rt.state _ _ _ h, lt-leb _ _ k, m) refl

  -- an arm that stands still is held at once, where one tick confirms it
  standing : T (is_state Braking rt.state) → rt.brake_ticks < cfg.hyst.brake_timeout_ticks → cfg.hyst.stop_confirm_ticks ≡ 1 → inp.stopped ≡ true
      → (next_of cfg rt pos inp).state ≡ Held
  unfolding next_by_rows settled_of count_run braking_of confirmed_of standstill_row
  standing h k c m = rw (← tells cfg rt pos inp, braking_rows rt.state _ _ _ h, lt-leb _ _ k, m, c, le-leb 1 (rt.stopped_ticks + 1) (omega arith)) refl

-- ---- what a tick of the stop needs of the run state: a chunk was taken, the clock is at i, the
-- velocity has a first component

record Running (i : ℕ) (r : FuseRt) : Type 0 where
  filled : r.clock.filled ≡ true
  begun : 0 < r.clock.seq
  time : r.clock.last_t ≡ i
  room : 0 < length r.motion.vel

-- ---- whether the arm stands still

take_one : (l : List Float) (v : Float) → 0 < length l → take 1 (set l 0 v) ≡ v ∷ []
take_one [] v h = absurd (omega arith)
take_one (x ∷ l) v h = refl

module _ (b h e i : ℕ) (r : FuseRt) (o : Running i r) where
  moves_on : (found_of r (moves (slow_settings b h e) (suc i))).stopped ≡ false
  unfolding findings_of standstill_of slow_of norm_of add_squares root_of ingest_of velocity_of taken_row row_to config_of mode_of add mul le
  moves_on = rw (take_one r.motion.vel one_float o.room) refl

  stands_still : (found_of r (stands (slow_settings b h e) (suc i))).stopped ≡ true
  unfolding findings_of standstill_of slow_of norm_of add_squares root_of ingest_of velocity_of taken_row row_to config_of mode_of add mul le
  stands_still = rw (take_one r.motion.vel zero_float o.room) refl

-- ---- the words of the stop

abbrev Closes : TickSeen → Type 0
Closes x = T (closes x)

-- the stop is open
abbrev is_open : FuseState → Bool
is_open q = is_state Braking q || (is_state Held q || is_state Escalated q)

not_closed : (q : FuseState) → T (is_open q) → ¬ T (is_state Armed q || (is_state Fault q || is_state Terminated q))
not_closed Idle h k = h
not_closed Armed h k = h
not_closed Watching h k = h
not_closed Clamped h k = h
not_closed Braking h k = k
not_closed Held h k = k
not_closed Escalated h k = k
not_closed Fault h k = h
not_closed Terminated h k = h

terminated_closes : (q : FuseState) → T (is_state Terminated q) → T (is_state Armed q || (is_state Fault q || is_state Terminated q))
terminated_closes q h = subst (λ (n : ℕ). T (eqb 1 n || (eqb 7 n || eqb 8 n))) (eqb→eq 8 (state_code q) h) tt

open_as : (q p : FuseState) → T (is_open q) → T (is_state q p) → T (is_open p)
open_as q p h k = subst (λ (n : ℕ). T (eqb 4 n || (eqb 5 n || eqb 6 n))) (eqb→eq (state_code q) (state_code p) k) h

-- the step gives a tick that does not close the stop, and leaves a run state that meets Q
abbrev Leads : (FuseRt → Type 0) → FuseRt → Call → Type 0
Leads Q r c = Quiet (step_of seen_of) Closes Q (step_of seen_of r c)

-- the state is q, its count is n, and the clock is at i
record At (q : FuseState) (count : Control → ℕ) (n i : ℕ) (r : FuseRt) : Type 0 where
  state : T (is_state q r.control.state)
  counted : count r.control ≡ n
  running : Running i r

passes : (b h e : ℕ) → T (is_accepted (check_of (slow_settings b h e)))
unfolding check_of first_that settings_table bad_code bad_size bad_float bad_box crossed_of any_below all_finite is_nan lt zeros
passes b h e = tt

-- ---- one tick of the stop, whatever its velocity

module _ (b h e i : ℕ) (v : Float) (fine : finite v ≡ true) (r : FuseRt) (o : Running i r) where
  abbrev cfg : FuseConfig
  cfg = config_of (slow_settings b h e)

  abbrev tick : Call
  tick = call_at (slow_settings b h e) (suc i) v true None []

  -- the guard finds nothing
  no_bits : guard_bits r tick ≡ 0
  unfolding guard_bits guard_of non_finite lengths_of shape_bad delivery_bad clock_bad schema_bad bit_if delivered_of all_finite config_of
  no_bits =
      rw (fine, o.filled, ne_eqb r.clock.seq 0 (λ e. let k = o.begun in omega arith), o.time, eq-eqb (i + 1 + 0) (suc i) (omega arith)) refl

  -- so the tick is clean
  by_clean : (P : Decided → Type 0) → P (clean_tick cfg r tick.input tick.outcome tick.pos tick.vel) → P (decided r tick)
  by_clean P p = by_guard (λ clean (d : Decided). P d) r tick (λ z. p) (λ z. absurd (T_not (eqb (guard_bits r tick) 0) z (rw no_bits tt)))

  runs_on : Running (suc i) (decided r tick).rt
  unfolding clean_tick close_clean closed_of clean_clock ingest_of velocity_of taken_row config_of
  runs_on = by_clean (λ (d : Decided). Running (suc i) d.rt) (record { filled = rw o.filled refl; begun = omega arith; time = refl; room = rw row_length o.room })

  -- no fault bit comes, and no acknowledgement
  law : StopLaw cfg r.control.state false None (ready_of r.control (found_of r tick)) (clean_turn r tick)
  unfolding ready_of machine_input findings_of masked_of with_brake any_of accepted_ack config_of
  law = stop_law cfg (ready_of r.control (found_of r tick)) _ (machine_input cfg tick.input (found_of r tick))

  -- the tick ends as the machine says
  ended : ((decided r tick).verdict.state ≡ (clean_turn r tick).state) × ((decided r tick).rt.control ≡ (clean_turn r tick).rt)
  unfolding clean_tick close_clean closed_of verdict_of
  ended = by_clean (λ (d : Decided). (d.verdict.state ≡ (clean_turn r tick).state) × (d.rt.control ≡ (clean_turn r tick).rt)) (refl, refl)

  next_at : (q : FuseState) (count : Control → ℕ) (n : ℕ) → T (is_state q (clean_turn r tick).state) → count (clean_turn r tick).rt ≡ n → At q count n (suc i) (decided r tick).rt
  next_at q count n p k =
      record {
        state = rw ended.1 (rw (state_agrees cfg (ready_of r.control (found_of r tick)) _ (machine_input cfg tick.input (found_of r tick))) p);
        counted = rw ended.1 k;
        running = runs_on;
      }

  -- so to a state of an open stop: the stop stays open
  leads : (q : FuseState) (count : Control → ℕ) (n : ℕ) → T (is_open q) → T (is_state q (clean_turn r tick).state) → count (clean_turn r tick).rt ≡ n
      → Leads (At q count n (suc i)) r tick
  unfolding given_of
  leads q count n k p c =
      by_step seen_of (λ r' (s : Step FuseRt TickSeen). Quiet (step_of seen_of) Closes (At q count n (suc i)) s) r tick
      (λ a. (not_closed (decided r tick).verdict.state (rw ended.0 (open_as q (clean_turn r tick).state k p)), next_at q count n p c))
      (λ f. absurd (T_not (is_accepted (check_of (slow_settings b h e))) f (passes b h e)))

-- ---- the six kinds of tick in it

-- of two states that it may be, the one that it is
or_left : (a b : Bool) → T (a || b) → (T b → ⊥) → T a
or_left a b h n = grind arith

or_right : (a b : Bool) → T (a || b) → (T a → ⊥) → T b
or_right a b h n = grind arith

abbrev brake : Control → ℕ
brake c = c.brake_ticks

abbrev held : Control → ℕ
held c = c.held_ticks

abbrev wait : Control → ℕ
wait c = c.escalated_ticks

module _ (b h e : ℕ) (small : b ≤ 65535) (short : h ≤ 65535) (fits : e ≤ 4294967295) (n i : ℕ) (r : FuseRt) where
  abbrev st : Settings
  st = slow_settings b h e

  brakes_on : At Braking brake n i r → n < b → Leads (At Braking brake (suc n) (suc i)) r (moves st (suc i))
  unfolding ready_of machine_input findings_of masked_of with_brake any_of config_of
  brakes_on a k =
      let c = moves st (suc i) in
      let o = a.running in
      let l = law b h e i one_float refl r o in
      let f : r.control.brake_ticks < b = omega (arith, a.counted) in
      let m : (clean_turn r c).state ≡ Braking = moving (config_of st) (ready_of r.control (found_of r c)) _ (machine_input (config_of st) c.input (found_of r c)) refl a.state f (moves_on b h e i r o) in
      let t : T (is_state Braking (clean_turn r c).state) = rw m tt in
      leads b h e i one_float refl r o Braking brake (suc n) tt t (omega (arith, l.brake_counts t a.state, a.counted))

  stops : At Braking brake n i r → n < b → Leads (At Held held 0 (suc i)) r (stands st (suc i))
  unfolding ready_of machine_input findings_of masked_of with_brake any_of config_of
  stops a k =
      let c = stands st (suc i) in
      let o = a.running in
      let l = law b h e i zero_float refl r o in
      let f : r.control.brake_ticks < b = omega (arith, a.counted) in
      let m : (clean_turn r c).state ≡ Held = standing (config_of st) (ready_of r.control (found_of r c)) _ (machine_input (config_of st) c.input (found_of r c)) refl a.state f refl (stands_still b h e i r o) in
      let t : T (is_state Held (clean_turn r c).state) = rw m tt in
      let x : T (not (is_state Held r.control.state)) = not_T (is_state Held r.control.state) (λ y. let z = a.state in omega (arith, eqb→eq)) in
      leads b h e i zero_float refl r o Held held 0 tt t (l.hold_begins t x)

  -- where the tick ends, the arm standing
  abbrev end : FuseState
  end = (clean_turn r (stands st (suc i))).state

  -- with no acknowledgement and no fault bit, under AckOnly
  held_to : At Held held n i r → T (is_state Held end || is_state Escalated end)
  unfolding config_of rearm_of
  held_to a = (law b h e i zero_float refl r a.running).held_calm a.state tt tt refl

  holds : At Held held n i r → n < h → Leads (At Held held (suc n) (suc i)) r (stands st (suc i))
  unfolding ready_of config_of
  holds a k =
      let l = law b h e i zero_float refl r a.running in
      let t = or_left (is_state Held end) (is_state Escalated end) (held_to a) (λ x. omega (arith, l.escalates x a.state, a.counted)) in
      leads b h e i zero_float refl r a.running Held held (suc n) tt t (omega (arith, l.hold_counts t a.state, a.counted))

  escalates : At Held held n i r → h ≤ n → Leads (At Escalated wait 0 (suc i)) r (stands st (suc i))
  unfolding ready_of config_of
  escalates a k =
      let l = law b h e i zero_float refl r a.running in
      let t = or_right (is_state Held end) (is_state Escalated end) (held_to a) (λ x. omega (arith, l.hold_counts x a.state, a.counted)) in
      leads b h e i zero_float refl r a.running Escalated wait 0 tt t (l.escalates t a.state).1

  waits : At Escalated wait n i r → n < e → Leads (At Escalated wait (suc n) (suc i)) r (stands st (suc i))
  unfolding ready_of config_of
  waits a k =
      let l = law b h e i zero_float refl r a.running in
      let t = or_left (is_state Escalated end) (is_state Terminated end) (l.wait_calm a.state tt tt) (λ x. omega (arith, l.wait_ends a.state x tt, a.counted)) in
      leads b h e i zero_float refl r a.running Escalated wait (suc n) tt t (omega (arith, l.wait_counts t a.state, a.counted))

  -- the last one
  ends : At Escalated wait n i r → e ≤ n → First Closes 1 (ticks_from r (stands st (suc i) ∷ []))
  unfolding ready_of config_of given_of
  ends a k =
      let l = law b h e i zero_float refl r a.running in
      let t = or_right (is_state Escalated end) (is_state Terminated end) (l.wait_calm a.state tt tt) (λ x. omega (arith, l.wait_counts x a.state, a.counted)) in
      by_step seen_of (λ r' (s : Step FuseRt TickSeen). First Closes 1 (and_then s (λ r''. ticks_from r'' []))) r (stands st (suc i))
      (λ z. rw (ended b h e i zero_float refl r a.running).0 (terminated_closes end t))
      (λ z. absurd (T_not (is_accepted (check_of (slow_settings b h e))) z (passes b h e)))

-- ---- the whole stop, from its end

module _ (b h e : ℕ) (least : 1 ≤ b) (small : b ≤ 65535) (short : h ≤ 65535) (fits : b + h + e + 2 ≤ last_time) where
  abbrev slow : Settings
  slow = slow_settings b h e

  long : e ≤ 4294967295
  long = omega arith

  -- a call at t, where the clock is before it
  standing_at : (Q : FuseRt → Type 0) (r : FuseRt) {t i : ℕ} → t ≡ suc i → Leads Q r (stands slow (suc i)) → Leads Q r (stands slow t)
  standing_at Q r u l = subst (λ (t : ℕ). Leads Q r (stands slow t)) (sym u) l

  moving_at : (Q : FuseRt → Type 0) (r : FuseRt) {t i : ℕ} → t ≡ suc i → Leads Q r (moves slow (suc i)) → Leads Q r (moves slow t)
  moving_at Q r u l = subst (λ (t : ℕ). Leads Q r (moves slow t)) (sym u) l

  abbrev in_escalated : List Call
  in_escalated = series (stands slow) (b + h + 2) e ++ (stands slow (b + h + e + 2) ∷ [])

  abbrev in_held : List Call
  in_held = series (stands slow) (b + 1) h ++ (stands slow (b + h + 1) ∷ in_escalated)

  abbrev in_braking : List Call
  in_braking = series (moves slow) 1 (b - 1) ++ (stands slow b ∷ in_held)

  escalated_on : (r : FuseRt) → At Escalated wait 0 (b + h + 1) r → First Closes (suc (e + 0)) (ticks_from r in_escalated)
  escalated_on r a =
      through (step_of seen_of) Closes (At Escalated wait) (stands slow) (stands slow (b + h + e + 2) ∷ []) 0 e (b + h + 1 + e)
      (λ j i t r u g k. standing_at (At Escalated wait (suc j) (suc i)) r u (waits b h e small short long j i r g k))
      (λ r g.
      let u : suc (b + h + 1 + e) ≡ b + h + e + 2 = omega arith in
      subst (λ (t : ℕ). First Closes 1 (ticks_from r (stands slow t ∷ []))) u (ends b h e small short long e (b + h + 1 + e) r g (omega arith)))
      e 0 (b + h + 1) (b + h + 2) (omega arith) refl (omega arith) r a

  held_ends : (r : FuseRt) → At Held held h (b + h) r → First Closes (suc (suc (e + 0))) (ticks_from r (stands slow (b + h + 1) ∷ in_escalated))
  held_ends r a =
      let u : b + h + 1 ≡ suc (b + h) = omega arith in
      one (step_of seen_of) Closes (At Escalated wait 0 (b + h + 1)) (e + 0) (step_of seen_of r (stands slow (b + h + 1))) (λ r'. ticks_from r' in_escalated)
      (rw (u) (escalates b h e small short long h (b + h) r a (omega arith))) escalated_on

  held_on : (r : FuseRt) → At Held held 0 b r → First Closes (suc (h + suc (e + 0))) (ticks_from r in_held)
  held_on r a =
      through (step_of seen_of) Closes (At Held held) (stands slow) (stands slow (b + h + 1) ∷ in_escalated) (suc (e + 0)) h (b + h)
      (λ j i t r u g k. standing_at (At Held held (suc j) (suc i)) r u (holds b h e small short long j i r g k))
      held_ends h 0 b (b + 1) (omega arith) refl (omega arith) r a

  braking_ends : (r : FuseRt) → At Braking brake (b - 1) (b - 1) r → First Closes (suc (suc (h + suc (e + 0)))) (ticks_from r (stands slow b ∷ in_held))
  braking_ends r a =
      let u : b ≡ suc (b - 1) = omega arith in
      one (step_of seen_of) Closes (At Held held 0 b) (h + suc (e + 0)) (step_of seen_of r (stands slow b)) (λ r'. ticks_from r' in_held)
      (subst (λ (t : ℕ). Leads (At Held held 0 t) r (stands slow t)) (sym u) (stops b h e small short long (b - 1) (b - 1) r a (omega arith))) held_on

  braking_on : (r : FuseRt) → At Braking brake 0 0 r → First Closes (suc (b - 1 + suc (h + suc (e + 0)))) (ticks_from r in_braking)
  braking_on r a =
      through (step_of seen_of) Closes (At Braking brake) (moves slow) (stands slow b ∷ in_held) (suc (h + suc (e + 0))) (b - 1) (b - 1)
      (λ j i t r u g k. moving_at (At Braking brake (suc j) (suc i)) r u (brakes_on b h e small short long j i r g (omega arith)))
      braking_ends (b - 1) 0 0 1 (omega arith) (omega arith) (omega arith) r a

  -- ---- the first tick

  module _ (r : FuseRt) where
    abbrev start : FuseRt
    start = reset_of r

    clean_start : guard_bits start (trips slow) ≡ 0
    unfolding guard_bits guard_of non_finite lengths_of shape_bad delivery_bad head_bad sizes_bad place_bad clock_bad schema_bad bit_if delivered_of all_finite config_of reset_of fresh_clock
    clean_start = refl

    -- an infeasible brake
    begun_turn : (clean_turn start (trips slow)).state ≡ Braking
    unfolding next_by_rows settled_of transition_of by_from running_of brake_row ready_of machine_input findings_of masked_of with_brake any_of reset_of fresh_control config_of
    begun_turn = rw (← tells (config_of slow) (ready_of start.control (found_of start (trips slow))) _ (machine_input (config_of slow) (trips slow).input (found_of start (trips slow)))) refl

    begun_law : StopLaw (config_of slow) Armed false None (ready_of start.control (found_of start (trips slow))) (clean_turn start (trips slow))
    unfolding ready_of machine_input findings_of masked_of with_brake any_of accepted_ack config_of reset_of fresh_control
    begun_law = stop_law (config_of slow) (ready_of start.control (found_of start (trips slow))) _ (machine_input (config_of slow) (trips slow).input (found_of start (trips slow)))

    abbrev Begun : Decided → Type 0
    Begun d = (d.verdict.state ≡ Braking) × At Braking brake 0 0 d.rt

    begun : Begun (decided start (trips slow))
    unfolding clean_tick close_clean closed_of verdict_of clean_clock delivered_of reset_of fresh_motion fresh_clock ingest_of velocity_of taken_row config_of zeros
    begun =
        let t : T (is_state Braking (clean_turn start (trips slow)).state) = rw begun_turn tt in
        by_guard (λ clean (d : Decided). Begun d) start (trips slow)
        (λ z. (
          begun_turn,
          record {
            state = rw (state_agrees (config_of slow) (ready_of start.control (found_of start (trips slow))) _ (machine_input (config_of slow) (trips slow).input (found_of start (trips slow)))) t;
            counted = begun_law.brake_begins t tt;
            running = record { filled = refl; begun = omega arith; time = refl; room = rw row_length (omega arith) };
          },
        ))
        (λ z. absurd (T_not (eqb (guard_bits start (trips slow)) 0) z (rw clean_start tt)))

    exact : Where (λ x after. T (begins x) × First Closes (limit slow) after) (ticks_from start (slowest b h e))
    unfolding given_of reset_of fresh_control
    exact =
        let n : suc (b - 1 + suc (h + suc (e + 0))) ≡ limit slow = omega arith in
        by_step seen_of (λ r' (s : Step FuseRt TickSeen). Where (λ x after. T (begins x) × First Closes (limit slow) after) (and_then s (λ r''. ticks_from r'' in_braking))) start (trips slow)
        (λ z. at (
          rw begun.0 tt,
          subst (λ (k : ℕ). First Closes k (ticks_from (decided start (trips slow)).rt in_braking)) n (braking_on (decided start (trips slow)).rt begun.1),
        ))
        (λ z. absurd (T_not (is_accepted (check_of slow)) z (passes b h e)))

    -- ---- the claim

    -- what holds of the calls one by one
    each_stands : (P : Call → Type 0) (call : ℕ → Call) (n i top : ℕ) (rest : List Call) → i + n ≤ top → ((t : ℕ) → t ≤ top → P (call t)) → All P rest → All P (series call i n ++ rest)
    each_stands P call zero i top rest k f p = p
    each_stands P call (suc n) i top rest k f p = (f i (omega arith), each_stands P call n (suc i) top rest (omega arith) f p)

    every_call : (P : Call → Type 0) → P (trips slow) → ((t : ℕ) → t ≤ last_time → P (moves slow t)) → ((t : ℕ) → t ≤ last_time → P (stands slow t)) → All P (slowest b h e)
    every_call P f g k = (
      f,
      each_stands P (moves slow) (b - 1) 1 last_time (stands slow b ∷ in_held) (omega arith) g (
        k b (omega arith),
        each_stands P (stands slow) h (b + 1) last_time (stands slow (b + h + 1) ∷ in_escalated) (omega arith) k (
          k (b + h + 1) (omega arith),
          each_stands P (stands slow) e (b + h + 2) last_time (stands slow (b + h + e + 2) ∷ []) (omega arith) k
              (k (b + h + e + 2) fits, tt),
        ),
      ),
    )

    tight : Where (λ x after. T (begins x) × First Closes (limit slow) after) (ticks_from start (slowest b h e)) → ¬ StopsWithin (limit slow - 1) (ticks_from start (slowest b h e))
    tight w u = one_less (limit slow - 1) (ticks_from start (slowest b h e))
        (let n : limit slow ≡ suc (limit slow - 1) = omega arith in subst (λ (k : ℕ). Where (λ x after. T (begins x) × First Closes k after) (ticks_from start (slowest b h e))) n w) u

    met : Met r slow (slowest b h e)
    met =
        record {
          sized = record { brake = small; hold = short; handoff = long; rearms = omega arith };
          under = every_call (λ c. T (settings_pass c) × (c.settings ≡ slow)) (passes b h e, refl) (λ t k. (passes b h e, refl)) (λ t k. (passes b h e, refl));
          times = every_call (λ c. c.input.t ≤ last_time) (omega arith) (λ t k. k) (λ t k. k);
          exact = exact;
          tight = tight exact;
        }

pub limit_met : LimitMet
limit_met b h e least small short fits r = met b h e least small short fits r
