-- Demand 3 of journals: an episode's ticks are calls of `tick` under the journal's settings, from a
-- reset on, and the whole journal is a list of calls and resets from its settings on
-- (specs/JournalStops).
use Rattle.std.specs.Prelude.{Ok}
use mathlib.Core.Path.{◌≡◌, refl, sym, ap, subst, ◌∙◌}
use mathlib.Core.List.{List, [], ◌∷◌, ◌++◌, map}
use Prim.Native.Nat.{ℕ}
use native.Mathlib.Omega.{arith}
use lib.Dec.{T, T_not}
use Rattle.lictor_core.specs.declared.envelope.FuseConfig.{FuseConfig}
use Rattle.lictor_core.specs.declared.envelope.Settings.{Settings}
use Rattle.lictor_core.specs.declared.fuse.FuseRt.{FuseRt}
use Rattle.lictor_core.specs.Initial.{fresh_control, new_of, reset_of}
use Rattle.lictor_settings.specs.Settings.{check_of, config_of}
use Rattle.lictor_fuse.specs.Tick.{given_of}
use Rattle.claims.specs.Runs.{All, Step, and_then, course}
use Rattle.claims.specs.Calls as C
use Rattle.claims.specs.Calls.{Under, settings_pass, guard_bits, ticks_from, entry_step}
use Rattle.claims.specs.Demand3.{Sized, FromReset}
use Rattle.claims.proofs.Tick.{by_step}
use Rattle.claims.proofs.Demand3.{stops_from, faults_from, rearms_from, stops_close}
use Rattle.claims.proofs.Nonces.{acks_once}
use Rattle.journal_reader.specs.Reading.{Brought, Instruction, begin, restart, tick, width}
use Rattle.journal.specs.declared.tick.Run.{Run}
use Rattle.journal.specs.Events.{begun_of, restarted_of, decided_of, ticked_of, run_after, run_after_all, Event, began, restarted, ticked, width_given, report_of, event_of, events_from}
use Rattle.journal.specs.Journal.{start_run, journal_of}
use Rattle.journal.specs.Widths.{for_fuse, of_fuse}
use Rattle.journal.proofs.Events.{events_joined}
use Rattle.journal.proofs.Widths.{widths_idle}
use Rattle.journal_claims.specs.Instructions.{told_in, instructions_of}
use Rattle.journal_claims.specs.JournalStops.{Bytes, GoesOn, SettledBy, Episode, Opens, In, opened, call_under, calls_of, report_in, reports_from, EpisodeStops, entries_of, ticks_in, JournalAcks, EndsWith, StopsIn, with_settings, without, JournalStops}
use Rattle.journal_claims.proofs.Order.{Ordered, nothing, under, ordered, settled_by}
use Rattle.journal_claims.proofs.Episodes.{behind_settings}

-- the fuse's events of a journal are those of its instructions
events_are : (kinds s : List ℕ) → of_fuse (journal_of kinds s).events ≡ events_from start_run (instructions_of kinds s)
unfolding journal_of told_in
events_are kinds s = (widths_idle start_run (told_in kinds s)).events

-- where nothing is told there is none
no_events_lem : (kinds s : List ℕ) → told_in kinds s ≡ [] → (journal_of kinds s).events ≡ []
unfolding journal_of told_in
no_events_lem kinds s n = ap (events_from start_run) n

-- ---- the settings: resets and ticks keep the configuration

keeps_one : (r : Run) (i : Instruction) → GoesOn i → (run_after r i).config ≡ r.config
unfolding restarted_of ticked_of
keeps_one r (begin s) n = absurd n
keeps_one r restart n = refl
keeps_one r (tick c) n = refl
keeps_one r (width w) n = absurd n

keeps : (is : List Instruction) (i : Instruction) (js : List Instruction) (r : Run) → All GoesOn (is ++ (i ∷ js)) → (run_after (run_after_all r is) i).config ≡ r.config
keeps [] i js r n = keeps_one r i n.0
keeps (j ∷ is) i js r n = keeps is i js (run_after r j) n.1 ∙ keeps_one r j n.0

-- so every one after the settings has theirs
configured : (is : List Instruction) (i : Instruction) (js : List Instruction) (r : Run) (w : Settings) (rest : List Instruction)
    → is ++ (i ∷ js) ≡ begin w ∷ rest → All GoesOn rest → (run_after (run_after_all r is) i).config ≡ config_of w
unfolding begun_of
configured [] i js r w rest e n = let q : i ≡ begin w = cc in rw q refl
configured (j ∷ is) i js r w rest e n =
    let q : j ≡ begin w = cc in
    let p : is ++ (i ∷ js) ≡ rest = cc in
    keeps is i js (run_after r j) (subst (All GoesOn) (sym p) n) ∙ rw q refl

-- ---- the ticks of an episode as calls of `tick`

module _ (w : Settings) (k : check_of w ≡ Ok tt) where
  passes : (c : Brought) → T (settings_pass (call_under w c))
  passes c = rw k tt

  abbrev run_of : FuseRt → Run
  run_of r = record { config = config_of w; rt = r }

  ticks_reported : (cs : List Brought) (r : FuseRt) → events_from (run_of r) (map tick cs) ≡ reports_from r (map (call_under w) cs)
  unfolding report_of decided_of ticked_of given_of guard_bits
  ticks_reported [] r = refl
  ticks_reported (c ∷ cs) r =
      let d = decided_of (run_of r) c in
      by_step report_in
      (λ r' (x : Step FuseRt Event). events_from (run_of r) (map tick (c ∷ cs)) ≡ and_then x (λ (r'' : FuseRt). reports_from r'' (map (call_under w) cs))) r (call_under w c)
      (λ h. ap (λ (l : List Event). event_of (run_of r) (tick c) ∷ l) (ticks_reported cs d.rt))
      (λ h. absurd (T_not (settings_pass (call_under w c)) h (passes c)))

  -- and those of the whole journal after its settings, with the resets among them
  ticks_among_lem : (is : List Instruction) → All GoesOn is → (r : FuseRt) → ticks_in (events_from (run_of r) is) ≡ course (entry_step report_in) r (entries_of w is)
  unfolding report_of decided_of ticked_of restarted_of given_of guard_bits
  ticks_among_lem [] n r = refl
  ticks_among_lem (begin s ∷ is) n r = absurd n.0
  ticks_among_lem (restart ∷ is) n r = ticks_among_lem is n.1 (reset_of r)
  ticks_among_lem (width x ∷ is) n r = absurd n.0
  ticks_among_lem (tick c ∷ is) n r =
      let d = decided_of (run_of r) c in
      by_step report_in
      (λ r' (x : Step FuseRt Event). ticks_in (events_from (run_of r) (tick c ∷ is)) ≡ and_then x (λ (r'' : FuseRt). course (entry_step report_in) r'' (entries_of w is))) r (call_under w c)
      (λ h. ap (λ (l : List Event). event_of (run_of r) (tick c) ∷ l) (ticks_among_lem is n.1 d.rt))
      (λ h. absurd (T_not (settings_pass (call_under w c)) h (passes c)))

  all_under : (cs : List Brought) → All (Under w) (map (call_under w) cs)
  all_under [] = tt
  all_under (c ∷ cs) = (λ h. refl, all_under cs)

-- ---- demand 3 from an opening on: from a reset, and from `new` too

opened_stops : (w : Settings) → Sized w → (r : Run) (i : Instruction) → Opens i → (cs : List C.Call) → All (Under w) cs → FromReset w (ticks_from (run_after r i).rt cs)
unfolding begun_of restarted_of new_of fresh_control
opened_stops w z r (begin s) o cs u =
    record {
      stops = stops_from w z new_of cs u;
      faults = faults_from w z new_of cs u;
      rearms = omega (arith, rearms_from w z new_of cs u);
    }
opened_stops w z r restart o cs u = (stops_close w z).from_reset r.rt cs u
opened_stops w z r (tick c) o cs u = absurd o
opened_stops w z r (width x) o cs u = absurd o

-- ---- the claim

module _ (kinds s : List ℕ) (w : Settings) (b : SettledBy w (instructions_of kinds s)) (e : Episode) (n : In (instructions_of kinds s) e) where
  abbrev following : List Instruction
  following = map tick e.ticks ++ e.later

  config_is : (opened e).config ≡ config_of w
  config_is = configured e.before e.opening following start_run w b.rest (sym n.cut ∙ b.first) b.once

  episode_reported : events_from (opened e) (map tick e.ticks) ≡ reports_from (opened e).rt (calls_of w e)
  episode_reported =
      ap (λ (k : FuseConfig). events_from (record { config = k; rt = (opened e).rt }) (map tick e.ticks)) config_is
      ∙ ticks_reported w b.check e.ticks (opened e).rt

  abbrev so_far : Run
  so_far = run_after_all start_run e.before

  episode_stops : EpisodeStops kinds s w e
  episode_stops =
      record {
        events =
            events_are kinds s
            ∙ ap (events_from start_run) n.cut
            ∙ events_joined start_run e.before (e.opening ∷ following)
            ∙ ap (λ (l : List Event). events_from start_run e.before ++ (event_of so_far e.opening ∷ l))
            (events_joined (opened e) (map tick e.ticks) e.later
            ∙ ap (λ (l : List Event). l ++ events_from (run_after_all (opened e) (map tick e.ticks)) e.later) episode_reported);
        closes = opened_stops w b.sized (run_after_all start_run e.before) e.opening n.opens (calls_of w e) (all_under w b.check e.ticks);
      }

-- a width is no tick
ticks_of_fuse : (l : List Event) → ticks_in (of_fuse l) ≡ ticks_in l
ticks_of_fuse [] = refl
ticks_of_fuse (began r ∷ l) = ticks_of_fuse l
ticks_of_fuse (restarted r ∷ l) = ticks_of_fuse l
ticks_of_fuse (ticked t ∷ l) = ap (λ (m : List Event). ticked t ∷ m) (ticks_of_fuse l)
ticks_of_fuse (width_given r x ∷ l) = ticks_of_fuse l

module _ (kinds s : List ℕ) (w : Settings) (b : SettledBy w (instructions_of kinds s)) where
  abbrev answers_to : List Instruction → List Event
  answers_to is = course (entry_step report_in) new_of (entries_of w is)

  after_settings : ticks_in (events_from start_run (begin w ∷ b.rest)) ≡ answers_to (begin w ∷ b.rest)
  unfolding begun_of
  after_settings = ticks_among_lem w b.check b.rest b.once new_of

  journal_acks : JournalAcks kinds s w
  journal_acks =
      record {
        events =
            sym (ticks_of_fuse (journal_of kinds s).events)
            ∙ ap ticks_in (events_are kinds s)
            ∙ subst (λ (is : List Instruction). ticks_in (events_from start_run is) ≡ answers_to is) (sym b.first) after_settings;
        acks = acks_once.from_settings (entries_of w (instructions_of kinds s));
      }

tick_inside : (is before : List Instruction) (c : Brought) (later : List Instruction) (w : Settings) (rest : List Instruction)
    → is ≡ before ++ (tick c ∷ later) → is ≡ begin w ∷ rest → All GoesOn rest → EndsWith is c later
tick_inside is before c later w rest e f n =
    subst (λ (l : List Instruction). EndsWith l c later) (sym e) (behind_settings c later before w rest (sym e ∙ f) n)

by_order : (kinds s : List ℕ) → Bytes s → Ordered s (told_in kinds s) → StopsIn kinds s
by_order kinds s h (nothing n) = without (ap for_fuse n) (no_events_lem kinds s n)
by_order kinds s h (under w rest q c g) =
    let b = settled_by s h (told_in kinds s) w rest q c g in
    with_settings w (record {
      settings = b;
      every_tick = λ before c later e. tick_inside (instructions_of kinds s) before c later w b.rest e b.first b.once;
      every_episode = λ e n. episode_stops kinds s w b e n;
      acks_once = journal_acks kinds s w b;
    })

pub journal_stops : JournalStops
journal_stops kinds s h = by_order kinds s h (ordered kinds s)
