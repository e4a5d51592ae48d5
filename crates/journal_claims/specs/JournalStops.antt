-- Demand 3 of journals: in every journal the ticks from a reset to the next, or to the end, stop
-- close, under the journal's one settings record; and no acknowledgement is consumed twice in the
-- whole of it, whatever resets it has.
-- The claim is at the end of this file, and is proved in proofs/JournalStops, `journal_stops`.
-- Of other files it names: demand 3 of a list of calls of `tick` (claims, specs/Demand3, with Calls
-- and Runs); the meaning of a journal (journal, specs/Journal, journal_of, and specs/Events), of which
-- the fuse's events (specs/Widths, of_fuse); its instructions (Instructions). (00-demands.md, Demand
-- 3; 01-scope.md, The list in demand 3 and Journal; 02-change-requests.md, Ask 6.)
use Rattle.std.specs.Prelude.{List, [], ◌∷◌, ◌++◌, map, ◌≡◌, ℕ, ◌<◌, Ok}
use Rattle.lictor_core.specs.declared.envelope.Settings.{Settings}
use Rattle.lictor_core.specs.declared.fuse.FuseRt.{FuseRt}
use Rattle.lictor_core.specs.Initial.{new_of}
use Rattle.lictor_settings.specs.Settings.{check_of, config_of}
use Rattle.lictor_fuse.specs.declared.Ticked.{Ticked}
use Rattle.claims.specs.Runs.{All, course}
use Rattle.claims.specs.Calls as C
use Rattle.claims.specs.Calls.{guard_bits, step_of, ticks_from, Entry, of_tick, of_reset, entry_step, ticks_among}
use Rattle.claims.specs.Demand3.{Sized, Acks, FromReset}
use Rattle.journal_reader.specs.Reading.{Brought, Instruction, begin, restart, tick, width}
use Rattle.journal.specs.declared.tick.Run.{Run}
use Rattle.journal.specs.Events.{run_after, run_after_all, Event, began, restarted, ticked, width_given, event_of, events_from}
use Rattle.journal.specs.Journal.{start_run, journal_of}
use Rattle.journal.specs.Widths.{of_fuse}
use Rattle.journal_claims.specs.Instructions.{instructions_of}

-- a definition has whole numbers without bounds; the elements of a journal are bytes
abbrev pub Bytes : List ℕ → Type 0
Bytes s = All (λ b. b < 256) s

-- ---- the settings of a journal

-- a reset or a tick
abbrev pub GoesOn : Instruction → Type 0
GoesOn (begin s) = ⊥
GoesOn restart = Unit {0}
GoesOn (tick c) = Unit {0}
GoesOn (width w) = ⊥

-- the instructions `is` are under w: it comes first, it passed the check, and after it come resets
-- and ticks alone; each limit of w is a number that its field can hold
pub record SettledBy (w : Settings) (is : List Instruction) : Type 0 where
  pub rest : List Instruction
  pub first : is ≡ begin w ∷ rest
  pub once : All GoesOn rest
  pub check : check_of w ≡ Ok tt
  pub sized : Sized w

-- ---- an episode

-- what came before; the reset, or the settings, that it opens with;
-- its ticks, all up to the next reset or the first of them; what comes after these
pub record Episode : Type 0 where
  pub before : List Instruction
  pub opening : Instruction
  pub ticks : List Brought
  pub later : List Instruction

abbrev pub Opens : Instruction → Type 0
Opens (begin s) = Unit {0}
Opens restart = Unit {0}
Opens (tick c) = ⊥
Opens (width w) = ⊥

-- e is an episode of `is`
pub record In (is : List Instruction) (e : Episode) : Type 0 where
  pub opens : Opens e.opening
  pub cut : is ≡ e.before ++ (e.opening ∷ (map tick e.ticks ++ e.later))

-- the fuse that its first tick gets: of the run state before, what `reset` leaves;
-- after settings, that of `new` (journal, specs/Events, run_after)
abbrev pub opened : Episode → Run
opened e = run_after (run_after_all start_run e.before) e.opening

-- a tick of a journal as a call of `tick`, with the settings w
abbrev pub call_under : Settings → Brought → C.Call
call_under w c =
    record {
      settings = w;
      input = c.input;
      outcome = c.outcome;
      pos = c.pos;
      vel = c.vel;
      aux = c.aux;
      ext = c.ext;
      chunk = c.chunk;
    }

abbrev pub calls_of : Settings → Episode → List C.Call
calls_of w e = map (call_under w) e.ticks

-- The event of a call of `tick` on the run state r, which was answered a: what the call brings, the
-- bits that the guard finds, and of the answer the verdict and the run state.
abbrev pub report_in : FuseRt → C.Call → Ticked → Event
report_in r c a =
    ticked (record {
      input = c.input;
      pos = c.pos;
      guard = guard_bits r c;
      verdict = a.verdict;
      run = record { config = config_of c.settings; rt = a.rt };
    })

-- the events of a list of calls, in order (ticks_from has the same ticks by what is seen of each)
abbrev pub reports_from : FuseRt → List C.Call → List Event
reports_from r cs = course (step_of report_in) r cs

pub record EpisodeStops (kinds s : List ℕ) (w : Settings) (e : Episode) : Type 0 where
  -- the fuse's events: in the episode's place are that of the opening and the answers of `tick`
  pub events : of_fuse (journal_of kinds s).events
      ≡ events_from start_run e.before
      ++ (event_of (run_after_all start_run e.before) e.opening
      ∷ (reports_from (opened e).rt (calls_of w e)
      ++ events_from (run_after_all (opened e) (map tick e.ticks)) e.later))
  -- and of these calls the three parts of demand 3 hold that begin with a reset
  pub closes : FromReset w (ticks_from (opened e).rt (calls_of w e))

-- an episode of `is` that ends with the tick c, after which `later` comes
pub record EndsWith (is : List Instruction) (c : Brought) (later : List Instruction) : Type 0 where
  pub before : List Instruction
  pub opening : Instruction
  pub ticks : List Brought
  pub episode : In is (record { before = before; opening = opening; ticks = ticks ++ (c ∷ []); later = later })

-- ---- the acknowledgements of a whole journal

-- its instructions after the settings, which come once, as calls of `tick` and `reset`
abbrev pub entries_of : Settings → List Instruction → List Entry
entries_of w [] = []
entries_of w (begin s ∷ is) = entries_of w is
entries_of w (restart ∷ is) = of_reset ∷ entries_of w is
entries_of w (tick c ∷ is) = of_tick (call_under w c) ∷ entries_of w is
entries_of w (width x ∷ is) = entries_of w is

-- the ticks among its events
abbrev pub ticks_in : List Event → List Event
ticks_in [] = []
ticks_in (began r ∷ l) = ticks_in l
ticks_in (restarted r ∷ l) = ticks_in l
ticks_in (ticked t ∷ l) = ticked t ∷ ticks_in l
ticks_in (width_given r x ∷ l) = ticks_in l

pub record JournalAcks (kinds s : List ℕ) (w : Settings) : Type 0 where
  -- the journal's ticks are the answers of `tick`, from what the settings leave on
  pub events : ticks_in (journal_of kinds s).events ≡ course (entry_step report_in) new_of (entries_of w (instructions_of kinds s))
  -- and of these calls, with all their resets, the fourth part holds
  pub acks : Acks (ticks_among new_of (entries_of w (instructions_of kinds s)))

-- ---- the claim

-- of a journal that has settings: every tick is in an episode, every episode stops close, and no
-- acknowledgement is consumed twice
pub record StopsUnder (kinds s : List ℕ) (w : Settings) : Type 0 where
  pub settings : SettledBy w (instructions_of kinds s)
  pub every_tick : (before : List Instruction) (c : Brought) (later : List Instruction)
      → instructions_of kinds s ≡ before ++ (tick c ∷ later)
      → EndsWith (instructions_of kinds s) c later
  pub every_episode : (e : Episode) → In (instructions_of kinds s) e → EpisodeStops kinds s w e
  pub acks_once : JournalAcks kinds s w

-- a journal has settings, or else no instruction and no event
pub data StopsIn (kinds s : List ℕ) : Type 0 where
  with_settings : (w : Settings) → StopsUnder kinds s w → StopsIn kinds s
  without : instructions_of kinds s ≡ [] → (journal_of kinds s).events ≡ [] → StopsIn kinds s

-- every list of bytes, whatever the kinds are, whatever it holds and however it ends
abbrev pub JournalStops : Type 0
JournalStops = (kinds s : List ℕ) → Bytes s → StopsIn kinds s
