-- The guard (01-scope.md, One tick; fuse.rs, guard): NONFINITE, SCHEMA and WATCHDOG, all that
-- apply. Each cause of a bit is an operand of one `||`; those that lie in a chunk, or in that there
-- is none, are in lictor_guard specs/Delivery.
use Rattle.std.specs.Prelude.{Bool, not, cond, ◌&&◌, ◌||◌, List, ℕ, ◌+◌, length, ltb, leb, eqb, Float}
use Rattle.std.specs.Int.Bits.{bit_or}
use Rattle.fmath.specs.Float.{all_finite}
use Rattle.lictor_core.specs.declared.envelope.FuseConfig.{FuseConfig}
use Rattle.lictor_core.specs.declared.fuse.Clock.{Clock}
use Rattle.lictor_core.specs.declared.fuse.TickInput.{TickInput}
use Rattle.lictor_core.specs.Masks as M
use Rattle.lictor_core.specs.Sizes.{max_aux, max_ext}
use Rattle.lictor_guard.specs.Delivery.{delivered_of, delivery_bad}
use Rattle.lictor_guard.specs.declared.Lengths.{Lengths}

-- NONFINITE: a value of pos, of a supplied velocity, of aux, of ext or of a delivered chunk is not
-- finite, whatever the list's length
unfoldable pub non_finite : Bool → Bool → List Float → List Float → List Float → List Float → List Float → Bool
non_finite has_vel has_chunk pos vel aux ext chunk =
    not (all_finite pos)
    || ((has_vel && not (all_finite vel))
    || (not (all_finite aux)
    || (not (all_finite ext)
    || (has_chunk && not (all_finite chunk)))))

-- how many values each list of the tick has
unfoldable pub lengths_of : List Float → List Float → List Float → List Float → List Float → Lengths
lengths_of pos vel aux ext chunk = record { pos = length pos; vel = length vel; aux = length aux; ext = length ext; chunk = length chunk }

-- SCHEMA: the host's flag; idx not below the horizon; pos not of pos_dim values; more than 8 aux or
-- 4 ext values; a supplied velocity not of pos_dim values
unfoldable pub shape_bad : FuseConfig → TickInput → Lengths → Bool
shape_bad cfg inp l =
    inp.schema_fault
    || (leb cfg.horizon inp.idx
    || (not (eqb l.pos cfg.pos_dim)
    || (ltb max_aux l.aux
    || (ltb max_ext l.ext
    || (inp.has_vel && not (eqb l.vel cfg.pos_dim))))))

-- SCHEMA: the first tick is not at 0; a later one not at last_t + 1 + missed. The sum is a plain
-- number, so that past the clock's end no t meets it.
unfoldable pub clock_bad : ℕ → ℕ → ℕ → ℕ → Bool
clock_bad seq last t missed = cond (eqb seq 0) (not (eqb t 0)) (not (eqb (last + 1 + missed) t))

unfoldable pub schema_bad : FuseConfig → Clock → TickInput → Lengths → Bool
schema_bad cfg k inp l = shape_bad cfg inp l || (delivery_bad cfg k inp l.chunk || clock_bad k.seq k.last_t inp.t inp.missed_ticks)

-- the bit where the test holds, else none
unfoldable pub bit_if : Bool → ℕ → ℕ
bit_if t bit = cond t bit 0

-- the guard's bits; WATCHDOG: more ticks were missed than the settings allow
unfoldable pub guard_of : FuseConfig → Clock → TickInput → List Float → List Float → List Float → List Float → List Float → ℕ
guard_of cfg k inp pos vel aux ext chunk =
    bit_or (bit_or
    (bit_if (non_finite inp.has_vel (delivered_of inp.chunk) pos vel aux ext chunk) M.nonfinite)
    (bit_if (schema_bad cfg k inp (lengths_of pos vel aux ext chunk)) M.schema))
    (bit_if (ltb cfg.hyst.watchdog_ticks inp.missed_ticks) M.watchdog)
