-- What a tick delivers (01-scope.md, One tick; fuse.rs, guard): whether a chunk, and the causes of
-- SCHEMA that lie in it, or in that there is none. Each cause is an operand of one `||`.
use Rattle.std.specs.Prelude.{Bool, true, false, not, ◌||◌, ℕ, ◌-◌, ◌*◌, ltb, eqb, Option}
use Rattle.lictor_core.specs.declared.chunk.ChunkHead.{ChunkHead}
use Rattle.lictor_core.specs.declared.envelope.FuseConfig.{FuseConfig}
use Rattle.lictor_core.specs.declared.fuse.Clock.{Clock}
use Rattle.lictor_core.specs.declared.fuse.TickInput.{TickInput}
use Rattle.lictor_core.specs.Cases.{by_option}

-- the tick delivers a chunk
unfoldable pub delivered_of : Option ChunkHead → Bool
delivered_of c = by_option c false (λ h. true)

-- SCHEMA: a chunk's dim, horizon or exec is not the settings', or it has not horizon * dim values
unfoldable pub sizes_bad : FuseConfig → ChunkHead → ℕ → Bool
sizes_bad cfg h n =
    not (eqb h.dim cfg.dim)
    || (not (eqb h.horizon cfg.horizon)
    || (not (eqb h.exec_steps cfg.exec)
    || not (eqb n (h.horizon * h.dim))))

-- SCHEMA: its number is not the next one; it was emitted after t; idx is not t - t_emit
unfoldable pub place_bad : ChunkHead → ℕ → ℕ → ℕ → Bool
place_bad h next t idx =
    not (eqb h.seq next)
    || (ltb t h.t_emit
    || not (eqb idx (t - h.t_emit)))

-- a chunk whose sizes or whose place do not fit
unfoldable pub head_bad : FuseConfig → ℕ → ℕ → ℕ → ℕ → ChunkHead → Bool
head_bad cfg next t idx n h = sizes_bad cfg h n || place_bad h next t idx

-- SCHEMA: a bad head; without a chunk, that none was taken before
unfoldable pub delivery_bad : FuseConfig → Clock → TickInput → ℕ → Bool
delivery_bad cfg k inp n = by_option inp.chunk (not k.filled) (head_bad cfg k.next_chunk_seq inp.t inp.idx n)
