-- Round by round: steps, reading, and what is left over.
use Prim.Native.Nat.{ℕ, ◌+◌, ◌-◌, ◌≤◌, ◌<◌, ◌%◌, ◌^◌}
use mathlib.Core.Path.{◌≡◌, refl, sym, ap, subst, ◌∙◌}
use mathlib.Core.List.{List, [], ◌++◌, append-nil}
use mathlib.Core.Bool.{true, false}
use native.Mathlib.Omega.{arith}
use lib.ListN.{length, take, drop, length-append, length-drop}
use lib.Seq.{take_at, length-take-le}
use Rattle.std.specs.Prelude.{Option, None}
use Rattle.stream.proofs.Stream.{impossible}
use Rattle.text.specs.Memory.{Put}
use Rattle.text.proofs.Puts.{put_shows}
use Rattle.channels.specs.declared.intake.Reads.{Reads}
use Rattle.channels.specs.declared.intake.Supply.TheVariants.{More}
use Rattle.channels.specs.declared.outlet.Written.{Written}
use Rattle.channels.specs.Intake.{moved_down, may_come, Came}
use Rattle.printer.specs.declared.Channel.{Channel}
use Rattle.printer.specs.declared.Channel.TheVariants.{Output, Errors}
use Rattle.console.specs.declared.phases.Phase.TheVariants.{Plays, Waits}
use Rattle.console.specs.declared.rounds.Stepped.{Stepped}
use Rattle.console.specs.declared.rounds.Round.{Round}
use Rattle.console.specs.Phases.{is_unwritten, has_ending}
use Rattle.console.specs.Rounds.{buffer_room, HandedOn, Going, Resting, Ending, Sending, MachineLaws, Steps, at_hand, KnownIn, Fits, Sound, round_stepped, SteppedRound, round_read, ReadRound, Rounded, Past, EndingPut}
use Rattle.console.proofs.ByPhase.{wrote_played, stops_played, less_played, wrote_read, stops_read, most_read, few_read, less_read}

-- ---- memory

module _ (at have : ℕ) (b : List ℕ) (h : have ≤ length b) where
  -- the bytes of a part that were moved down are at the front
  pub moved_front : take (have - at) (moved_down at have b) ≡ drop at (take have b)
  unfolding moved_down
  moved_front =
      let s = drop at (take have b) in
      take_at s (drop (length s) b) (have - at) (omega (arith, length-drop at (take have b), length-take-le have b h))

  pub moved_long : length (moved_down at have b) ≡ length b
  unfolding moved_down
  moved_long =
      let s = drop at (take have b) in
      omega (arith, h, length-append s (drop (length s) b), length-drop (length s) b, length-drop at (take have b), length-take-le have b h)

-- the bytes that a step took were at hand
pub at_within : {M : Type 0} {goes : Going M} {rests : Resting M} {m : M} (r : Round) (b : List ℕ) (p : Stepped) {m' : M} {out' : List ℕ} → r.have ≤ length b → Steps goes rests m (at_hand r b) p m' out' → p.at ≤ r.have
at_within r b p h d = omega (arith, d.within, length-take-le r.have b h)

-- ---- a round that took a step

module _ {M : Type 0} (goes : Going M) (rests : Resting M) (m : M) (r : Round) (b : List ℕ) (f : Fits r b) (y : r.phase ≡ Plays)
    (p : Stepped) (w : Written) (m' : M) (b' out' : List ℕ) (d : Steps goes rests m (at_hand r b) p m' out')
    (k : HandedOn Output r.written p.n w) (z : b' ≡ moved_down p.at r.have b) where
  abbrev s : List ℕ
  s = at_hand r b

  before : p.at ≤ r.have
  before = at_within r b p f.within d

  rest_is : take (r.have - p.at) b' ≡ drop p.at s
  rest_is = rw z (moved_front p.at r.have b f.within)

  b_long : length b' ≡ length b
  b_long = rw z (moved_long p.at r.have b f.within)

  text_long : p.n ≡ length (take p.n out')
  text_long = sym (length-take-le p.n out' d.fits)

  stepped_is : Rounded goes rests m r b m' (round_stepped r p w) b'
  unfolding round_stepped
  stepped_is = record {
    came = [];
    text = take p.n out';
    makes =
        subst (λ (u : List ℕ). goes m u (take p.n out') m' (take (r.have - p.at) b')) (sym (append-nil s))
        (subst (λ (u : List ℕ). goes m s (take p.n out') m' u) (sym rest_is) d.makes);
    count = (let c : r.place + p.at + (r.have - p.at) ≡ r.place + r.have + 0 = omega (arith, before) in c);
    brought = (let c : r.reads.bytes ≡ (r.reads.bytes + 0) % 2 ^ 64 = omega (arith, f.bytes) in c);
    handed = subst (λ (j : ℕ). HandedOn Output r.written j w) text_long k;
    sound = record {
      fits = record { within = omega (arith, b_long, f.within); bytes = f.bytes; text = omega (arith, k.0); beside = omega (arith, k.1, f.beside); bound = omega (arith, f.bound, before); most = f.most };
      wrote = wrote_played w.failed p.more p.refused;
      stops =
          subst (λ (u : List ℕ). KnownIn rests (round_stepped r p w).phase m' u p.refused r.reads) (sym rest_is)
          (stops_played rests m' (drop p.at s) p.refused r.reads w.failed p.more d.stops);
    };
    less = rw y (less_played r.have p.at r.reads.made p.refused w.failed p.more before d.further);
  }

pub round_stepped_lem : {M : Type 0} (goes : Going M) (rests : Resting M) (m : M) (r : Round) (b : List ℕ) → Fits r b → r.phase ≡ Plays
    → (q : Round) (m' : M) (b' out' : List ℕ) → SteppedRound goes rests m r b q m' b' out' → Rounded goes rests m r b m' q b'
round_stepped_lem goes rests m r b f y q m' b' out' z = subst (λ (x : Round). Rounded goes rests m r b m' x b') (sym z.is) (stepped_is goes rests m r b f y z.stepped z.written m' b' out' z.steps z.handed z.moved)

-- ---- a round that read

module _ {M : Type 0} (goes : Going M) (rests : Resting M) (laws : MachineLaws goes rests) (m : M) (r : Round) (b : List ℕ) (v : Sound rests m r b) (y : r.phase ≡ Waits) where
  known : rests m (at_hand r b) r.refused × (r.refused ≡ None)
  known = rw y at v.stops

  waits : rests m (at_hand r b) None
  waits = rw known.1 at known.0

  have_long : length (at_hand r b) ≡ r.have
  have_long = length-take-le r.have b v.fits.within

  -- there is room for at least one byte more
  pub room_left : r.have < buffer_room
  room_left = omega (arith, laws.short m (at_hand r b) waits, have_long)

  module _ (have : ℕ) (reads : Reads) (b' : List ℕ) (long : length b' ≡ buffer_room) (c : Came (at_hand r b) r.reads (record { have = have; reads = reads }) b') where
    none_came : may_come reads.last ≡ false → take have b' ≡ at_hand r b
    none_came z = c.bytes ∙ ap (λ (u : List ℕ). at_hand r b ++ u) (c.none z) ∙ append-nil (at_hand r b)

    came_long : have ≡ r.have + length c.came
    came_long = c.count ∙ length-append (at_hand r b) c.came ∙ ap (λ (j : ℕ). j + length c.came) have_long

    none_long : may_come reads.last ≡ false → length c.came ≡ 0
    none_long z = ap length (c.none z)

    read_is : Rounded goes rests m r b m (round_read r have reads) b'
    unfolding round_read
    read_is =
        let most = most_read reads.last r.reads.made reads.made v.fits.most c.counted in
        record {
          came = c.came;
          text = [];
          makes = subst (λ (u : List ℕ). goes m u [] m (take have b')) c.bytes (laws.still m (take have b'));
          count = (let k : r.place + have ≡ r.place + r.have + length c.came = omega (arith, came_long) in k);
          brought = c.brought;
          handed = (let k : r.written.bytes ≡ (r.written.bytes + 0) % 2 ^ 64 = omega (arith, v.fits.text) in (k, refl));
          sound = record {
            fits = record {
              within = c.within;
              bytes = omega (arith, c.brought);
              text = v.fits.text;
              beside = v.fits.beside;
              bound = omega (arith, v.fits.bound, came_long, few_read reads.last r.reads.made reads.made (length c.came) (omega (arith, c.within, long, came_long)) c.counted none_long);
              most = most.0;
            };
            wrote = v.wrote ∙ ap is_unwritten y ∙ wrote_read reads.last;
            stops = stops_read rests m (take have b') r.refused r.reads.made reads reads.last known.1 refl c.counted (λ z. rw (none_came z) known.0);
          };
          less = rw y (less_read reads.last r.have have r.reads.made reads.made (omega (arith, c.within, long)) c.counted);
        }

pub round_read_lem : {M : Type 0} (goes : Going M) (rests : Resting M) → MachineLaws goes rests → (m : M) (r : Round) (b : List ℕ) → Sound rests m r b → r.phase ≡ Waits
    → (q : Round) (b' : List ℕ) → length b' ≡ buffer_room → ReadRound r b q b' → Rounded goes rests m r b m q b'
round_read_lem goes rests laws m r b v y q b' k z = subst (λ (x : Round). Rounded goes rests m r b m x b') (sym z.is) (read_is goes rests laws m r b v y q.have q.reads b' k z.came)

-- ---- round after round

-- a count of bytes, and that of more bytes
pub counts_on : (n m : ℕ) (s t : List ℕ) → n ≡ length s % 2 ^ 64 → m ≡ (n + length t) % 2 ^ 64 → m ≡ length (s ++ t) % 2 ^ 64
counts_on n m s t e f = omega (arith, e, f, length-append s t)

-- before the first round
abbrev first : Reads → Written → Round
first k w = record { place = 0; have = 0; refused = None; reads = k; written = w; phase = Plays }

pub past_first : {M : Type 0} (goes : Going M) (rests : Resting M) → MachineLaws goes rests → (m : M) (b : List ℕ) (k : Reads) (w : Written)
    → k ≡ record { made = 0; bytes = 0; last = More } → w ≡ record { bytes = 0; beside = 0; failed = false } → Past goes m m (first k w) b
past_first goes rests laws m b k w z h = rw (z, h) (record { past = []; text = []; makes = laws.still m []; count = refl; brought = refl; handed = refl; beside = refl })

pub sound_first : {M : Type 0} (rests : Resting M) (m : M) (b : List ℕ) (k : Reads) (w : Written) → k ≡ record { made = 0; bytes = 0; last = More } → w ≡ record { bytes = 0; beside = 0; failed = false }
    → Sound rests m (first k w) b
sound_first rests m b k w z h = rw (z, h) (record {
  fits = record { within = omega arith; bytes = omega arith; text = omega arith; beside = omega arith; bound = omega arith; most = omega arith };
  wrote = refl;
  stops = tt;
})

pub past_on : {M : Type 0} (goes : Going M) (rests : Resting M) → MachineLaws goes rests → (m₀ m : M) (r : Round) (b : List ℕ) (m' : M) (q : Round) (b' : List ℕ)
    → Past goes m₀ m r b → Rounded goes rests m r b m' q b' → Past goes m₀ m' q b'
past_on goes rests laws m₀ m r b m' q b' c n = record {
  past = c.past ++ n.came;
  text = c.text ++ n.text;
  makes = laws.further m₀ c.past c.text m (at_hand r b) n.came n.text m' (at_hand q b') c.makes n.makes;
  count = omega (arith, n.count, c.count, length-append c.past n.came);
  brought = counts_on r.reads.bytes q.reads.bytes c.past n.came c.brought n.brought;
  handed = counts_on r.written.bytes q.written.bytes c.text n.text c.handed n.handed.0;
  beside = n.handed.1 ∙ c.beside;
}

-- ---- the text of the ending

-- nothing more is handed over
handed_none : (c : Channel) (w : Written) → w.bytes < 2 ^ 64 → w.beside < 2 ^ 64 → HandedOn c w 0 w
handed_none Output w k m = (omega (arith, k), refl)
handed_none Errors w k m = (refl, omega (arith, m))

module _ {M : Type 0} (ending : Ending M) (channel : Sending M) (m : M) (r : Round) (number : Option ℕ) where
  pub ending_put : (w : Written) (n : ℕ) (out out' : List ℕ) → has_ending r.phase ≡ true → Put out 0 (ending m number r.place) n out'
      → (d : Channel) → d ≡ channel m number → HandedOn d r.written n w → EndingPut ending channel m r number w out'
  ending_put w n out out' h q d on k =
      let s = ending m number r.place in
      let z : 0 + length s ≡ length s = omega arith in
      record {
        text = rw h (ap (λ (j : ℕ). take j out') (sym (q.ends ∙ z)) ∙ put_shows out 0 s n out' (omega arith) q);
        handed = rw h (subst (λ (c : Channel). HandedOn c r.written (length s) w) on (subst (λ (j : ℕ). HandedOn d r.written j w) (q.ends ∙ z) k));
        none = λ y. let o : true ≡ false = sym h ∙ y in impossible cc;
      }

  pub ending_none : (out' : List ℕ) → has_ending r.phase ≡ false → r.written.bytes < 2 ^ 64 → r.written.beside < 2 ^ 64 → EndingPut ending channel m r number r.written out'
  ending_none out' h k w = record {
    text = rw h refl;
    handed = rw h (handed_none (channel m number) r.written k w);
    none = λ y. refl;
  }
