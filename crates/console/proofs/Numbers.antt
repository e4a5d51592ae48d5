-- Where no write failed in a round, number_kept is number_in. Where one failed, nothing is known of the
-- number of the last round, so it may be taken as none: what is promised by number_in is promised by
-- number_kept too.
use Prim.Native.Nat.{ℕ, ◌<◌, ◌^◌}
use mathlib.Core.Path.{◌≡◌, refl, sym, subst}
use mathlib.Core.List.{List}
use mathlib.Core.Bool.{Bool, true, false}
use native.Mathlib.Omega.{arith}
use Rattle.std.specs.Prelude.{Option, None}
use Rattle.stream.proofs.Stream.{impossible}
use Rattle.channels.specs.declared.intake.Reads.{Reads}
use Rattle.channels.specs.declared.outlet.Written.{Written}
use Rattle.printer.specs.declared.Channel.{Channel}
use Rattle.printer.specs.declared.Channel.TheVariants.{Output, Errors}
use Rattle.console.specs.declared.phases.Phase.{Phase}
use Rattle.console.specs.declared.phases.Phase.TheVariants.{Plays, Waits, Refused, InputOver, ReadFailed, ReadsOver, WriteFailed}
use Rattle.console.specs.declared.rounds.Round.{Round}
use Rattle.console.specs.declared.rounds.Ended.{Ended}
use Rattle.console.specs.Phases.{is_going, is_unwritten, has_ending, number_ended}
use Rattle.console.specs.Rounds.{HandedOn, Going, Resting, Ending, Sending, at_hand, KnownIn, Sound, number_in, number_kept, EndingPut, ended_with, ClosedWith, RanBy, RanKeeping}

-- no text of an ending is written where a write failed in a round
unending : (x : Phase) → is_unwritten x ≡ true → has_ending x ≡ false
unending Plays u = refl
unending Waits u = refl
unending (Refused number) u = impossible cc
unending InputOver u = impossible cc
unending ReadFailed u = refl
unending ReadsOver u = refl
unending WriteFailed u = refl

-- where a write failed in a round, whatever its number is, what its phase says is so
unknown : {M : Type 0} (rests : Resting M) (x : Phase) (m : M) (s : List ℕ) (n : Option ℕ) (reads : Reads) → is_unwritten x ≡ true → KnownIn rests x m s n reads
unknown rests Plays m s n reads u = impossible cc
unknown rests Waits m s n reads u = impossible cc
unknown rests (Refused number) m s n reads u = impossible cc
unknown rests InputOver m s n reads u = impossible cc
unknown rests ReadFailed m s n reads u = impossible cc
unknown rests ReadsOver m s n reads u = impossible cc
unknown rests WriteFailed m s n reads u = tt

-- where no byte is handed over, on either channel, the counts stay
none_handed : (c : Channel) (w : Written) → w.bytes < 2 ^ 64 → w.beside < 2 ^ 64 → HandedOn c w 0 w
none_handed Output w h k = (omega (arith, h), refl)
none_handed Errors w h k = (refl, omega (arith, k))

module _ {M : Type 0} (rests : Resting M) (m : M) (r : Round) (b : List ℕ) (v : Sound rests m r b) (over : is_going r.phase ≡ false) where
  same_by : (x : Phase) → is_going x ≡ false → is_unwritten x ≡ false → KnownIn rests x m (at_hand r b) r.refused r.reads → number_ended x r.refused r.have ≡ number_ended x None r.have
  same_by Plays g u k = impossible cc
  same_by Waits g u k = impossible cc
  same_by (Refused number) g u k = refl
  same_by InputOver g u k = refl
  same_by ReadFailed g u k = k.1
  same_by ReadsOver g u k = k.1
  same_by WriteFailed g u k = impossible cc

  pub same : is_unwritten r.phase ≡ false → number_kept r ≡ number_in r
  same u = same_by r.phase over u v.stops

  -- so the text of the ending is the same by either
  pub put_by_number : (ending : Ending M) (channel : Sending M) (w : Written) (out' : List ℕ) → EndingPut ending channel m r (number_kept r) w out' → EndingPut ending channel m r (number_in r) w out'
  put_by_number ending channel w out' p = by (is_unwritten r.phase) refl
    where
      by : (u : Bool) → is_unwritten r.phase ≡ u → EndingPut ending channel m r (number_in r) w out'
      by false u = subst (λ (n : Option ℕ). EndingPut ending channel m r n w out') (same u) p
      by true u =
          let e = unending r.phase u in
          record {
            text = rw e refl;
            handed = rw (e, p.none e) (none_handed (channel m (number_in r)) r.written v.fits.text v.fits.beside);
            none = p.none;
          }

-- The promise by number_in is also one by number_kept: where a write failed, the last round is taken as
-- one that has no number.
module _ {M : Type 0} (goes : Going M) (rests : Resting M) (ending : Ending M) (channel : Sending M) (m₀ m : M) (e : Ended) where
  abbrev unnumbered : Round → Round
  unnumbered r = record { place = r.place; have = r.have; refused = None; reads = r.reads; written = r.written; phase = r.phase }

  pub keeping : RanBy goes rests ending channel m₀ m e → RanKeeping goes rests ending channel m₀ m e
  unfolding ended_with
  keeping t = by (is_unwritten t.round.phase) refl
    where
      by : (u : Bool) → is_unwritten t.round.phase ≡ u → RanKeeping goes rests ending channel m₀ m e
      by false u = record {
        round = t.round;
        buf = t.buf;
        out = t.out;
        through = t.through;
        closed = subst (λ (n : Option ℕ). ClosedWith n ending channel m t.round e t.out) (sym (same rests m t.round t.buf t.through.sound t.through.over u)) t.closed;
      }
      by true u =
          let r = t.round in
          let x = t.through.past in
          let f = t.through.sound.fits in
          let p = t.closed.put in
          record {
            round = unnumbered r;
            buf = t.buf;
            out = t.out;
            through = record {
              past = record { past = x.past; text = x.text; makes = x.makes; count = x.count; brought = x.brought; handed = x.handed; beside = x.beside };
              sound = record {
                fits = record { within = f.within; bytes = f.bytes; text = f.text; beside = f.beside; bound = f.bound; most = f.most };
                wrote = t.through.sound.wrote;
                stops = unknown rests r.phase m (at_hand r t.buf) None r.reads u;
              };
              over = t.through.over;
            };
            closed = record { put = record { text = p.text; handed = p.handed; none = p.none }; is = t.closed.is };
          }
