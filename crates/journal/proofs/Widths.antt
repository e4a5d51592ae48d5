-- A width is idle: it leaves the fuse as it is, and its event is left out (specs/Widths).
use mathlib.Core.Bool.{Bool, true, false, cond}
use mathlib.Core.List.{List, [], ◌∷◌, ◌++◌}
use mathlib.Core.Path.{◌≡◌, refl, ap, ◌∙◌}
use Rattle.stream.proofs.Stream.{impossible}
use Rattle.journal_reader.specs.Reading.{Instruction, begin, restart, tick, width}
use Rattle.journal.specs.declared.tick.Run.{Run}
use Rattle.journal.specs.Events.{run_after, run_after_all, Event, event_of, events_from}
use Rattle.journal.specs.Widths.{is_width, tells_width, except, for_fuse, of_fuse, WidthsIdle}

-- ---- one instruction

width_idle : (r : Run) (i : Instruction) → is_width i ≡ true → run_after r i ≡ r
width_idle r (begin s) e = impossible cc
width_idle r restart e = impossible cc
width_idle r (tick c) e = impossible cc
width_idle r (width w) e = refl

-- a width gives a width's event, and no other instruction does
event_tells : (r : Run) (i : Instruction) → tells_width (event_of r i) ≡ is_width i
event_tells r (begin s) = refl
event_tells r restart = refl
event_tells r (tick c) = refl
event_tells r (width w) = refl

-- ---- all of them

module _ (r : Run) (i : Instruction) (is : List Instruction) where
  run_by : ((q : Run) → run_after_all q is ≡ run_after_all q (for_fuse is)) → (t : Bool) → is_width i ≡ t
      → run_after_all r (i ∷ is) ≡ run_after_all r (cond t (for_fuse is) (i ∷ for_fuse is))
  run_by ih true e = ap (λ (q : Run). run_after_all q is) (width_idle r i e) ∙ ih r
  run_by ih false e = ih (run_after r i)

  events_by : ((q : Run) → of_fuse (events_from q is) ≡ events_from q (for_fuse is)) → (t : Bool) → is_width i ≡ t
      → cond t (of_fuse (events_from (run_after r i) is)) (event_of r i ∷ of_fuse (events_from (run_after r i) is)) ≡ events_from r (cond t (for_fuse is) (i ∷ for_fuse is))
  events_by ih true e = ap (λ (q : Run). of_fuse (events_from q is)) (width_idle r i e) ∙ ih r
  events_by ih false e = ap (λ (es : List Event). event_of r i ∷ es) (ih (run_after r i))

runs_idle : (r : Run) (is : List Instruction) → run_after_all r is ≡ run_after_all r (for_fuse is)
runs_idle r [] = refl
runs_idle r (i ∷ is) = run_by r i is (λ q. runs_idle q is) (is_width i) refl

events_idle : (r : Run) (is : List Instruction) → of_fuse (events_from r is) ≡ events_from r (for_fuse is)
events_idle r [] = refl
events_idle r (i ∷ is) = rw (event_tells r i) (events_by r i is (λ q. events_idle q is) (is_width i) refl)

pub widths_idle : WidthsIdle
widths_idle r is = record { run = runs_idle r is; events = events_idle r is }

-- ---- one list, and then another

append_by : {A : Type 0} (t : Bool) (x : A) (xs ys : List A) → cond t (xs ++ ys) (x ∷ (xs ++ ys)) ≡ cond t xs (x ∷ xs) ++ ys
append_by true x xs ys = refl
append_by false x xs ys = refl

pub except_append : {A : Type 0} (f : A → Bool) (xs ys : List A) → except f (xs ++ ys) ≡ except f xs ++ except f ys
except_append f [] ys = refl
except_append f (x ∷ xs) ys =
    ap (λ zs. cond (f x) zs (x ∷ zs)) (except_append f xs ys)
    ∙ append_by (f x) x (except f xs) (except f ys)
