-- What is known by the phase, case by case.
use Prim.Native.Nat.{ℕ, ◌+◌, ◌-◌, ◌*◌, ◌≤◌, ◌<◌}
use mathlib.Core.Path.{◌≡◌, refl, sym, ap, ◌∙◌}
use mathlib.Core.Bool.{Bool, true, false}
use mathlib.Core.List.{List}
use native.Mathlib.Omega.{arith}
use Rattle.std.specs.Prelude.{Option, None, Some}
use Rattle.stream.proofs.Stream.{impossible}
use Rattle.channels.specs.declared.intake.Supply.{Supply}
use Rattle.channels.specs.declared.intake.Supply.TheVariants.{More, Over, Failed, Spent}
use Rattle.channels.specs.declared.intake.Reads.{Reads}
use Rattle.channels.specs.Intake.{most_reads, may_come, Counted}
use Rattle.console.specs.declared.phases.Phase.{Phase}
use Rattle.console.specs.declared.phases.Phase.TheVariants.{Plays, Waits, Refused, InputOver, ReadFailed, ReadsOver, WriteFailed}
use Rattle.console.specs.Phases.{is_going, is_waiting, is_unwritten, has_ending, phase_played, phase_read, phase_ended}
use Rattle.console.specs.Rounds.{buffer_room, Resting, KnownIn, to_do_by}

-- it goes on, and no bytes have to come first
pub plays_is : (x : Phase) → is_going x ≡ true → (x ≡ Waits → ⊥) → x ≡ Plays
plays_is Plays g w = refl
plays_is Waits g w = absurd (w refl)
plays_is (Refused number) g w = impossible cc
plays_is InputOver g w = impossible cc
plays_is ReadFailed g w = impossible cc
plays_is ReadsOver g w = impossible cc
plays_is WriteFailed g w = impossible cc

-- the same by the answer of is_waiting
pub plays_unless_waiting : (x : Phase) → is_going x ≡ true → is_waiting x ≡ false → x ≡ Plays
plays_unless_waiting x g w = plays_is x g (λ y. let o : true ≡ false = sym (ap is_waiting y) ∙ w in impossible cc)

pub waits_is : (x : Phase) → is_waiting x ≡ true → x ≡ Waits
waits_is Plays w = impossible cc
waits_is Waits w = refl
waits_is (Refused number) w = impossible cc
waits_is InputOver w = impossible cc
waits_is ReadFailed w = impossible cc
waits_is ReadsOver w = impossible cc
waits_is WriteFailed w = impossible cc

-- ---- after a step

pub wrote_played : (failed full : Bool) (n : Option ℕ) → failed ≡ is_unwritten (phase_played failed full n)
wrote_played true full n = refl
wrote_played false true n = refl
wrote_played false false None = refl
wrote_played false false (Some number) = refl

pub stops_played : {M : Type 0} (rests : Resting M) (m : M) (s : List ℕ) (n : Option ℕ) (reads : Reads) (failed full : Bool) → (full ≡ false → rests m s n) → KnownIn rests (phase_played failed full n) m s n reads
stops_played rests m s n reads true full h = tt
stops_played rests m s n reads false true h = tt
stops_played rests m s None reads false false h = (h refl, refl)
stops_played rests m s (Some number) reads false false h = (h refl, refl)

pub less_played : (have at made : ℕ) (n : Option ℕ) (failed full : Bool) → at ≤ have → (full ≡ true → 0 < at) → to_do_by (phase_played failed full n) (have - at) made < to_do_by Plays have made
less_played have at made n true full h y = omega arith
less_played have at made n false true h y = omega (arith, y refl)
less_played have at made None false false h y = omega arith
less_played have at made (Some number) false false h y = omega arith

-- ---- after a read

pub wrote_read : (x : Supply) → false ≡ is_unwritten (phase_read x)
wrote_read More = refl
wrote_read Over = refl
wrote_read Failed = refl
wrote_read Spent = refl

pub stops_read : {M : Type 0} (rests : Resting M) (m : M) (s : List ℕ) (n : Option ℕ) (before : ℕ) (reads : Reads) (x : Supply) → n ≡ None → reads.last ≡ x → Counted x before reads.made → (may_come x ≡ false → rests m s n)
    → KnownIn rests (phase_read x) m s n reads
stops_read rests m s n before reads More z e c h = tt
stops_read rests m s n before reads Over z e c h = (h refl, z, e)
stops_read rests m s n before reads Failed z e c h = (h refl, z, e)
stops_read rests m s n before reads Spent z e c h = (h refl, z, omega (arith, c.0, c.1))

pub most_read : (x : Supply) (before made : ℕ) → before ≤ most_reads → Counted x before made → (made ≤ most_reads) × (before ≤ made)
most_read More before made h c = (omega (arith, c.0, c.1), omega (arith, c.1))
most_read Over before made h c = (omega (arith, c.0, c.1), omega (arith, c.1))
most_read Failed before made h c = (omega (arith, c.0, c.1), omega (arith, c.1))
most_read Spent before made h c = (omega (arith, c.1, h), omega (arith, c.1))

-- where no read was made nothing came
pub few_read : (x : Supply) (before made n : ℕ) → n ≤ buffer_room → Counted x before made → (may_come x ≡ false → n ≡ 0) → n + before * buffer_room ≤ made * buffer_room
few_read More before made n h c z = omega (arith, c.1)
few_read Over before made n h c z = omega (arith, c.1)
few_read Failed before made n h c z = omega (arith, c.1)
few_read Spent before made n h c z = omega (arith, c.1, z refl)

pub less_read : (x : Supply) (have have' before made : ℕ) → have' ≤ buffer_room → Counted x before made → to_do_by (phase_read x) have' made < to_do_by Waits have before
less_read More have have' before made h c = omega (arith, c.0, c.1)
less_read Over have have' before made h c = omega arith
less_read Failed have have' before made h c = omega arith
less_read Spent have have' before made h c = omega arith

-- ---- after the text of the ending

pub wrote_ended : (x : Phase) (failed : Bool) → (has_ending x ≡ false → failed ≡ is_unwritten x) → failed ≡ is_unwritten (phase_ended x failed)
wrote_ended x true u = refl
wrote_ended Plays false u = refl
wrote_ended Waits false u = refl
wrote_ended (Refused number) false u = refl
wrote_ended InputOver false u = refl
wrote_ended ReadFailed false u = refl
wrote_ended ReadsOver false u = refl
wrote_ended WriteFailed false u = u refl
