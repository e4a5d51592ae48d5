-- The names of the states, as in state.rs (02-change-requests.md, Ask 1), and the state of a name.
use Rattle.std.specs.Prelude.{ℕ, Bool, true, false, cond, ◌&&◌, List, [], ◌∷◌, eqb}
use Rattle.text.specs.Ascii.{ascii}
use Rattle.lictor_core.specs.declared.state.FuseState.{FuseState}
use Rattle.lictor_core.specs.declared.state.FuseState.TheVariants as S

abbrev pub state_name : FuseState → List ℕ
state_name S.Idle = ascii "Idle"
state_name S.Armed = ascii "Armed"
state_name S.Watching = ascii "Watching"
state_name S.Clamped = ascii "Clamped"
state_name S.Braking = ascii "Braking"
state_name S.Held = ascii "Held"
state_name S.Escalated = ascii "Escalated"
state_name S.Fault = ascii "Fault"
state_name S.Terminated = ascii "Terminated"

-- whether two texts are the same
abbrev pub same_text : List ℕ → List ℕ → Bool
same_text [] [] = true
same_text [] (y ∷ t) = false
same_text (x ∷ s) [] = false
same_text (x ∷ s) (y ∷ t) = eqb x y && same_text s t

-- the first of these states that has this name, or Idle
abbrev pub first_named : List FuseState → List ℕ → FuseState
first_named [] s = S.Idle
first_named (q ∷ qs) s = cond (same_text s (state_name q)) q (first_named qs s)

-- the state of a name
abbrev pub state_named : List ℕ → FuseState
state_named = first_named (S.Idle ∷ S.Armed ∷ S.Watching ∷ S.Clamped ∷ S.Braking ∷ S.Held ∷ S.Escalated ∷ S.Fault ∷ S.Terminated ∷ [])
