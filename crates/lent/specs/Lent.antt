-- What a function over a lent struct leaves there and answers, for any struct.
-- What a call of a closure may give is a predicate here, as its `post` is.
use Rattle.std.specs.Prelude.{◌≡◌, ◌⊎◌}
use Rattle.std.specs.Borrow.{MutBor}
use Rattle.lent.specs.declared.Checked.{Checked}
use Rattle.lent.specs.declared.Stepped.{Stepped}

module _ {S Z : Type 0} where
  -- the test gave a number and an answer: nothing is written, and that is answered
  pub record IsRefused (tests : Checked Z → Type 0) (before after : S) (answer : Z) : Type 0 where
    pub test : Checked Z
    pub tested : tests test
    pub number : test.number ≡ 0 → ⊥
    pub kept : after ≡ before
    pub answered : answer ≡ test.answer

  -- the test gave 0: the state of the core's result lies there, and the rest of it is answered
  pub record IsStored (tests : Checked Z → Type 0) (steps : Stepped S Z → Type 0) (after : S) (answer : Z) : Type 0 where
    pub test : Checked Z
    pub tested : tests test
    pub number : test.number ≡ 0
    pub step : Stepped S Z
    pub stepped : steps step
    pub stored : after ≡ step.rt
    pub answered : answer ≡ step.answer

  abbrev pub IsTurned : (Checked Z → Type 0) → (Stepped S Z → Type 0) → (before after : S) → Z → Type 0
  IsTurned tests steps before after answer = IsRefused tests before after answer ⊎ IsStored tests steps after answer

  -- a call that is lent the state `before` may answer so, and leave `after` there
  pub record LeavesLent (calls : MutBor S → Z → MutBor S → Type 0) (before : S) (answer : Z) (after : S) : Type 0 where
    pub shown : MutBor S
    pub shows : shown.now ≡ before
    pub left : MutBor S
    pub called : calls shown answer left
    pub leaves : left.now ≡ after

-- a call may be lent the state x
abbrev pub TakesLent : {S : Type 0} → (MutBor S → Type 0) → S → Type 0
TakesLent {S} may x = (p : MutBor S) → p.now ≡ x → may p
