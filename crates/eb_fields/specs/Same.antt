-- What the answer to the question whether two contents are the same tells (docs/RULES.md, Fields). Assumes nothing.
use Rattle.std.specs.Prelude.{◌≡◌, Bool, true, false}

-- yes exactly when they are the same
pub record TellsSame {A : Type 0} (answer : Bool) (one other : A) : Type 0 where
  pub yes_same : answer ≡ true → one ≡ other
  pub no_other : answer ≡ false → one ≡ other → ⊥
