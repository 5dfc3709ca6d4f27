-- The laws of the choices: each way out of a test, as code meets it. `search` with `choices` walks a row of tests.
-- Assumes nothing.
use Prim.Native.Nat.{ℕ, ◌<◌, ◌≤◌}
use mathlib.Core.Path.{◌≡◌, refl}
use mathlib.Core.Bool.{Bool, true, false}
use borrow.Author.Tests.{lt-ltb, le-ltb, eq-eqb, ne_eqb, ltb-true, ltb-false, eqb-true, eqb-false}
use lib.Dec.{ltb, eqb}
use Rattle.octets_spec.specs.Choice.{if_on, if_lt, if_eq}

module _ {A : Type 0} {r : A} (x y : A) where
  pub if_on_lem : (test : Bool) → test ≡ true → r ≡ x → r ≡ if_on test x y
  unfolding if_on
  if_on_lem test h e = rw h e

  pub if_off_lem : (test : Bool) → test ≡ false → r ≡ y → r ≡ if_on test x y
  unfolding if_on
  if_off_lem test h e = rw h e

  module _ (a b : ℕ) where
    pub if_lt_lem : a < b → r ≡ x → r ≡ if_lt a b x y
    unfolding if_lt
    if_lt_lem h e = rw (lt-ltb a b h) e

    pub if_ge : b ≤ a → r ≡ y → r ≡ if_lt a b x y
    unfolding if_lt
    if_ge h e = rw (le-ltb a b h) e

    pub if_eq_lem : a ≡ b → r ≡ x → r ≡ if_eq a b x y
    unfolding if_eq
    if_eq_lem h e = rw (eq-eqb a b h) e

    pub if_ne_lem : (a ≡ b → ⊥) → r ≡ y → r ≡ if_eq a b x y
    unfolding if_eq
    if_ne_lem h e = rw (ne_eqb a b h) e

-- ---- the way back: where the answer is not the one of the other branch, the test went this way
pub by_test : {X : Type 0} (test : Bool) → (test ≡ true → X) → (test ≡ false → X) → X
by_test true on off = on refl
by_test false on off = off refl

pub by_lt : {X : Type 0} (a b : ℕ) → (a < b → X) → (b ≤ a → X) → X
by_lt a b below above = by_test (ltb a b) (λ t. below (ltb-true a b t)) (λ t. above (ltb-false a b t))

pub by_eq : {X : Type 0} (a b : ℕ) → (a ≡ b → X) → ((a ≡ b → ⊥) → X) → X
by_eq a b same other = by_test (eqb a b) (λ t. same (eqb-true a b t)) (λ t. other (eqb-false a b t))

module _ {A : Type 0} (x y r : A) where
  pub was_lt : (a b : ℕ) → if_lt a b x y ≡ r → (y ≡ r → ⊥) → (a < b) × (x ≡ r)
  unfolding if_lt
  was_lt a b e other = by_test (ltb a b) (λ t. (ltb-true a b t, rw t at e)) (λ t. absurd (other (rw t at e)))

  pub was_ge : (a b : ℕ) → if_lt a b x y ≡ r → (x ≡ r → ⊥) → (b ≤ a) × (y ≡ r)
  unfolding if_lt
  was_ge a b e other = by_test (ltb a b) (λ t. absurd (other (rw t at e))) (λ t. (ltb-false a b t, rw t at e))

  pub was_eq : (a b : ℕ) → if_eq a b x y ≡ r → (y ≡ r → ⊥) → (a ≡ b) × (x ≡ r)
  unfolding if_eq
  was_eq a b e other = by_test (eqb a b) (λ t. (eqb-true a b t, rw t at e)) (λ t. absurd (other (rw t at e)))

  pub was_ne : (a b : ℕ) → if_eq a b x y ≡ r → (x ≡ r → ⊥) → (a ≡ b → ⊥) × (y ≡ r)
  unfolding if_eq
  was_ne a b e other = by_test (eqb a b) (λ t. absurd (other (rw t at e))) (λ t. (eqb-false a b t, rw t at e))

  pub was_on : (test : Bool) → if_on test x y ≡ r → (y ≡ r → ⊥) → (test ≡ true) × (x ≡ r)
  unfolding if_on
  was_on test e other = by_test test (λ t. (t, rw t at e)) (λ t. absurd (other (rw t at e)))

  pub was_off : (test : Bool) → if_on test x y ≡ r → (x ≡ r → ⊥) → (test ≡ false) × (y ≡ r)
  unfolding if_on
  was_off test e other = by_test test (λ t. absurd (other (rw t at e))) (λ t. (t, rw t at e))

-- ---- what holds of both answers holds of the choice
module _ {A : Type 0} (P : A → Type 0) (x y : A) (one : P x) (other : P y) where
  pub either_on : (test : Bool) → P (if_on test x y)
  unfolding if_on
  either_on true = one
  either_on false = other

  pub either_lt : (a b : ℕ) → P (if_lt a b x y)
  unfolding if_lt if_on
  either_lt a b = either_on (ltb a b)

  pub either_eq : (a b : ℕ) → P (if_eq a b x y)
  unfolding if_eq if_on
  either_eq a b = either_on (eqb a b)

pub ruleset choices = (if_on_lem, if_off_lem, if_lt_lem, if_ge, if_eq_lem, if_ne_lem)
