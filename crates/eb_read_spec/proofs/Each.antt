-- What holds of each answer of a choice, given how its test came out, holds of the choice. Assumes nothing.
use Prim.Native.Nat.{ℕ, ◌<◌, ◌≤◌}
use mathlib.Core.Path.{◌≡◌, refl, subst}
use mathlib.Core.Bool.{Bool, true, false}
use borrow.Author.Tests.{ltb-true, ltb-false, eqb-true, eqb-false}
use lib.Dec.{ltb, eqb}
use Rattle.octets_spec.specs.Choice.{if_on, if_lt, if_eq}
use Rattle.octets_spec.proofs.ChoiceLaws.{if_eq_lem, if_ne_lem}

module _ {A : Type 0} (P : A → Type 0) (x y : A) where
  each_on : (test : Bool) → (test ≡ true → P x) → (test ≡ false → P y) → P (if_on test x y)
  unfolding if_on
  each_on true one other = one refl
  each_on false one other = other refl

  pub each_lt : (a b : ℕ) → (a < b → P x) → (b ≤ a → P y) → P (if_lt a b x y)
  unfolding if_lt if_on
  each_lt a b one other = each_on (ltb a b) (λ t. one (ltb-true a b t)) (λ t. other (ltb-false a b t))

  pub each_eq : (a b : ℕ) → (a ≡ b → P x) → ((a ≡ b → ⊥) → P y) → P (if_eq a b x y)
  unfolding if_eq if_on
  each_eq a b one other = each_on (eqb a b) (λ t. one (eqb-true a b t)) (λ t. other (eqb-false a b t))

-- and of two choices by one test
pub each_eq_2 : {A B : Type 0} (P : A → B → Type 0) (x y : A) (u v : B) (a b : ℕ) → (a ≡ b → P x u) → ((a ≡ b → ⊥) → P y v) → P (if_eq a b x y) (if_eq a b u v)
each_eq_2 P x y u v a b one other =
    each_eq (λ z. P z (if_eq a b u v)) x y a b (λ e. subst (P x) (if_eq_lem u v a b e refl) (one e)) (λ n. subst (P y) (if_ne_lem u v a b n refl) (other n))
