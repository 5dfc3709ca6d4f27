-- What comparing two frames answers: a list where both are done, and none where one is refused; a list has 77 entries, of which the first are the
-- differences. Assumes nothing.
use Prim.Native.Nat.{◌-◌, ◌≤◌}
use mathlib.Core.Path.{◌≡◌, refl, sym, ◌∙◌, ap}
use mathlib.Core.Bool.{true, true≢false}
use mathlib.Core.Logic.{◌↔◌}
use mathlib.Core.List.{List}
use native.Mathlib.Omega.{arith}
use lib.ListN.{length, replicate, length-append, length-replicate}
use Rattle.octets_spec.specs.Choice.{if_eq}
use Rattle.octets_spec.proofs.ChoiceLaws.{if_eq_lem, if_ne_lem, by_eq}
use Rattle.refusal.specs.Refusal.{done}
use Rattle.eb_read_spec.specs.Read.{ReadAnswer}
use Rattle.compare_spec.specs.declared.Difference.{Difference}
use Rattle.compare_spec.specs.Claims.{ListedWhenBothDone}
use Rattle.compare_spec.specs.Compare.{Comparison, Differences, differences, blank_difference, list_of, no_list, compared}

-- ---- each way out, as code meets it
module _ (one other : ReadAnswer) (d : Differences) where
  abbrev list : Differences
  list = list_of (differences one.beacon other.beacon)

  -- the answer that has these differences
  abbrev answer : Comparison
  answer = record { first = one.number; second = other.number; differences = d }

  answer_is : d ≡ if_eq one.number done (if_eq other.number done list no_list) no_list → answer ≡ compared one other
  unfolding compared
  answer_is e = λ i. record { first = one.number; second = other.number; differences = e i }

  pub answer_listed : one.number ≡ done → other.number ≡ done → d ≡ list → answer ≡ compared one other
  answer_listed first second e = answer_is (if_eq_lem _ _ one.number done first (if_eq_lem _ _ other.number done second e))

  pub answer_first_refused : (one.number ≡ done → ⊥) → d ≡ no_list → answer ≡ compared one other
  answer_first_refused refused e = answer_is (if_ne_lem _ _ one.number done refused e)

  pub answer_second_refused : (other.number ≡ done → ⊥) → d ≡ no_list → answer ≡ compared one other
  answer_second_refused refused e =
      by_eq one.number done (λ first. answer_is (if_eq_lem _ _ one.number done first (if_ne_lem _ _ other.number done refused e))) (λ not. answer_first_refused not e)

-- ---- a list is given exactly when both frames are done
module _ (one other : ReadAnswer) where
  pub list_given : one.number ≡ done → other.number ≡ done → (compared one other).differences ≡ list_of (differences one.beacon other.beacon)
  list_given first second = ap (λ (c : Comparison). c.differences) (sym (answer_listed one other _ first second refl))

  pub none_given_first : (one.number ≡ done → ⊥) → (compared one other).differences ≡ no_list
  none_given_first refused = ap (λ (c : Comparison). c.differences) (sym (answer_first_refused one other _ refused refl))

  pub none_given_second : (other.number ≡ done → ⊥) → (compared one other).differences ≡ no_list
  none_given_second refused = ap (λ (c : Comparison). c.differences) (sym (answer_second_refused one other _ refused refl))

  no_list_lem : (compared one other).differences ≡ no_list → (compared one other).differences.listed ≡ true → ⊥
  unfolding no_list
  no_list_lem is listed = true≢false (sym listed ∙ ap (λ (d : Differences). d.listed) is)

  given_when_both_done : ((compared one other).differences.listed ≡ true) ↔ ((one.number ≡ done) × (other.number ≡ done))
  unfolding list_of
  given_when_both_done = (
    λ listed.
        by_eq one.number done
        (λ first. by_eq other.number done (λ second. (first, second)) (λ refused. absurd (no_list_lem (none_given_second refused) listed)))
        (λ refused. absurd (no_list_lem (none_given_first refused) listed)),
    λ both. ap (λ (d : Differences). d.listed) (list_given both.0 both.1),
  )

pub listed_when_both_done : ListedWhenBothDone
listed_when_both_done = given_when_both_done

-- ---- the entries of a list
pub length_entries : (found : List Difference) → length found ≤ 77 → length (list_of found).entries ≡ 77
unfolding list_of
length_entries found few = length-append found (replicate (77 - length found) blank_difference) ∙ omega (arith, length-replicate (77 - length found) blank_difference)
