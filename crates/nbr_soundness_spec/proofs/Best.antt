-- The best place comes first among the eligible ones, and is one of the places; so it is by any key and any test that the blank place
-- does not pass (`first_by_key`, `stands_by_key`). Assumes nothing.
use Prim.Native.Nat.{ℕ, zero, suc, ◌<◌, ◌≤◌}
use native.Mathlib.Nat.{le_refl}
use native.Mathlib.Omega.{arith}
use mathlib.Core.Path.{◌≡◌, refl, sym, ◌∙◌}
use mathlib.Core.Bool.{Bool, true, false}
use mathlib.Core.List.{List, [], ◌∷◌}
use mathlib.Core.Logic.{◌⊎◌, inl, inr, ⊎_elim}
use lib.ListN.{length, get_or}
use lib.Dec.{ltb}
use borrow.Author.Tests.{ltb-true, ltb-false}
use Rattle.octets_spec.specs.Choice.{if_lt, if_on}
use Rattle.octets_spec.proofs.ChoiceLaws.{by_test}
use Rattle.nbr_metric_spec.specs.declared.Place.{Place}
use Rattle.nbr_metric_spec.specs.Metric.{blank, eligible, path_cost}
use Rattle.nbr_metric_spec.proofs.MetricLaws.{blank_not_eligible}
use Rattle.nbr_table_spec.specs.Places.{best_of, better, lesser}
use Rattle.nbr_table_spec.proofs.PlaceLaws.{clash}
use Rattle.nbr_soundness_spec.specs.Soundness.{NotAfter, BestComesFirst, BestIsAPlace}

-- x stands in ps at some number
abbrev pub Stands : Place → List Place → Type 0
Stands x ps = (i : ℕ) × (i < length ps) × (get_or ps i blank ≡ x)

-- ---- by any key and any test
module _ (key : Place → ℕ) where
  not_after_self : (p : Place) → NotAfter key p p
  not_after_self p = (le_refl (key p), λ e. le_refl p.id)

  not_after_trans : (a b c : Place) → NotAfter key a b → NotAfter key b c → NotAfter key a c
  not_after_trans a b c h k = (
    omega arith,
    λ e.
        let i : a.id ≤ b.id = h.1 (omega arith) in
        let j : b.id ≤ c.id = k.1 (omega arith) in
        omega arith,
  )

  module _ (test : Place → Bool) where
    -- the better of two
    module _ (b p : Place) where
      lesser_is : (lesser key b p ≡ b) ⊎ (lesser key b p ≡ p)
      unfolding lesser if_lt
      lesser_is =
          by_test (ltb (key p) (key b)) (λ e. rw e (inr refl))
          (λ e. by_test (ltb (key b) (key p)) (λ f. rw (e, f) (inl refl))
          (λ f. by_test (ltb p.id b.id) (λ g. rw (e, f, g) (inr refl)) (λ g. rw (e, f, g) (inl refl))))

      lesser_first : NotAfter key (lesser key b p) b × NotAfter key (lesser key b p) p
      unfolding lesser if_lt
      lesser_first =
          by_test (ltb (key p) (key b))
          (λ e. rw e (let h : key p < key b = ltb-true (key p) (key b) e in ((omega arith, λ z. absurd (omega arith)), not_after_self p)))
          (λ e. let h : key b ≤ key p = ltb-false (key p) (key b) e in
          by_test (ltb (key b) (key p))
          (λ f. rw (e, f) (let k : key b < key p = ltb-true (key b) (key p) f in (not_after_self b, (omega arith, λ z. absurd (omega arith)))))
          (λ f. let k : key p ≤ key b = ltb-false (key b) (key p) f in
          by_test (ltb p.id b.id)
          (λ g. rw (e, f, g) (let l : p.id < b.id = ltb-true p.id b.id g in ((omega arith, λ z. omega arith), not_after_self p)))
          (λ g. rw (e, f, g) (let l : b.id ≤ p.id = ltb-false p.id b.id g in (not_after_self b, (omega arith, λ z. omega arith))))))

      better_is : (better test key b p ≡ b) ⊎ (better test key b p ≡ p)
      unfolding better if_on
      better_is = by_test (test p) (λ e. by_test (test b) (λ f. rw (e, f) lesser_is) (λ f. rw (e, f) (inr refl))) (λ e. rw e (inl refl))

      lesser_passes : test b ≡ true → test p ≡ true → test (lesser key b p) ≡ true
      lesser_passes h k = ⊎_elim (λ e. rw e h) (λ e. rw e k) lesser_is

      better_old : test b ≡ true → (test (better test key b p) ≡ true) × NotAfter key (better test key b p) b
      unfolding better if_on
      better_old h = by_test (test p) (λ e. rw (e, h) (lesser_passes h e, lesser_first.0)) (λ e. rw e (h, not_after_self b))

      better_new : test p ≡ true → (test (better test key b p) ≡ true) × NotAfter key (better test key b p) p
      unfolding better if_on
      better_new h = by_test (test b) (λ e. rw (h, e) (lesser_passes e h, lesser_first.1)) (λ e. rw (h, e) (h, not_after_self p))

    -- the best of the places and b
    best_old : (b : Place) (ps : List Place) → test b ≡ true → (test (best_of test key b ps) ≡ true) × NotAfter key (best_of test key b ps) b
    unfolding best_of
    best_old b [] h = (h, not_after_self b)
    best_old b (p ∷ ps) h =
        let k = better_old b p h in
        let l = best_old (better test key b p) ps k.0 in
        (l.0, not_after_trans (best_of test key (better test key b p) ps) (better test key b p) b l.1 k.1)

    best_is : (b : Place) (ps : List Place) → (best_of test key b ps ≡ b) ⊎ Stands (best_of test key b ps) ps
    unfolding best_of
    best_is b [] = inl refl
    best_is b (p ∷ ps) =
        ⊎_elim (λ e. ⊎_elim (λ f. inl (e ∙ f)) (λ f. inr (0, omega arith, sym (e ∙ f))) (better_is b p))
        (λ s. inr (suc s.0, omega arith, s.2)) (best_is (better test key b p) ps)

    module _ (none : test blank ≡ false) where
      best_new : (b : Place) (ps : List Place) (i : ℕ) → test (get_or ps i blank) ≡ true → (test (best_of test key b ps) ≡ true) × NotAfter key (best_of test key b ps) (get_or ps i blank)
      unfolding best_of
      best_new b [] i h = clash (test blank) h none
      best_new b (p ∷ ps) zero h =
          let k = better_new b p h in
          let l = best_old (better test key b p) ps k.0 in
          (l.0, not_after_trans (best_of test key (better test key b p) ps) (better test key b p) p l.1 k.1)
      best_new b (p ∷ ps) (suc i) h = best_new (better test key b p) ps i h

      pub first_by_key : (ps : List Place) (i : ℕ) → test (get_or ps i blank) ≡ true → (test (best_of test key blank ps) ≡ true) × NotAfter key (best_of test key blank ps) (get_or ps i blank)
      first_by_key ps i h = best_new blank ps i h

      pub stands_by_key : (ps : List Place) → test (best_of test key blank ps) ≡ true → Stands (best_of test key blank ps) ps
      stands_by_key ps h = ⊎_elim (λ e. clash (test blank) (rw e at h) none) (λ s. s) (best_is blank ps)

-- ---- the claims
pub best_comes_first : BestComesFirst
best_comes_first ps i h = first_by_key path_cost eligible blank_not_eligible ps i h

pub best_is_a_place : BestIsAPlace
best_is_a_place ps h = stands_by_key path_cost eligible blank_not_eligible ps h
