-- Every call keeps a table that is not refused so, and a forgotten place is free again. Assumes nothing.
use Rattle.std.proofs.Common.{Option, Some, None}
use Prim.Native.Nat.{ℕ, ◌+◌, ◌-◌, ◌/◌, ◌≤◌}
use native.Mathlib.Omega.{arith}
use mathlib.Core.Path.{◌≡◌, refl, sym, subst, ◌∙◌}
use mathlib.Core.Bool.{Bool, true, false, cond, ◌||◌, or-true}
use mathlib.Core.List.{List, [], ◌∷◌}
use lib.Dec.{ltb, eqb}
use borrow.Author.Tests.{eqb-false, le-ltb, ltb-false, not-false}
use Rattle.octets_spec.specs.Choice.{if_eq, if_lt, if_on}
use Rattle.octets_spec.proofs.ChoiceLaws.{by_test}
use Rattle.nbr_metric_spec.specs.declared.Place.{Place}
use Rattle.nbr_metric_spec.specs.Metric.{blank, eligible, path_cost}
use Rattle.nbr_metric_spec.proofs.MetricLaws.{eligible_used}
use Rattle.nbr_table_spec.specs.Places.{best, change_first, free, known, named, nonzero, some_place, twice, unfit}
use Rattle.nbr_table_spec.proofs.PlaceLaws.{clash, fit_limits, neither}
use Rattle.nbr_table_spec.specs.declared.Table.{Table}
use Rattle.nbr_table_spec.specs.Changes.{attempted, newcomer, with_counters, with_rank}
use Rattle.nbr_table_spec.specs.Calls.{advertised, parent_missing, broken, chosen, evaluated, forgotten, held, reported, with_parent, with_places, without}
use Rattle.nbr_soundness_spec.specs.Soundness.{CallsKeepTables, ForgetMakesRoom}
use Rattle.nbr_soundness_spec.proofs.Best.{best_is_a_place}
use Rattle.nbr_soundness_spec.proofs.Places.{fit_kept, free_not_named, known_at, known_kept, named_says, same_known, same_twice, twice_put}

-- ---- the rules that a table keeps, apart and together
pub record Sound (ps : List Place) (q : Option ℕ) : Type 0 where
  pub fit : some_place unfit ps ≡ false
  pub apart : twice ps ≡ false
  pub there : parent_missing q ps ≡ false

pub sound : (t : Table) → broken t ≡ false → Sound t.places t.parent
unfolding broken
sound t h =
    let n₁ = neither (some_place unfit t.places) (twice t.places || parent_missing t.parent t.places) h in
    let n₂ = neither (twice t.places) (parent_missing t.parent t.places) n₁.1 in
    record { fit = n₁.0; apart = n₂.0; there = n₂.1 }

pub unbroken : (t : Table) → Sound t.places t.parent → broken t ≡ false
unfolding broken
unbroken t s = simp (s.fit, s.apart, s.there)

-- a held parent is known
pub held_known : (m : ℕ) (ps : List Place) → parent_missing (Some m) ps ≡ false → known m ps ≡ true
unfolding parent_missing
held_known m ps h = not-false (known m ps) h

there_known : (m : ℕ) (ps : List Place) → known m ps ≡ true → parent_missing (Some m) ps ≡ false
unfolding parent_missing
there_known m ps h = rw h

there_kept : (q : Option ℕ) (ps qs : List Place) → ((m : ℕ) → known m ps ≡ true → known m qs ≡ true) → parent_missing q ps ≡ false → parent_missing q qs ≡ false
unfolding parent_missing
there_kept None ps qs k h = refl
there_kept (Some m) ps qs k h = there_known m qs (k m (held_known m ps h))

-- ---- a place in use stays within its limits
fit_used : (p : Place) → p.used ≡ true → p.attempts ≤ 255 → p.acked ≤ p.attempts → unfit p ≡ false
unfolding unfit free
fit_used p u t a = simp (le-ltb 255 p.attempts t, le-ltb p.attempts p.acked a, u)

module _ (n : ℕ) (p : Place) (e : named n p ≡ true) (h : unfit p ≡ false) where
  rank_fit : (rank : ℕ) → unfit (with_rank rank p) ≡ false
  rank_fit rank = fit_used (with_rank rank p) (named_says n p e).0 (fit_limits p h).0 (fit_limits p h).1

  one_at_most : (ok : Bool) → cond ok 1 0 ≤ 1
  one_at_most true = omega arith
  one_at_most false = omega arith

  attempted_fit : (k : ℕ) (ok : Bool) → 1 ≤ k → k ≤ 4 → unfit (attempted k ok p) ≡ false
  unfolding attempted if_lt
  attempted_fit k ok lo hi =
      let u = (named_says n p e).0 in
      let l = fit_limits p h in
      let one = one_at_most ok in
      by_test (ltb 255 (p.attempts + k))
      (λ s. rw s (fit_used (with_counters (p.attempts / 2 + k) (p.acked / 2 + cond ok 1 0) p) u (omega arith) (omega arith)))
      (λ s. rw s (let m = ltb-false 255 (p.attempts + k) s in fit_used (with_counters (p.attempts + k) (p.acked + cond ok 1 0) p) u (omega arith) (omega arith)))

attempted_same : (k : ℕ) (ok : Bool) (p : Place) → ((attempted k ok p).used ≡ p.used) × ((attempted k ok p).id ≡ p.id)
unfolding attempted if_lt
attempted_same k ok p = by_test (ltb 255 (p.attempts + k)) (λ s. rw s (refl, refl)) (λ s. rw s (refl, refl))

pub blank_fit : unfit blank ≡ false
unfolding unfit free nonzero
blank_fit = refl

blank_unnamed : (m : ℕ) → named m blank ≡ false
unfolding named
blank_unnamed m = refl

-- ---- the calls
-- a table without neighbour n
abbrev removed : Table → ℕ → Table
removed t n = record { places = change_first (named n) (λ p. blank) t.places; parent = without n t.parent }

module _ (t : Table) (h : broken t ≡ false) where
  -- a change of a neighbour's place that leaves mark and identifier
  changed_sound : (n : ℕ) (g : Place → Place) → ((p : Place) → named n p ≡ true → unfit p ≡ false → unfit (g p) ≡ false) → ((p : Place) → (g p).used ≡ p.used) → ((p : Place) → (g p).id ≡ p.id) → broken (with_places t (change_first (named n) g t.places)) ≡ false
  changed_sound n g k u i =
      let s = sound t h in
      unbroken (with_places t (change_first (named n) g t.places))
      (record {
        fit = fit_kept (named n) g k t.places s.fit;
        apart = same_twice (named n) g u i t.places ∙ s.apart;
        there = there_kept t.parent t.places (change_first (named n) g t.places) (λ m e. same_known (named n) g u i m t.places ∙ e) s.there;
      })

  added_sound : (n rank : ℕ) → known n t.places ≡ false → broken (with_places t (change_first free (λ p. newcomer n rank) t.places)) ≡ false
  added_sound n rank k =
      let s = sound t h in
      unbroken (with_places t (change_first free (λ p. newcomer n rank) t.places))
      (record {
        fit = fit_kept free (λ p. newcomer n rank) (λ p e l. fit_used (newcomer n rank) refl (omega arith) (omega arith)) t.places s.fit;
        apart = twice_put free (newcomer n rank) t.places (λ u. k) s.apart;
        there = there_kept t.parent t.places (change_first free (λ p. newcomer n rank) t.places) (λ m. known_kept free (λ p. newcomer n rank) m (λ p e l. absurd (free_not_named m p e l)) t.places) s.there;
      })

  pub advertised_sound : (n rank : ℕ) → broken (advertised t n rank).table ≡ false
  unfolding advertised if_on
  advertised_sound n rank =
      by_test (known n t.places)
      (λ e. rw (h, e) (changed_sound n (with_rank rank) (λ p u f. rank_fit n p u f rank) (λ p. refl) (λ p. refl)))
      (λ e. by_test (some_place free t.places) (λ f. rw (h, e, f) (added_sound n rank e)) (λ f. rw (h, e, f) h))

  pub reported_sound : (n k : ℕ) (ok : Bool) → broken (reported t n k ok).table ≡ false
  unfolding reported if_on if_lt
  reported_sound n k ok =
      by_test (ltb k 1) (λ a. rw (h, a) h)
      (λ a. by_test (ltb 4 k) (λ b. rw (h, a, b) h)
      (λ b. by_test (known n t.places)
      (λ e. rw (h, a, b, e) (changed_sound n (attempted k ok) (λ p u f. attempted_fit n p u f k ok (ltb-false k 1 a) (ltb-false 4 k b)) (λ p. (attempted_same k ok p).0) (λ p. (attempted_same k ok p).1)))
      (λ e. rw (h, a, b, e) h)))

  -- the held parent once neighbour n is removed
  left_there : (n : ℕ) (q : Option ℕ) → parent_missing q t.places ≡ false → parent_missing (without n q) (change_first (named n) (λ p. blank) t.places) ≡ false
  unfolding without parent_missing if_eq
  left_there n None a = refl
  left_there n (Some m) a =
      by_test (eqb m n) (λ e. rw e)
      (λ e. rw e
      (there_known m (change_first (named n) (λ p. blank) t.places)
      (known_kept (named n) (λ p. blank) m
      (λ p u v. absurd (eqb-false m n e (sym (named_says m p v).1 ∙ (named_says n p u).1))) t.places (held_known m t.places a))))

  removed_sound : (n : ℕ) → broken (removed t n) ≡ false
  removed_sound n =
      let s = sound t h in
      unbroken (removed t n)
      (record {
        fit = fit_kept (named n) (λ p. blank) (λ p e l. blank_fit) t.places s.fit;
        apart = twice_put (named n) blank t.places (λ u. clash false u refl) s.apart;
        there = left_there n t.parent s.there;
      })

  forgotten_is : (n : ℕ) → known n t.places ≡ true → (forgotten t n).table ≡ removed t n
  unfolding forgotten if_on
  forgotten_is n e = rw (h, e)

  pub forgotten_sound : (n : ℕ) → broken (forgotten t n).table ≡ false
  unfolding forgotten if_on
  forgotten_sound n = by_test (known n t.places) (λ e. rw (h, e) (removed_sound n)) (λ e. rw (h, e) h)

  -- any parent that is known, and none, may be held
  pub held_sound : (m : ℕ) → known m t.places ≡ true → broken (with_parent t (Some m)) ≡ false
  held_sound m k = let s = sound t h in unbroken (with_parent t (Some m)) (record { fit = s.fit; apart = s.apart; there = there_known m t.places k })

  pub none_sound : broken (with_parent t None) ≡ false
  unfolding parent_missing
  none_sound = let s = sound t h in unbroken (with_parent t None) (record { fit = s.fit; apart = s.apart; there = refl })

  -- an eligible best place is known
  pub best_known : eligible (best t.places) ≡ true → known (best t.places).id t.places ≡ true
  best_known e =
      let s = best_is_a_place t.places e in
      subst (λ (p : Place). known p.id t.places ≡ true) s.2
      (known_at t.places s.0 s.1 (subst (λ (p : Place). p.used ≡ true) (sym s.2) (eligible_used (best t.places) e)))

  pub evaluated_sound : broken (evaluated t).table ≡ false
  unfolding evaluated chosen if_on if_lt
  evaluated_sound =
      by_test (eligible (best t.places))
      (λ e.
      let m = held_sound (best t.places).id (best_known e) in
      by_test (eligible (held t))
      (λ f. by_test (ltb 640 (path_cost (held t) - path_cost (best t.places))) (λ g. rw (h, e, f, g) m) (λ g. rw (h, e, f, g) h))
      (λ f. rw (h, e, f) m))
      (λ e. rw (h, e) none_sound)

pub calls_keep_tables : CallsKeepTables
calls_keep_tables t h = (advertised_sound t h, reported_sound t h, forgotten_sound t h, evaluated_sound t h)

-- ---- room after a forget
freed : (n : ℕ) (ps : List Place) → known n ps ≡ true → some_place free (change_first (named n) (λ p. blank) ps) ≡ true
unfolding some_place change_first free
freed n [] h = h
freed n (p ∷ ps) h = by_test (named n p) (λ e. rw e) (λ e. rw e (rw (freed n ps (rw e at h)) (or-true (free p))))

accepted : (t : Table) → broken t ≡ false → some_place free t.places ≡ true → (m rank : ℕ) → (advertised t m rank).number ≡ 0
unfolding advertised if_on
accepted t h f m rank = by_test (known m t.places) (λ e. rw (h, e)) (λ e. rw (h, e, f))

pub forget_makes_room : ForgetMakesRoom
forget_makes_room t n m rank h k = rw (forgotten_is t h n k) (accepted (removed t n) (removed_sound t h n) (freed n t.places k) m rank)
