-- What a change of one place leaves true of all of them: limits, identifiers known, and no identifier twice.
-- Assumes nothing.
use Prim.Native.Nat.{ℕ, zero, suc, ◌<◌}
use native.Mathlib.Omega.{arith}
use mathlib.Core.Path.{◌≡◌, refl, sym, subst}
use mathlib.Core.Bool.{Bool, true, false, ◌&&◌, or-true, and-eq-true_iff}
use mathlib.Core.List.{List, [], ◌∷◌}
use lib.ListN.{length, get_or}
use lib.Dec.{eqb}
use borrow.Author.Tests.{eq-eqb, eqb-true, not-true}
use Rattle.nbr_metric_spec.specs.declared.Place.{Place}
use Rattle.nbr_metric_spec.specs.Metric.{blank}
use Rattle.nbr_table_spec.specs.Places.{change_first, first_of, free, known, named, some_place, twice, unfit}
use Rattle.nbr_table_spec.proofs.PlaceLaws.{clash, neither}
use Rattle.octets_spec.proofs.ChoiceLaws.{by_test}

-- ---- one place
pub named_says : (n : ℕ) (p : Place) → named n p ≡ true → (p.used ≡ true) × (p.id ≡ n)
unfolding named
named_says n p h = let k = (and-eq-true_iff p.used (eqb p.id n)).0 h in (k.0, eqb-true p.id n k.1)

named_self : (p : Place) → p.used ≡ true → named p.id p ≡ true
unfolding named
named_self p u = simp (u, eq-eqb p.id p.id refl)

named_used : (n : ℕ) (p : Place) → p.used ≡ true → named n p ≡ false → p.id ≡ n → ⊥
named_used n p u h e = clash (named n p) (subst (λ (m : ℕ). named m p ≡ true) e (named_self p u)) h

pub free_not_named : (n : ℕ) (p : Place) → free p ≡ true → named n p ≡ true → ⊥
unfolding free
free_not_named n p f h = clash p.used (named_says n p h).0 (not-true p.used f)

-- ---- a change of the first place that meets a test
module _ (f : Place → Bool) (g : Place → Place) where
  pub fit_kept : ((p : Place) → f p ≡ true → unfit p ≡ false → unfit (g p) ≡ false) → (ps : List Place) → some_place unfit ps ≡ false → some_place unfit (change_first f g ps) ≡ false
  unfolding some_place change_first
  fit_kept k [] h = refl
  fit_kept k (p ∷ ps) h =
      let n = neither (unfit p) (some_place unfit ps) h in
      by_test (f p) (λ e. rw e (rw (k p e n.0) n.1)) (λ e. rw e (rw n.0 (fit_kept k ps n.1)))

  module _ (m : ℕ) where
    pub known_kept : ((p : Place) → f p ≡ true → named m p ≡ true → named m (g p) ≡ true) → (ps : List Place) → known m ps ≡ true → known m (change_first f g ps) ≡ true
    unfolding some_place change_first
    known_kept k [] h = h
    known_kept k (p ∷ ps) h =
        by_test (named m p)
        (λ u. by_test (f p) (λ e. rw e (rw (k p e u))) (λ e. rw e (rw u)))
        (λ u. let r : known m ps ≡ true = rw u at h in by_test (f p) (λ e. rw e (rw r (or-true (named m (g p))))) (λ e. rw e (rw (known_kept k ps r) (or-true (named m p)))))

    pub unknown_kept : ((p : Place) → f p ≡ true → named m p ≡ false → named m (g p) ≡ false) → (ps : List Place) → known m ps ≡ false → known m (change_first f g ps) ≡ false
    unfolding some_place change_first
    unknown_kept k [] h = refl
    unknown_kept k (p ∷ ps) h =
        let n = neither (named m p) (known m ps) h in
        by_test (f p) (λ e. rw e (rw (k p e n.0) n.1)) (λ e. rw e (rw n.0 (unknown_kept k ps n.1)))

  -- a change that leaves mark and identifier
  module _ (u : (p : Place) → (g p).used ≡ p.used) (i : (p : Place) → (g p).id ≡ p.id) where
    pub same_named : (m : ℕ) (p : Place) → named m (g p) ≡ named m p
    unfolding named
    same_named m p = rw (u p, i p)

    pub same_known : (m : ℕ) (ps : List Place) → known m (change_first f g ps) ≡ known m ps
    unfolding some_place change_first
    same_known m [] = refl
    same_known m (p ∷ ps) = by_test (f p) (λ e. rw e (rw (same_named m p))) (λ e. rw e (rw (same_known m ps)))

    pub same_twice : (ps : List Place) → twice (change_first f g ps) ≡ twice ps
    unfolding twice change_first
    same_twice [] = refl
    same_twice (p ∷ ps) = by_test (f p) (λ e. rw e (rw (u p, i p))) (λ e. rw e (rw (same_known p.id ps, same_twice ps)))

-- a place q is put where the first place that meets a test stood, and its identifier stood nowhere
module _ (f : Place → Bool) (q : Place) where
  pub twice_put : (ps : List Place) → (q.used ≡ true → known q.id ps ≡ false) → twice ps ≡ false → twice (change_first f (λ p. q) ps) ≡ false
  unfolding twice change_first some_place
  twice_put [] k h = refl
  twice_put (p ∷ ps) k h =
      let n = neither (p.used && known p.id ps) (twice ps) h in
      let r : q.used ≡ true → known q.id ps ≡ false = λ u. (neither (named q.id p) (known q.id ps) (k u)).1 in
      let first : (q.used && known q.id ps) ≡ false = by_test q.used (λ u. rw u (r u)) (λ u. rw u) in
      let apart : (q.used ≡ true) → (p.used ≡ true) → named p.id q ≡ false =
      λ u v. by_test (named p.id q) (λ w. absurd (named_used q.id p v (neither (named q.id p) (known q.id ps) (k u)).0 (sym (named_says p.id q w).1))) (λ w. w) in
      let other : p.used ≡ true → named p.id q ≡ false =
      λ v. by_test (named p.id q) (λ w. apart (named_says p.id q w).0 v) (λ w. w) in
      let second : (p.used && known p.id (change_first f (λ z. q) ps)) ≡ false =
      by_test p.used
      (λ v. rw v (unknown_kept f (λ z. q) p.id (λ z e w. other v) ps (let y : known p.id ps ≡ false = rw v at n.0 in y)))
      (λ v. rw v) in
      by_test (f p) (λ e. rw e (rw first n.1)) (λ e. rw e (rw second (twice_put ps r n.1)))

-- ---- places by number
pub known_at : (ps : List Place) (i : ℕ) → i < length ps → (get_or ps i blank).used ≡ true → known (get_or ps i blank).id ps ≡ true
unfolding some_place
known_at [] i l u = absurd (omega arith)
known_at (p ∷ ps) zero l u = rw (named_self p u)
known_at (p ∷ ps) (suc i) l u = rw (known_at ps i (omega arith) u) (or-true (named (get_or ps i blank).id p))

-- where no identifier stands twice, a place in use is the first with its identifier
pub first_at : (ps : List Place) (i : ℕ) → i < length ps → (get_or ps i blank).used ≡ true → twice ps ≡ false → first_of (named (get_or ps i blank).id) ps ≡ get_or ps i blank
unfolding first_of twice
first_at [] i l u h = absurd (omega arith)
first_at (p ∷ ps) zero l u h = rw (named_self p u)
first_at (p ∷ ps) (suc i) l u h =
    let n = neither (p.used && known p.id ps) (twice ps) h in
    by_test (named (get_or ps i blank).id p)
    (λ e.
    let s = named_says (get_or ps i blank).id p e in
    let k : known p.id ps ≡ true = rw s.1 (known_at ps i (omega arith) u) in
    clash (p.used && known p.id ps) (rw (s.0, k)) n.0)
    (λ e. rw e (first_at ps i (omega arith) u n.1))

-- a place that is found stands at some number
pub first_stands : (f : Place → Bool) (ps : List Place) → some_place f ps ≡ true → (i : ℕ) × (i < length ps) × (get_or ps i blank ≡ first_of f ps)
unfolding some_place first_of
first_stands f [] h = clash false h refl
first_stands f (p ∷ ps) h =
    by_test (f p) (λ e. rw e (0, omega arith, refl))
    (λ e. let s = first_stands f ps (rw e at h) in rw e (suc s.0, omega arith, s.2))

pub first_named : (n : ℕ) (ps : List Place) → known n ps ≡ true → (first_of (named n) ps).id ≡ n
unfolding some_place first_of
first_named n [] h = clash false h refl
first_named n (p ∷ ps) h = by_test (named n p) (λ e. rw e (named_says n p e).1) (λ e. rw e (first_named n ps (rw e at h)))
