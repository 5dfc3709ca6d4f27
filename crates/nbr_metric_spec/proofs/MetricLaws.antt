-- The laws of the metric: each way out of its functions, as the code meets it (the rulesets at the end), and what the crates above rest on
-- (`cost_above_rank`, `cost_from`, `cost_to`, `fresh_neighbour`, `unanswered_is_not`): nothing there depends on the increment's form. Assumes nothing.
use Prim.Native.Nat.{ℕ, suc, ◌+◌, ◌*◌, ◌-◌, ◌/◌, ◌<◌, ◌≤◌}
use native.Mathlib.Nat.{lt-div-mul-add, div-lt_iff_lt-mul, lt_of_mul-lt-mul_right, suc-mul}
use native.Mathlib.Omega.{arith}
use Rattle.std.specs.Int.{div_ceil}
use Rattle.std.proofs.lemmas.Grind.{div_ceil_times}
use Rattle.std.proofs.lemmas.Nat.{div-mul-add}
use mathlib.Core.Path.{◌≡◌, refl, sym, ◌∙◌}
use mathlib.Core.Bool.{true, false, ◌&&◌, ◌||◌, and-eq-true_iff, and-false, or-true}
use lib.Dec.{eqb, leb, ltb}
use Rattle.octets_spec.specs.Choice.{if_on}
use borrow.Author.Tests.{eq-eqb, le-leb, lt-leb, leb-true, le-ltb, lt-ltb}
use Rattle.octets_spec.proofs.ChoiceLaws.{by_eq, by_lt, by_test, choices, if_ne_lem}
use Rattle.nbr_metric_spec.specs.declared.Place.{Place}
use Rattle.nbr_metric_spec.specs.Metric.{blank, FreshNeighbour, IsIncrement, IncrementIsCeiling, IncrementOfNone, UnansweredIsNot, increment, path_cost, eligible, offer}

-- ---- the increment
-- a quotient that is rounded up
ceil_is : (m v : ℕ) → 0 < v → div_ceil m v ≡ (m + (v - 1)) / v
ceil_is m v h =
    let b = div_ceil_times m v h in
    let q = div_ceil m v in
    let r = m + (v - 1) - q * v in
    let e : m + (v - 1) ≡ q * v + r = omega (arith, b.0, b.1) in
    let l : r < v = omega (arith, b.0, b.1) in
    rw e (sym (div-mul-add q v r l))

module _ (t a : ℕ) where
  pub increment_fresh : a ≡ 0 → t ≡ 0 → 768 ≡ increment t a
  unfolding increment
  increment_fresh e f = search choices

  pub increment_unanswered : a ≡ 0 → (t ≡ 0 → ⊥) → 0 ≡ increment t a
  unfolding increment
  increment_unanswered e f = search choices

  pub increment_some : (u v m : ℕ) → (a ≡ 0 → ⊥) → u ≡ t → v ≡ a → m ≡ 3 * u - 2 * v → (256 * m + (v - 1)) / v ≡ increment t a
  unfolding increment
  increment_some u v m h e f g =
      if_ne_lem _ ((256 * (3 * t - 2 * a) + (a - 1)) / a) a 0 h (rw (g, e, f))

  -- as the code has it, by a quotient that is rounded up
  pub increment_ceil : (u v m k : ℕ) → (a ≡ 0 → ⊥) → u ≡ t → v ≡ a → m ≡ 3 * u - 2 * v → k ≡ div_ceil (256 * m) v → k ≡ increment t a
  increment_ceil u v m k h e f g d = d ∙ ceil_is (256 * m) v (omega arith) ∙ increment_some u v m h e f g

  above : 1 ≤ a → 256 * (3 * t - 2 * a) + (a - 1) < increment t a * a + a
  above h = rw (← increment_some t a (3 * t - 2 * a) (λ e. omega arith) refl refl refl) (lt-div-mul-add h)

  pub is_increment : (n : ℕ) → n ≡ increment t a → 1 ≤ a → IsIncrement t a n
  unfolding IsIncrement
  is_increment n e h =
      rw e (
        omega (arith, above h),
        λ m l.
            let k : 256 * (3 * t - 2 * a) + (a - 1) < suc m * a = rw (suc-mul m a) (omega arith) in
            let d : (256 * (3 * t - 2 * a) + (a - 1)) / a < suc m = (div-lt_iff_lt-mul h).1 k in
            let s : (256 * (3 * t - 2 * a) + (a - 1)) / a ≡ increment t a = increment_some t a (3 * t - 2 * a) (λ e. omega arith) refl refl refl in
            omega arith,
      )

pub increment_is_ceiling : IncrementIsCeiling
increment_is_ceiling t a h = is_increment t a (increment t a) refl h

pub increment_of_none : IncrementOfNone
increment_of_none = (sym (increment_fresh 0 0 refl refl), λ t h. sym (increment_unanswered t 0 refl (λ e. omega arith)))

-- ---- path cost and eligibility
module _ (p : Place) where
  pub path_cost_is : (m n : ℕ) → m ≡ p.rank → n ≡ increment p.attempts p.acked → m + n ≡ path_cost p
  unfolding path_cost
  path_cost_is m n e f = rw (e, f)

  pub not_used : p.used ≡ false → false ≡ eligible p
  unfolding eligible
  not_used e = rw e

  pub low_rank : p.used ≡ true → p.rank < 256 → false ≡ eligible p
  unfolding eligible
  low_rank u h = simp (u, lt-leb 256 p.rank h)

  -- a link that is good enough has no attempt yet, or an acknowledged one
  answered : 3 * p.attempts ≤ 11 * p.acked → (eqb p.attempts 0 || leb 1 p.acked) ≡ true
  answered h =
      by_eq p.acked 0 (λ e. rw (eq-eqb p.attempts 0 (omega arith)))
      (λ e. rw (le-leb 1 p.acked (omega arith)) (or-true (eqb p.attempts 0)))

  module _ (m n : ℕ) (u : p.used ≡ true) (r : 256 ≤ p.rank) (e : m ≡ p.acked) (f : n ≡ p.attempts) where
    pub poor_link : 11 * m < 3 * n → false ≡ eligible p
    unfolding eligible
    poor_link h =
        let k : 11 * p.acked < 3 * p.attempts = omega arith in
        simp (u, le-leb 256 p.rank r, lt-leb (3 * p.attempts) (11 * p.acked) k, and-false)

    pub by_cost : (k : ℕ) → 3 * n ≤ 11 * m → k ≡ path_cost p → leb k 65534 ≡ eligible p
    unfolding eligible
    by_cost k h c =
        let l : 3 * p.attempts ≤ 11 * p.acked = omega arith in
        simp (c, u, le-leb 256 p.rank r, answered l, le-leb (3 * p.attempts) (11 * p.acked) l)

-- ---- what eligibility says, for the crates above
pub blank_not_eligible : eligible blank ≡ false
unfolding eligible
blank_not_eligible = refl

module _ (p : Place) (e : eligible p ≡ true) where
  parts : (p.used ≡ true) × (256 ≤ p.rank) × (3 * p.attempts ≤ 11 * p.acked) × (path_cost p ≤ 65534)
  unfolding eligible
  parts =
      let t = eqb p.attempts 0 || leb 1 p.acked in
      let l₁ = (and-eq-true_iff p.used (leb 256 p.rank && (t && (leb (3 * p.attempts) (11 * p.acked) && leb (path_cost p) 65534)))).0 e in
      let l₂ = (and-eq-true_iff (leb 256 p.rank) (t && (leb (3 * p.attempts) (11 * p.acked) && leb (path_cost p) 65534))).0 l₁.1 in
      let l₃ = (and-eq-true_iff t (leb (3 * p.attempts) (11 * p.acked) && leb (path_cost p) 65534)).0 l₂.1 in
      let l₄ = (and-eq-true_iff (leb (3 * p.attempts) (11 * p.acked)) (leb (path_cost p) 65534)).0 l₃.1 in
      (l₁.0, leb-true 256 p.rank l₂.0, leb-true (3 * p.attempts) (11 * p.acked) l₄.0, leb-true (path_cost p) 65534 l₄.1)

  pub eligible_used : p.used ≡ true
  eligible_used = parts.0

  -- an eligible neighbour's cost is at most 65534
  pub cost_to : path_cost p ≤ 65534
  cost_to = parts.3

  module _ (fair : p.acked ≤ p.attempts) where
    -- its increment is at least 256 where no more were acknowledged than attempted: 768 if none was
    increment_from : 256 ≤ increment p.attempts p.acked
    increment_from =
        by_eq p.acked 0 (λ z. omega (arith, increment_fresh p.attempts p.acked z (omega (arith, parts.2))))
        (λ z.
        let k : 256 * p.acked < suc (increment p.attempts p.acked) * p.acked = rw (suc-mul (increment p.attempts p.acked) p.acked) (omega (arith, above p.attempts p.acked (omega arith))) in
        let l : 256 < suc (increment p.attempts p.acked) = lt_of_mul-lt-mul_right p.acked k in
        omega arith)

    -- so it costs at least its rank and 256
    pub cost_above_rank : p.rank + 256 ≤ path_cost p
    unfolding path_cost
    cost_above_rank = omega (arith, increment_from)

    -- so at least 512
    pub cost_from : 512 ≤ path_cost p
    cost_from = omega (arith, parts.1, cost_above_rank)

-- ---- where none is acknowledged
pub unanswered_is_not : UnansweredIsNot
unanswered_is_not p t a = by_test (eligible p) (λ e. absurd (omega (arith, (parts p e).2))) (λ e. e)

module _ (p : Place) (u : p.used ≡ true) (t : p.attempts ≡ 0) (a : p.acked ≡ 0) where
  fresh_cost : p.rank + 768 ≡ path_cost p
  fresh_cost = path_cost_is p p.rank 768 refl (increment_fresh p.attempts p.acked a t)

  fresh_limit : leb (p.rank + 768) 65534 ≡ leb p.rank 64766
  fresh_limit =
      by_lt 64766 p.rank (λ h. rw (lt-leb p.rank 64766 h) (lt-leb (p.rank + 768) 65534 (omega arith)))
      (λ h. rw (le-leb p.rank 64766 h) (le-leb (p.rank + 768) 65534 (omega arith)))

  fresh_eligible : eligible p ≡ (leb 256 p.rank && leb p.rank 64766)
  fresh_eligible =
      by_lt p.rank 256 (λ h. rw (lt-leb 256 p.rank h) (sym (low_rank p u h)))
      (λ h. rw (le-leb 256 p.rank h) (sym (by_cost p p.acked p.attempts u h refl refl (p.rank + 768) (omega arith) fresh_cost) ∙ fresh_limit))

pub fresh_neighbour : FreshNeighbour
fresh_neighbour p u t a = (fresh_eligible p u t a, sym (fresh_cost p u t a))

-- ---- what a place offers
pub blank_offers : offer blank ≡ 65535
unfolding offer eligible if_on
blank_offers = refl

module _ (p : Place) where
  pub offer_eligible : eligible p ≡ true → path_cost p ≡ offer p
  unfolding offer
  offer_eligible e = search choices

  pub offer_not : eligible p ≡ false → 65535 ≡ offer p
  unfolding offer
  offer_not e = search choices

  -- each way out of the function
  pub offer_free : p.used ≡ false → 65535 ≡ offer p
  offer_free u = offer_not (sym (not_used p u))

  module _ (r m n : ℕ) (u : p.used ≡ true) (d : r ≡ p.rank) where
    pub offer_low : r < 256 → 65535 ≡ offer p
    offer_low h = offer_not (sym (low_rank p u (omega arith)))

    module _ (g : 256 ≤ r) (e : m ≡ p.acked) (f : n ≡ p.attempts) where
      pub offer_poor : 11 * m < 3 * n → 65535 ≡ offer p
      offer_poor h = offer_not (sym (poor_link p m n u (omega arith) e f h))

      module _ (k : ℕ) (h : 3 * n ≤ 11 * m) (c : k ≡ path_cost p) where
        pub offer_cost : k ≤ 65534 → k ≡ offer p
        offer_cost l = c ∙ offer_eligible (sym (by_cost p m n u (omega arith) e f k h c) ∙ le-leb k 65534 l)

        pub offer_dear : 65534 < k → 65535 ≡ offer p
        offer_dear l = offer_not (sym (by_cost p m n u (omega arith) e f k h c) ∙ lt-leb k 65534 l)

  pub offer_bound : (k : ℕ) → k ≡ offer p → k ≤ 65535
  offer_bound k e = by_test (eligible p) (λ h. omega (arith, offer_eligible h, cost_to p h)) (λ h. omega (arith, offer_not h))

  -- eligible exactly where the offer is below 65535
  pub eligible_is : (k : ℕ) → k ≡ offer p → ltb k 65535 ≡ eligible p
  eligible_is k e =
      by_test (eligible p) (λ h. lt-ltb k 65535 (omega (arith, offer_eligible h, cost_to p h)) ∙ sym h) (λ h. le-ltb k 65535 (omega (arith, offer_not h)) ∙ sym h)

  module _ (k : ℕ) (e : k ≡ offer p) where
    pub offered : k < 65535 → (eligible p ≡ true) × (k ≡ path_cost p)
    offered h = by_test (eligible p) (λ t. (t, omega (arith, offer_eligible t))) (λ t. absurd (omega (arith, offer_not t)))

    pub not_offered : 65535 ≤ k → eligible p ≡ false
    not_offered h = by_test (eligible p) (λ t. absurd (omega (arith, offer_eligible t, cost_to p t))) (λ t. t)

pub ruleset incrementWays = (increment_fresh, increment_unanswered, increment_ceil)

pub ruleset costWays = (path_cost_is, offer_free, offer_low, offer_poor, offer_cost, offer_dear, offer_bound, eligible_is)
