-- What an evaluation leaves: the places, and a parent whose cost is the own rank. Assumes nothing.
use Rattle.std.proofs.Common.{Option, Some, None}
use Prim.Native.Nat.{ℕ, ◌+◌, ◌-◌, ◌≤◌, ◌<◌}
use native.Mathlib.Omega.{arith}
use mathlib.Core.Path.{◌≡◌, refl, sym, ap, subst}
use mathlib.Core.Bool.{true, false}
use mathlib.Core.List.{List}
use mathlib.Core.Logic.{inl, inr}
use lib.ListN.{get_or}
use lib.Dec.{ltb}
use borrow.Author.Tests.{ltb-true}
use Rattle.octets_spec.specs.Choice.{if_lt, if_on}
use Rattle.octets_spec.proofs.ChoiceLaws.{by_test}
use Rattle.nbr_metric_spec.specs.declared.Place.{Place}
use Rattle.nbr_metric_spec.specs.Metric.{blank, eligible, path_cost}
use Rattle.nbr_metric_spec.proofs.MetricLaws.{blank_not_eligible, cost_above_rank, cost_from, cost_to, eligible_used}
use Rattle.nbr_table_spec.specs.Places.{best, first_of, named, unfit}
use Rattle.nbr_table_spec.proofs.PlaceLaws.{clash, fit_limits, none_at}
use Rattle.nbr_table_spec.specs.declared.Table.{Table}
use Rattle.nbr_table_spec.specs.Calls.{parent_missing, broken, chosen, evaluated, held, held_cost, held_place, mark_of, with_parent}
use Rattle.nbr_soundness_spec.specs.Soundness.{ChangesGain641, EligibleCosts, EvaluateKeepsPlaces, OwnRank}
use Rattle.nbr_soundness_spec.proofs.Best.{Stands, best_comes_first, best_is_a_place}
use Rattle.nbr_soundness_spec.proofs.Places.{first_at, first_named, first_stands}
use Rattle.nbr_soundness_spec.proofs.Kept.{best_known, blank_fit, held_known, held_sound, sound}

pub evaluate_keeps_places : EvaluateKeepsPlaces
unfolding evaluated chosen if_on if_lt
evaluate_keeps_places t = by_test (broken t) (λ h. rw h) (λ h. rw h)

module _ (t : Table) (h : broken t ≡ false) where
  -- the best place is the one that its identifier leads to
  best_held : eligible (best t.places) ≡ true → held (with_parent t (Some (best t.places).id)) ≡ best t.places
  unfolding held_place
  best_held e =
      let s = best_is_a_place t.places e in
      subst (λ (p : Place). first_of (named p.id) t.places ≡ p) s.2
      (first_at t.places s.0 s.1 (subst (λ (p : Place). p.used ≡ true) (sym s.2) (eligible_used (best t.places) e)) (sound t h).apart)

  -- an eligible held place is one of the places, in use by the held parent
  held_stands : (q : Option ℕ) → parent_missing q t.places ≡ false → eligible (held_place q t.places) ≡ true → Stands (held_place q t.places) t.places
  unfolding held_place
  held_stands None a e = clash (eligible blank) e blank_not_eligible
  held_stands (Some n) a e = first_stands (named n) t.places (held_known n t.places a)

  held_id : (q : Option ℕ) → parent_missing q t.places ≡ false → eligible (held_place q t.places) ≡ true → q ≡ Some (held_place q t.places).id
  unfolding held_place
  held_id None a e = clash (eligible blank) e blank_not_eligible
  held_id (Some n) a e = ap Some (sym (first_named n t.places (held_known n t.places a)))

  -- so the best place is eligible where the held one is
  best_eligible : eligible (held t) ≡ true → eligible (best t.places) ≡ true
  best_eligible e =
      let s = held_stands t.parent (sound t h).there e in
      (best_comes_first t.places s.0 (subst (λ (p : Place). eligible p ≡ true) (sym s.2) e)).0

  -- a place at some number is within its limits
  stands_fit : (p : Place) → Stands p t.places → p.acked ≤ p.attempts
  stands_fit p s = subst (λ (q : Place). q.acked ≤ q.attempts) s.2 (fit_limits (get_or t.places s.0 blank) (none_at unfit t.places s.0 blank_fit (sound t h).fit)).1

  taken_gain : eligible (best t.places) ≡ true → 640 < path_cost (held t) - path_cost (best t.places) → path_cost (held (with_parent t (Some (best t.places).id))) + 641 ≤ path_cost (held t)
  taken_gain e g = let k : path_cost (held (with_parent t (Some (best t.places).id))) ≡ path_cost (best t.places) = ap path_cost (best_held e) in omega arith

pub changes_gain_641 : ChangesGain641
unfolding evaluated chosen if_on if_lt
changes_gain_641 t f =
    by_test (broken t) (λ h. rw h (inl refl))
    (λ h.
    let e = best_eligible t h f in
    by_test (ltb 640 (path_cost (held t) - path_cost (best t.places)))
    (λ g. rw (h, e, f, g) (inr (taken_gain t h e (ltb-true 640 (path_cost (held t) - path_cost (best t.places)) g)))) (λ g. rw (h, e, f, g) (inl refl)))

-- ---- the held parent stays eligible, and costs at least 512
pub eligible_costs : EligibleCosts
eligible_costs p fair e = (cost_from p e fair, cost_to p e)

pub held_cost_from : (u : Table) → broken u ≡ false → eligible (held u) ≡ true → 512 ≤ path_cost (held u)
held_cost_from u h e = cost_from (held u) e (stands_fit u h (held u) (held_stands u h u.parent (sound u h).there e))

-- the cost of a held parent that is eligible is that of its place
cost_of_held : (q : Option ℕ) (ps : List Place) → eligible (held_place q ps) ≡ true → if_on (mark_of q) (path_cost (held_place q ps)) 0 ≡ path_cost (held_place q ps)
unfolding held_place mark_of if_on
cost_of_held None ps e = clash (eligible blank) e blank_not_eligible
cost_of_held (Some n) ps e = refl

pub held_cost_lem : (t : Table) → eligible (held t) ≡ true → held_cost t ≡ path_cost (held t)
held_cost_lem t e = cost_of_held t.parent t.places e

pub eligible_after : (t : Table) → broken t ≡ false → eligible (held t) ≡ true → eligible (held (evaluated t).table) ≡ true
unfolding evaluated chosen if_on if_lt
eligible_after t h f =
    let e = best_eligible t h f in
    by_test (ltb 640 (path_cost (held t) - path_cost (best t.places))) (λ g. rw (h, e, f, g) (rw (best_held t h e) e)) (λ g. rw (h, e, f, g) f)

-- ---- the own rank
-- u is the table and n the own rank after an evaluation that leaves a parent
abbrev Parented : Table → ℕ → Type 0
Parented u n = (u.parent ≡ Some (held u).id) × (eligible (held u) ≡ true) × (n ≡ path_cost (held u)) × ((held u).rank + 256 ≤ n) × (n ≤ 65534)

parented : (u : Table) → broken u ≡ false → eligible (held u) ≡ true → Parented u (path_cost (held u))
parented u h e =
    let s = (sound u h).there in
    (held_id u h u.parent s e, e, refl, cost_above_rank (held u) e (stands_fit u h (held u) (held_stands u h u.parent s e)), cost_to (held u) e)

taken_parented : (t : Table) → broken t ≡ false → eligible (best t.places) ≡ true → Parented (with_parent t (Some (best t.places).id)) (path_cost (best t.places))
taken_parented t h e =
    let u = with_parent t (Some (best t.places).id) in
    let k : held u ≡ best t.places = best_held t h e in
    subst (λ (p : Place). Parented u (path_cost p)) k
    (parented u (held_sound t h (best t.places).id (best_known t h e)) (subst (λ (p : Place). eligible p ≡ true) (sym k) e))

pub own_rank : OwnRank
unfolding evaluated chosen if_on if_lt
own_rank t h =
    by_test (eligible (best t.places))
    (λ e. by_test (eligible (held t))
    (λ f. by_test (ltb 640 (path_cost (held t) - path_cost (best t.places))) (λ g. rw (h, e, f, g) (inr (taken_parented t h e))) (λ g. rw (h, e, f, g) (inr (parented t h f))))
    (λ f. rw (h, e, f) (inr (taken_parented t h e))))
    (λ e. rw (h, e) (inl (refl, refl)))
