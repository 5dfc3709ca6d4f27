-- Parents do not flap: the proof. One evaluation whose held parent is eligible satisfies
-- 641 × change + cost on exit ≤ cost on entry, and the list adds these up. Assumes nothing.
use Rattle.std.proofs.Common.{Option, Some, None}
use Prim.Native.Nat.{ℕ, ◌+◌, ◌*◌, ◌≤◌}
use native.Mathlib.Omega.{arith}
use mathlib.Core.Path.{◌≡◌, refl, sym, subst}
use mathlib.Core.Bool.{Bool, true, false, cond, not, ◌&&◌, and-eq-true_iff}
use mathlib.Core.List.{List, [], ◌∷◌}
use mathlib.Core.Logic.{⊎_elim}
use borrow.Author.Tests.{eq-eqb, not-true}
use Rattle.octets_spec.specs.Choice.{if_on}
use Rattle.nbr_metric_spec.specs.Metric.{eligible, path_cost}
use Rattle.nbr_metric_spec.proofs.MetricLaws.{cost_to}
use Rattle.nbr_table_spec.proofs.PlaceLaws.{clash}
use Rattle.nbr_table_spec.specs.declared.Table.{Table}
use Rattle.nbr_table_spec.specs.Calls.{broken, evaluated, held, held_cost, mark_of, same_parent}
use Rattle.nbr_soundness_spec.proofs.Kept.{calls_keep_tables}
use Rattle.nbr_soundness_spec.proofs.Chosen.{changes_gain_641, eligible_after, held_cost_lem, held_cost_from}
use Rattle.nbr_stability_spec.specs.Stability.{AtMost101Changes, Call, NoneRefused, ParentsDoNotFlap, EntryExit, after, some_evaluation, applies, changes, each_eligible, evaluations, first_cost, last_cost, none_refused, rises}
use Rattle.nbr_stability_spec.specs.Stability.Call.{Advertise, Report, Forget, Evaluate}

-- ---- one evaluation
pub same_self : (q : Option ℕ) → same_parent q q ≡ true
unfolding same_parent
same_self None = refl
same_self (Some n) = eq-eqb n n refl

one_at_most : (x : Bool) → cond x 0 1 ≤ 1
one_at_most true = omega arith
one_at_most false = omega arith

none_costs_less : (x : Bool) (n : ℕ) → if_on x n 0 ≤ n
unfolding if_on
none_costs_less true n = omega arith
none_costs_less false n = omega arith

-- the cost falls by 641 at least where the parent changes, and never rises
abbrev Falls : EntryExit → Type 0
Falls v = 641 * cond (same_parent v.entry.parent v.exit.parent) 0 1 + held_cost v.exit ≤ held_cost v.entry

falls : (t : Table) → eligible (held t) ≡ true → Falls (record { entry = t; exit = (evaluated t).table })
falls t e =
    ⊎_elim
    (λ k. subst (λ (u : Table). 641 * cond (same_parent t.parent u.parent) 0 1 + held_cost u ≤ held_cost t) (sym k) (rw (same_self t.parent) (omega arith)))
    (λ k.
    omega (arith, one_at_most (same_parent t.parent (evaluated t).table.parent), held_cost_lem t e, none_costs_less (mark_of (evaluated t).table.parent) (path_cost (held (evaluated t).table))))
    (changes_gain_641 t e)

-- ---- a list
-- a call keeps a table that is not refused so
pub kept : (t : Table) (c : Call) → broken t ≡ false → broken (after t c) ≡ false
unfolding after
kept t (Advertise n rank) h = (calls_keep_tables t h).0 n rank
kept t (Report n k ok) h = (calls_keep_tables t h).1 n k ok
kept t (Forget n) h = (calls_keep_tables t h).2 n
kept t Evaluate h = (calls_keep_tables t h).3

-- in each evaluation the cost falls by 641 for a change, and the costs are those of eligible parents
data AllFall : List EntryExit → Type 0 where
  none : AllFall []
  more : {v : EntryExit} {vs : List EntryExit} → Falls v → held_cost v.entry ≤ 65534 → 512 ≤ held_cost v.exit → AllFall vs → AllFall (v ∷ vs)

all_fall : (t : Table) (cs : List Call) → broken t ≡ false → each_eligible (evaluations t cs) ≡ true → AllFall (evaluations t cs)
unfolding evaluations each_eligible after
all_fall t [] b h = none
all_fall t (Advertise n rank ∷ cs) b h = all_fall (after t (Advertise n rank)) cs (kept t (Advertise n rank) b) h
all_fall t (Report n k ok ∷ cs) b h = all_fall (after t (Report n k ok)) cs (kept t (Report n k ok) b) h
all_fall t (Forget n ∷ cs) b h = all_fall (after t (Forget n)) cs (kept t (Forget n) b) h
all_fall t (Evaluate ∷ cs) b h =
    let k = (and-eq-true_iff (eligible (held t)) (each_eligible (evaluations (after t Evaluate) cs))).0 h in
    let b' = kept t Evaluate b in
    let e = eligible_after t b k.0 in
    let hi : held_cost t ≤ 65534 = omega (arith, held_cost_lem t k.0, cost_to (held t) k.0) in
    let lo : 512 ≤ held_cost (evaluated t).table = omega (arith, held_cost_lem (evaluated t).table e, held_cost_from (evaluated t).table b' e) in
    more (falls t k.0) hi lo (all_fall (after t Evaluate) cs b' k.1)

bound : (vs : List EntryExit) → AllFall vs → 641 * changes vs + last_cost vs ≤ first_cost vs + rises vs
unfolding changes last_cost first_cost rises
bound [] a = omega arith
bound (v ∷ []) (more p hi lo a) = omega arith
bound (v ∷ w ∷ vs) (more p hi lo a) = omega (arith, bound (w ∷ vs) a)

first_to : (vs : List EntryExit) → AllFall vs → first_cost vs ≤ 65534
unfolding first_cost
first_to [] a = omega arith
first_to (v ∷ vs) (more p hi lo a) = hi

last_from : (vs : List EntryExit) → some_evaluation vs ≡ true → AllFall vs → 512 ≤ last_cost vs
unfolding last_cost some_evaluation
last_from [] h a = clash false h refl
last_from (v ∷ []) h (more p hi lo a) = lo
last_from (v ∷ w ∷ vs) h (more p hi lo a) = last_from (w ∷ vs) refl a

-- ---- the claims
module _ (t : Table) (cs : List Call) (h : applies t cs ≡ true) where
  parts : (broken t ≡ false) × (some_evaluation (evaluations t cs) ≡ true) × (each_eligible (evaluations t cs) ≡ true)
  unfolding applies
  parts =
      let k = (and-eq-true_iff (not (broken t)) (some_evaluation (evaluations t cs) && each_eligible (evaluations t cs))).0 h in
      let l = (and-eq-true_iff (some_evaluation (evaluations t cs)) (each_eligible (evaluations t cs))).0 k.1 in
      (not-true (broken t) k.0, l.0, l.1)

  fallen : AllFall (evaluations t cs)
  fallen = all_fall t cs parts.0 parts.2

pub parents_do_not_flap : ParentsDoNotFlap
parents_do_not_flap t cs h = bound (evaluations t cs) (fallen t cs h)

pub at_most_101_changes : AtMost101Changes
at_most_101_changes t cs h r =
    let b = parents_do_not_flap t cs h in
    let f = first_to (evaluations t cs) (fallen t cs h) in
    let l = last_from (evaluations t cs) (parts t cs h).1 (fallen t cs h) in
    omega arith

evaluated_done : (t : Table) → broken t ≡ false → (evaluated t).number ≡ 0
unfolding evaluated if_on
evaluated_done t h = rw h

pub none_refused_lem : NoneRefused
unfolding evaluations none_refused after
none_refused_lem t [] b = refl
none_refused_lem t (Advertise n rank ∷ cs) b = none_refused_lem (after t (Advertise n rank)) cs (kept t (Advertise n rank) b)
none_refused_lem t (Report n k ok ∷ cs) b = none_refused_lem (after t (Report n k ok)) cs (kept t (Report n k ok) b)
none_refused_lem t (Forget n ∷ cs) b = none_refused_lem (after t (Forget n)) cs (kept t (Forget n) b)
none_refused_lem t (Evaluate ∷ cs) b = rw (evaluated_done t b) (none_refused_lem (after t Evaluate) cs (kept t Evaluate b))
