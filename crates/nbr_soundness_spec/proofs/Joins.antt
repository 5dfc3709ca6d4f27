-- A fresh tag joins, and leaves a parent that fails before any attempt was acknowledged. Assumes nothing.
use Rattle.std.proofs.Common.{Option, Some, None}
use Prim.Native.Nat.{ℕ, zero, suc, ◌+◌, ◌/◌, ◌≤◌}
use native.Mathlib.Omega.{arith}
use mathlib.Core.Path.{◌≡◌, refl, sym, ◌∙◌, ap, subst}
use mathlib.Core.Bool.{true, false}
use mathlib.Core.List.{List, ◌∷◌}
use lib.ListN.{replicate}
use borrow.Author.Tests.{eq-eqb, le-leb, le-ltb}
use Rattle.octets_spec.specs.Choice.{if_lt, if_on}
use Rattle.octets_spec.proofs.ChoiceLaws.{by_lt, choices, if_ge, if_off_lem, if_on_lem}
use Rattle.refusal.specs.Refusal.{done}
use Rattle.nbr_metric_spec.specs.declared.Place.{Place}
use Rattle.nbr_metric_spec.specs.Metric.{blank, eligible, path_cost}
use Rattle.nbr_metric_spec.proofs.MetricLaws.{blank_not_eligible, fresh_neighbour, unanswered_is_not}
use Rattle.nbr_table_spec.specs.Places.{best, best_of, better, change_first, first_of, free, named, nonzero, some_place, twice, unfit}
use Rattle.nbr_table_spec.specs.Changes.{attempted, newcomer, with_counters}
use Rattle.nbr_table_spec.specs.declared.Table.{Table}
use Rattle.nbr_table_spec.specs.Calls.{Answer, Evaluation, advertised, answer, broken, chosen, empty_table, evaluated, evaluation, held, held_place, parent_missing, reported}
use Rattle.nbr_soundness_spec.specs.Soundness.{FailedIsNotEligible, FreshTagJoins, JoinsThrough, ParentLost}
use Rattle.nbr_soundness_spec.proofs.Kept.{calls_keep_tables}

-- ---- a failed report
pub failed_is_not_eligible : FailedIsNotEligible
unfolding attempted
failed_is_not_eligible p k a h =
    by_lt 255 (p.attempts + k) (λ l. left_out (p.attempts / 2 + k) (p.acked / 2 + 0) (omega arith) (omega arith) (search choices))
    (λ l. left_out (p.attempts + k) (p.acked + 0) (omega arith) (omega arith) (search choices))
  where
    left_out : (t m : ℕ) → 1 ≤ t → m ≡ 0 → with_counters t m p ≡ attempted k false p → eligible (attempted k false p) ≡ false
    left_out t m one none e = subst (λ (q : Place). eligible q ≡ false) e (unanswered_is_not (with_counters t m p) one none)

-- ---- one neighbour and free places
-- a free place is never better
better_blank : (p : Place) → better eligible path_cost p blank ≡ p
unfolding better
better_blank p = sym (if_off_lem _ p (eligible blank) blank_not_eligible refl)

best_kept : (n : ℕ) (p : Place) → best_of eligible path_cost p (replicate n blank) ≡ p
unfolding best_of
best_kept zero p = refl
best_kept (suc n) p = ap (λ (q : Place). best_of eligible path_cost q (replicate n blank)) (better_blank p) ∙ best_kept n p

-- the table of a neighbour in the first place, and others
abbrev first : Place → List Place → Option ℕ → Table
first p ps q = record { places = p ∷ ps; parent = q }

module _ (p : Place) (ps : List Place) (idle : (q : Place) → best_of eligible path_cost q ps ≡ q) where
  best_alone : eligible p ≡ true → best (p ∷ ps) ≡ p
  unfolding best_of better
  best_alone e = idle _ ∙ sym (if_on_lem _ blank (eligible p) e (if_off_lem _ p (eligible blank) blank_not_eligible refl))

  best_none : eligible p ≡ false → best (p ∷ ps) ≡ blank
  unfolding best_of better
  best_none e = idle _ ∙ sym (if_off_lem _ blank (eligible p) e refl)

  alone_left : (q : Option ℕ) → broken (first p ps q) ≡ false → eligible p ≡ false → evaluated (first p ps q) ≡ evaluation done (first p ps None) 65535
  unfolding evaluated chosen if_on
  alone_left q sound e = rw (sound, best_none e, blank_not_eligible) refl

  alone_taken : broken (first p ps None) ≡ false → eligible p ≡ true → evaluated (first p ps None) ≡ evaluation done (first p ps (Some p.id)) (path_cost p)
  unfolding evaluated chosen held_place if_on
  alone_taken sound e = rw (sound, best_alone e, e, blank_not_eligible) refl

-- ---- the calls
-- the table of one neighbour
abbrev alone : Place → Option ℕ → Table
alone p q = first p (replicate 31 blank) q

module _ (n rank : ℕ) where
  -- the neighbour is alone
  advertised_alone : (advertised empty_table n rank).table ≡ alone (newcomer n rank) None
  unfolding advertised broken parent_missing some_place twice unfit nonzero free named change_first if_on
  advertised_alone = refl

  newcomer_sound : broken (alone (newcomer n rank) None) ≡ false
  unfolding broken parent_missing some_place twice unfit nonzero free named
  newcomer_sound = refl

  module _ (lo : 256 ≤ rank) (hi : rank ≤ 64766) where
    joins : evaluated (alone (newcomer n rank) None) ≡ evaluation done (alone (newcomer n rank) (Some n)) (rank + 768)
    joins =
        let f = fresh_neighbour (newcomer n rank) refl refl refl in
        let e : eligible (newcomer n rank) ≡ true = f.0 ∙ rw (le-leb 256 rank lo, le-leb rank 64766 hi) refl in
        alone_taken (newcomer n rank) (replicate 31 blank) (best_kept 31) newcomer_sound e ∙ ap (evaluation done (alone (newcomer n rank) (Some n))) f.1

    held_sound : broken (alone (newcomer n rank) (Some n)) ≡ false
    held_sound = subst (λ (e : Evaluation). broken e.table ≡ false) joins (calls_keep_tables (alone (newcomer n rank) None) newcomer_sound).3

    module _ (k : ℕ) (one : 1 ≤ k) (four : k ≤ 4) where
      -- the neighbour after the failed report
      abbrev tried : Place
      tried = with_counters (0 + k) (0 + 0) (newcomer n rank)

      attempted_tried : attempted k false (newcomer n rank) ≡ tried
      unfolding attempted
      attempted_tried = sym (if_ge _ _ 255 (0 + k) (omega arith) refl)

      tried_not : eligible tried ≡ false
      tried_not = subst (λ (p : Place). eligible p ≡ false) attempted_tried (failed_is_not_eligible (newcomer n rank) k refl one)

      reported_tried : reported (alone (newcomer n rank) (Some n)) n k false ≡ answer done (alone tried (Some n))
      unfolding reported some_place named change_first if_lt if_on
      reported_tried = rw (held_sound, le-ltb k 1 one, le-ltb 4 k four, eq-eqb n n refl, attempted_tried) refl

      tried_held : held (alone tried (Some n)) ≡ tried
      unfolding held_place first_of named
      tried_held = rw (eq-eqb n n refl) refl

      tried_sound : broken (alone tried (Some n)) ≡ false
      tried_sound = subst (λ (r : Answer). broken r.table ≡ false) reported_tried ((calls_keep_tables (alone (newcomer n rank) (Some n)) held_sound).1 n k false)

      parent_lost : ParentLost (reported (alone (newcomer n rank) (Some n)) n k false)
      parent_lost =
          subst ParentLost (sym reported_tried) (
            refl,
            ap eligible tried_held ∙ tried_not,
            alone_left tried (replicate 31 blank) (best_kept 31) (Some n) tried_sound tried_not,
          )

    joins_alone : JoinsThrough n rank (alone (newcomer n rank) None)
    joins_alone = (joins, λ k one four. subst (λ (v : Evaluation). ParentLost (reported v.table n k false)) (sym joins) (parent_lost k one four))

pub fresh_tag_joins : FreshTagJoins
fresh_tag_joins n rank lo hi = subst (JoinsThrough n rank) (sym (advertised_alone n rank)) (joins_alone n rank lo hi)
