-- The bound cannot be lowered: lists that meet it, run by the checker. Assumes nothing.
use Rattle.std.proofs.Common.{Some}
use Prim.Native.Nat.{ℕ, zero, suc, ◌-◌}
use mathlib.Core.Path.{refl}
use mathlib.Core.Bool.{true}
use mathlib.Core.List.{List, [], ◌∷◌}
use lib.ListN.{replicate}
use lib.Dec.{lit<}
use Rattle.octets_spec.specs.Choice.{if_eq, if_lt, if_on}
use Rattle.nbr_metric_spec.specs.declared.Place.{Place}
use Rattle.nbr_metric_spec.specs.Metric.{blank, eligible, increment, path_cost}
use Rattle.nbr_table_spec.specs.Places.{best_of, better, change_first, first_of, free, named, lesser, nonzero, some_place, twice, unfit}
use Rattle.nbr_table_spec.specs.Changes.{newcomer}
use Rattle.nbr_table_spec.specs.declared.Table.{Table}
use Rattle.nbr_table_spec.specs.Calls.{advertised, parent_missing, broken, chosen, evaluated, held_place, id_of, mark_of, same_parent}
use Rattle.nbr_stability_spec.specs.Stability.{BoundIsMet, Call, Reaches101, after, some_evaluation, applies, changes, call_fits, each_eligible, evaluations, first_cost, both_fit, last_cost, place_fits, places_fit, rises, table_fits}
use Rattle.nbr_stability_spec.specs.Stability.Call.{Advertise, Evaluate}

-- a neighbour with one attempt, acknowledged, so that its cost is its rank and 256
abbrev measured : ℕ → ℕ → Place
measured n r = record { id = n; rank = r; attempts = 1; acked = 1; used = true }

-- neighbours 1 and 2 are measured, and neighbour 1 is held
abbrev pair : ℕ → ℕ → Table
pair r s = record { places = measured 1 r ∷ measured 2 s ∷ replicate 30 blank; parent = Some 1 }

-- neighbours 1 and 2 are fresh, so that their costs are their ranks and 768, neighbour 3 is measured, and neighbour 1 is held; all cost 65534
abbrev fresh_pair : Table
fresh_pair = record { places = newcomer 1 64766 ∷ newcomer 2 64766 ∷ measured 3 65278 ∷ replicate 29 blank; parent = Some 1 }

-- two neighbours in turn come 641 below the held one, so many times, and then these calls follow
abbrev descent : ℕ → ℕ → ℕ → ℕ → List Call → List Call
descent zero rank a b cs = cs
descent (suc k) rank a b cs = Advertise a (rank - 641) ∷ Evaluate ∷ descent k (rank - 641) b a cs

-- 1408 held, 767 best: changed, then the new parent's cost rises by 100; and a descent from 65534 to 793: fresh neighbours come down to
-- 1434, and the measured one makes the last change, since a fresh one costs at least 1024
both_run : BoundIsMet × Reaches101
unfolding place_fits places_fit table_fits call_fits both_fit evaluations after applies some_evaluation each_eligible changes rises first_cost last_cost mark_of id_of same_parent advertised evaluated chosen broken parent_missing held_place best_of better lesser change_first first_of free named nonzero some_place twice unfit eligible path_cost increment if_eq if_lt if_on
both_run = (
  (pair 1152 511, Evaluate ∷ Advertise 2 611 ∷ Evaluate ∷ [], refl, refl, (lit< tt, lit< tt, refl)),
  (fresh_pair, descent 100 64766 2 1 (Advertise 3 537 ∷ Evaluate ∷ []), refl, refl, refl, refl),
)

pub bound_is_met : BoundIsMet
bound_is_met = both_run.0

pub reaches_101 : Reaches101
reaches_101 = both_run.1
