-- Every value holds: a test that the checker computes over the whole list, and one law that turns the test into the claim.
-- Assumes nothing.
use mathlib.Core.Bool.{Bool, true, ◌&&◌}
use mathlib.Core.List.{List, [], ◌∷◌}
use lib.Dec.{T, eqb, eqb→eq}
use Rattle.octets_spec.specs.Choice.{if_on, if_lt, if_eq}
use Rattle.slot_spec.specs.Hopping.{channel_of}
use Rattle.nbr_metric_spec.specs.Metric.{increment, path_cost, eligible}
use Rattle.nbr_metric_spec.specs.JoinMetric.{join_metric}
use Rattle.nbr_table_spec.specs.Places.{free, named, some_place, first_of, change_first, nonzero, unfit, twice, lesser, better, best_of}
use Rattle.nbr_table_spec.specs.Changes.{attempted}
use Rattle.nbr_table_spec.specs.Calls.{parent_missing, broken, held_place, mark_of, id_of, chosen, reported, evaluated}
use Rattle.values_spec.specs.Values.{Worked, worked_values, AllHold, Values}
use mir.Facts.{and_yes}

abbrev test : List Worked → Bool
test [] = true
test (r ∷ rs) = eqb r.is r.wants && test rs

hold : (rs : List Worked) → T (test rs) → AllHold rs
hold [] t = tt
hold (r ∷ rs) t = let both = and_yes (eqb r.is r.wants) (test rs) t in (eqb→eq r.is r.wants both.0, hold rs both.1)

pub values_hold : Values
unfolding if_on if_lt if_eq channel_of increment path_cost eligible join_metric free named some_place first_of change_first nonzero unfit twice lesser better best_of attempted parent_missing broken held_place mark_of id_of chosen reported evaluated
values_hold = hold worked_values tt
