-- The witnesses, computed by the checker. Assumes nothing.
use mathlib.Core.Path.{refl}
use Rattle.octets_spec.specs.Choice.{if_eq, if_lt, if_on}
use Rattle.nbr_metric_spec.specs.Metric.{eligible, increment, path_cost}
use Rattle.nbr_table_spec.specs.Places.{best_of, better, change_first, first_of, free, named, lesser, nonzero, some_place, twice, unfit}
use Rattle.nbr_table_spec.specs.Changes.{attempted}
use Rattle.nbr_table_spec.specs.Calls.{advertised, broken, chosen, evaluated, forgotten, held_place, parent_missing, reported, without}
use Rattle.nbr_soundness_spec.specs.Witness.{Witnessed}

pub witnessed : Witnessed
unfolding advertised reported forgotten evaluated chosen without broken parent_missing held_place attempted best_of better lesser change_first first_of free named nonzero some_place twice unfit eligible path_cost increment if_eq if_lt if_on
witnessed = (
  (refl, refl, refl, refl, refl, refl, refl),
  (refl, refl, refl, refl),
  (refl, refl, refl),
  (refl, refl, refl, refl, refl, refl, refl, refl),
  (refl, refl, refl, refl),
)
