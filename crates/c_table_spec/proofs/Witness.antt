-- Forms and lists of calls that meet what the theorems ask for, run by the checker. Assumes nothing.
use mathlib.Core.Path.{refl}
use Rattle.octets_spec.specs.Choice.{if_eq, if_lt, if_on}
use Rattle.nbr_metric_spec.specs.Metric.{eligible, increment, path_cost}
use Rattle.nbr_table_spec.specs.Places.{best_of, better, change_first, first_of, free, named, lesser, nonzero, some_place, twice, unfit}
use Rattle.nbr_table_spec.specs.Calls.{advertised, broken, chosen, evaluated, held_place, id_of, mark_of, parent_missing, same_parent}
use Rattle.nbr_stability_spec.specs.Stability.{some_evaluation, changes, each_eligible, rises}
use Rattle.c_table_spec.specs.Table.{advertised_form, evaluated_form, is_parent, parent_of, refused}
use Rattle.c_table_spec.specs.Claims.{Witnessed, applies_in_c, flagged, form_after, form_evaluations, number_after}

pub witnessed : Witnessed
unfolding form_evaluations form_after number_after applies_in_c flagged advertised_form evaluated_form refused is_parent parent_of mark_of id_of some_evaluation each_eligible changes rises same_parent advertised evaluated chosen broken parent_missing held_place best_of better lesser change_first first_of free named nonzero some_place twice unfit eligible path_cost increment if_eq if_lt if_on
witnessed = (refl, refl, refl, refl, refl, refl, refl)
