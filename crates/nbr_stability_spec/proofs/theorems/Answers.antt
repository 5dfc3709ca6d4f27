-- Each theorem that `nbr_stability_spec::theorems` cites is proved. Assumes nothing.
use Rattle.nbr_stability_spec.proofs.Bound.{at_most_101_changes, none_refused_lem, parents_do_not_flap}
use Rattle.nbr_stability_spec.proofs.Tight.{bound_is_met, reaches_101}
use Rattle.nbr_stability_spec.proofs.theorems.Goals as goal

pub returns : goal.returns
returns c = record { parents_do_not_flap = parents_do_not_flap; at_most_101_changes = at_most_101_changes; none_refused = none_refused_lem; bound_is_met = bound_is_met; reaches_101 = reaches_101 }
