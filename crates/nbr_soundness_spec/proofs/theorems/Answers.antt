-- `nbr_soundness_spec::theorems` meets its contract. Assumes nothing.
use Rattle.nbr_soundness_spec.proofs.Best.{best_comes_first, best_is_a_place}
use Rattle.nbr_soundness_spec.proofs.Kept.{calls_keep_tables, forget_makes_room}
use Rattle.nbr_soundness_spec.proofs.Chosen.{changes_gain_641, eligible_costs, evaluate_keeps_places, own_rank}
use Rattle.nbr_soundness_spec.proofs.Joins.{failed_is_not_eligible, fresh_tag_joins}
use Rattle.nbr_soundness_spec.proofs.Witnesses.{witnessed}
use Rattle.nbr_soundness_spec.proofs.theorems.Goals as goal

pub returns : goal.returns
returns c = record {
  calls_keep_tables = calls_keep_tables;
  best_comes_first = best_comes_first;
  best_is_a_place = best_is_a_place;
  eligible_costs = eligible_costs;
  evaluate_keeps_places = evaluate_keeps_places;
  changes_gain_641 = changes_gain_641;
  forget_makes_room = forget_makes_room;
  own_rank = own_rank;
  fresh_tag_joins = fresh_tag_joins;
  failed_is_not_eligible = failed_is_not_eligible;
  witnessed = witnessed;
}
