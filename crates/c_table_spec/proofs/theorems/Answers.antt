-- `c_table_spec::theorems` meets its contract. Assumes nothing.
use Rattle.c_table_spec.proofs.FormLaws.{forms_are_tables, tables_are_forms}
use Rattle.c_table_spec.proofs.Agree.{at_most_101_changes_in_c, calls_agree, changes_are_flagged, evaluations_agree, none_refused_in_c_lem, parents_do_not_flap_in_c, refusals_change_nothing}
use Rattle.c_table_spec.proofs.Witness.{witnessed}
use Rattle.c_table_spec.proofs.theorems.Goals as goal

pub returns : goal.returns
returns c = record {
  forms_are_tables = forms_are_tables;
  tables_are_forms = tables_are_forms;
  refusals_change_nothing = refusals_change_nothing;
  calls_agree = calls_agree;
  evaluations_agree = evaluations_agree;
  changes_are_flagged = changes_are_flagged;
  parents_do_not_flap = parents_do_not_flap_in_c;
  at_most_101_changes = at_most_101_changes_in_c;
  none_refused = none_refused_in_c_lem;
  witnessed = witnessed;
}
