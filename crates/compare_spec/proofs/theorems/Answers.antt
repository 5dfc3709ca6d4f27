-- Each theorem that `compare_spec::theorems` cites is proved. Assumes nothing.
use Rattle.compare_spec.proofs.FieldsLaws.{names_stand_in_every_list}
use Rattle.compare_spec.proofs.DifferenceLaws.{each_differs, none_is_left_out, in_order}
use Rattle.compare_spec.proofs.AnswerLaws.{listed_when_both_done}
use Rattle.compare_spec.proofs.Compared.{same_fields_same_record, no_difference_when_equal}
use Rattle.compare_spec.proofs.Witnessed.{there_are_such}
use Rattle.compare_spec.proofs.theorems.Goals as goal

pub returns : goal.returns
returns c = record { same_fields_same_record = same_fields_same_record; no_difference_when_equal = no_difference_when_equal; each_differs = each_differs; none_is_left_out = none_is_left_out; in_order = in_order; listed_when_both_done = listed_when_both_done; names_stand_in_every_list = names_stand_in_every_list; there_are_such = there_are_such }
