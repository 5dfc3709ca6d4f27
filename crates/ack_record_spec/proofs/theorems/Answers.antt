-- Each theorem that `ack_record_spec::theorems` cites is proved. Assumes nothing.
use Rattle.ack_record_spec.proofs.FormLaws.{forms_give_the_record, records_give_the_form, forms_of_no_record}
use Rattle.ack_record_spec.proofs.theorems.Goals as goal

pub returns : goal.returns
returns c = record { forms_give_the_record = forms_give_the_record; records_give_the_form = records_give_the_form; forms_of_no_record = forms_of_no_record }
