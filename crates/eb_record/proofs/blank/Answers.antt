-- `eb_record::blank` meets its contract. Assumes nothing.
use mathlib.Core.Path.{refl}
use Rattle.octets_spec.specs.Choice.{if_on}
use Rattle.eb_record_spec.specs.Form.{is_sequenced, sequence_number, is_extended, address_number, form_of, sequence_from, address_from, beacon_of}
use Rattle.eb_record.proofs.blank.Goals as goal

pub returns : goal.returns
unfolding beacon_of form_of sequence_from address_from if_on is_sequenced sequence_number is_extended address_number
returns c = rw (c.beacon_of.ensures, c.blank_form.ensures) refl
