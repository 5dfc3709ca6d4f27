-- `ack_record_spec::blank` meets its contract. Assumes nothing.
use mathlib.Core.Path.{refl}
use Rattle.octets_spec.specs.Choice.{if_on}
use Rattle.eb_record_spec.specs.Form.{is_sequenced, sequence_number, is_extended, address_number, sequence_from, address_from}
use Rattle.ack_record_spec.specs.Record.{blank_ack, form_of, ack_of}
use Rattle.ack_record_spec.proofs.blank.Goals as goal

pub returns : goal.returns
unfolding ack_of form_of sequence_from address_from if_on is_sequenced sequence_number is_extended address_number blank_ack
returns c = rw (c.ack_of.ensures, c.blank_form.ensures) refl
