-- `ack_record_spec::blank_form` meets its contract. Assumes nothing.
use Rattle.eb_record_spec.specs.Form.{is_sequenced, sequence_number, is_extended, address_number}
use Rattle.ack_record_spec.specs.Record.{blank_ack, form_of}
use Rattle.ack_record_spec.proofs.blank_form.Goals as goal

pub returns : goal.returns
unfolding form_of is_sequenced sequence_number is_extended address_number blank_ack
returns c =
    let d = c.default.ensures in
    λ i. record {
      sequenced = d.0 i;
      sequence = d.1.0 i;
      pan = d.1.1.0 i;
      destination_extended = d.1.1.1.0 i;
      destination = d.1.1.1.1.0 i;
      source_extended = d.1.1.1.1.1.0 i;
      source = d.1.1.1.1.1.1.0 i;
      correction = d.1.1.1.1.1.1.1.0 i;
      nack = d.1.1.1.1.1.1.1.1 i;
    }
