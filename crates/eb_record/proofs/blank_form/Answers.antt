-- `eb_record::blank_form` meets its contract. Assumes nothing.
use Rattle.eb_record_spec.specs.Record.{blank_link}
use Rattle.eb_record_spec.specs.Form.{is_sequenced, sequence_number, is_extended, address_number, form_of}
use Rattle.eb_record.proofs.RecordLaws.{all_same}
use Rattle.eb_record.proofs.blank_form.Goals as goal

pub returns : goal.returns
unfolding form_of is_sequenced sequence_number is_extended address_number
returns c =
    let d = c.default.ensures in
    let timings = all_same _ 0 (λ x p. p) _ _ d.1.1.1.1.1.1.0.1.1 in
    let links = all_same _ blank_link (λ x p i. record { timeslot = p.0 i; channel_offset = p.1.0 i; options = p.1.1 i }) _ _ d.1.1.1.1.1.1.1.1.0.1.1.1 in
    let joining = d.1.1.1.1.1.1.1.1.1 in
    let network = all_same _ 0 (λ x p. p) _ _ joining.1.1.1.1.1.1.1.1 in
    λ i. record {
      sequenced = d.0 i;
      sequence = d.1.0 i;
      pan = d.1.1.0 i;
      extended = d.1.1.1.0 i;
      source = d.1.1.1.1.0 i;
      synchronization = record { asn = d.1.1.1.1.1.0.0 i; metric = d.1.1.1.1.1.0.1 i };
      timeslot = record { id = d.1.1.1.1.1.1.0.0 i; timed = d.1.1.1.1.1.1.0.1.0 i; timings = timings i };
      hopping = d.1.1.1.1.1.1.1.0 i;
      slotframe = record { handle = d.1.1.1.1.1.1.1.1.0.0 i; size = d.1.1.1.1.1.1.1.1.0.1.0 i; count = d.1.1.1.1.1.1.1.1.0.1.1.0 i; links = links i };
      joining = record { present = joining.0 i; router = joining.1.0 i; proxied = joining.1.1.0 i; proxy = joining.1.1.1.0 i; rank = joining.1.1.1.1.0 i; pan = joining.1.1.1.1.1.0 i; address = joining.1.1.1.1.1.1.0 i; length = joining.1.1.1.1.1.1.1.0 i; network = network i };
    }
