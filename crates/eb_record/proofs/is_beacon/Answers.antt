-- `eb_record::is_beacon` meets its contract. Assumes nothing.
use Rattle.eb_record_spec.specs.Form.{is_beacon}
use Rattle.eb_record_spec.proofs.FormLaws.{is_made}
use Rattle.eb_record.proofs.is_beacon.Goals as goal

pub returns : goal.returns
unfolding is_beacon
returns c = rw (c.is_ok.ensures.value, c.is_ok-2.ensures.value, is_made _ _ _ c.sequence_in-sequence.ensures, is_made _ _ _ c.address_in-source.ensures)
