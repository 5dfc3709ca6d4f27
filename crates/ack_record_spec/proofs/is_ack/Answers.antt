-- `ack_record_spec::is_ack` meets its contract. Assumes nothing.
use Rattle.eb_record_spec.proofs.FormLaws.{is_made}
use Rattle.ack_record_spec.specs.Record.{is_ack}
use Rattle.ack_record_spec.proofs.is_ack.Goals as goal

pub returns : goal.returns
unfolding is_ack
returns c =
    rw (c.is_ok.ensures.value, c.is_ok-2.ensures.value, c.is_ok-3.ensures.value, is_made _ _ _ c.sequence_in-sequence.ensures, is_made _ _ _ c.address_in-destination.ensures, is_made _ _ _ c.address_in-source.ensures)
