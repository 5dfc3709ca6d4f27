-- `ack_write::write` meets its contract. Assumes nothing.
use Rattle.ack_write_spec.proofs.Claimed.{write_numbers, never_too_long}
use Rattle.ack_round_trip_spec.proofs.RoundTripLaws.{written_as_said}
use Rattle.ack_write.proofs.write.Goals as goal

pub returns : goal.returns
returns c =
    let written = c.write_record.ensures in
    record {
      answer = written.answer;
      buffer = written.buffer;
      numbers = write_numbers;
      length = never_too_long;
      as_said = written_as_said c.args.ack _ _ _ _ written.answer written.buffer;
    }
