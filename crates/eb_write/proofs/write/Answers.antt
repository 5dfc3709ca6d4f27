-- `eb_write::write` meets its contract. Assumes nothing.
use Rattle.octets_spec.proofs.CountedLaws.{length_mapped}
use Rattle.eb_write_spec.proofs.Claimed.{write_numbers}
use Rattle.eb_round_trip_spec.proofs.RoundTripLaws.{sizes, written_as_said}
use borrow.Author.Rules.{rules}
use Rattle.eb_write.proofs.write.Goals as goal

pub returns : goal.returns
returns c =
    let written = c.write_record.ensures in
    record {
      answer = written.answer;
      buffer = written.buffer;
      numbers = write_numbers;
      as_said = written_as_said c.args.beacon _ _ _ _ (search (rules, length_mapped, sizes)) written.answer written.buffer;
    }
