-- Each theorem that `octets_spec::theorems` cites is proved. Assumes nothing.
use Rattle.octets_spec.proofs.PutLaws.{le_back, be_back, le_in_a_buffer, be_in_a_buffer}
use Rattle.octets_spec.proofs.theorems.Goals as goal

pub returns : goal.returns
returns c = record { le_reads_back = le_back; be_reads_back = be_back; le_in_a_buffer = le_in_a_buffer; be_in_a_buffer = be_in_a_buffer }
