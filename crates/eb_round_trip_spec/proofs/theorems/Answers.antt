-- Each theorem that `eb_round_trip_spec::theorems` cites is proved. Assumes nothing.
use Rattle.eb_round_trip_spec.proofs.FrameLengths.{length_is_the_formula, lengths_from_38_to_177}
use Rattle.eb_round_trip_spec.proofs.ReadsBack.{written_is_of_the_grammar, frames_read_back, frames_differ}
use Rattle.eb_round_trip_spec.proofs.Shortest.{lengths_are_met, full_record_is_writable, shortest_is_written_back}
use Rattle.eb_round_trip_spec.proofs.NotLonger.{accepted_fits, written_is_not_longer, written_is_short}
use Rattle.eb_round_trip_spec.proofs.FormsWritten.{accepted_reads_back, forms_read_back, read_forms_are_written, shortest_form_is_written}
use Rattle.eb_round_trip_spec.proofs.theorems.Goals as goal

pub returns : goal.returns
returns c = record { written_is_of_the_grammar = written_is_of_the_grammar; frames_read_back = frames_read_back; forms_read_back = forms_read_back; frames_differ = frames_differ; length_is_the_formula = length_is_the_formula; lengths_from_38_to_177 = lengths_from_38_to_177; lengths_are_met = lengths_are_met; full_record_is_writable = full_record_is_writable; accepted_fits = accepted_fits; written_is_not_longer = written_is_not_longer; written_is_short = written_is_short; accepted_reads_back = accepted_reads_back; shortest_is_written_back = shortest_is_written_back; read_forms_are_written = read_forms_are_written; shortest_form_is_written = shortest_form_is_written }
