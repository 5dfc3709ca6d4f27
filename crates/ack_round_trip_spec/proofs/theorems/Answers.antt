-- Each theorem that `ack_round_trip_spec::theorems` cites is proved. Assumes nothing.
use Rattle.ack_round_trip_spec.proofs.OfTheGrammar.{written_is_of_the_grammar}
use Rattle.ack_round_trip_spec.proofs.ReadsBack.{frames_read_back, frames_differ, forms_read_back, accepted_fits, written_is_not_longer, accepted_reads_back, read_forms_are_written, shortest_is_written_back}
use Rattle.ack_round_trip_spec.proofs.theorems.Goals as goal

pub returns : goal.returns
returns c = record { written_is_of_the_grammar = written_is_of_the_grammar; frames_read_back = frames_read_back; frames_differ = frames_differ; forms_read_back = forms_read_back; accepted_fits = accepted_fits; written_is_not_longer = written_is_not_longer; accepted_reads_back = accepted_reads_back; read_forms_are_written = read_forms_are_written; shortest_is_written_back = shortest_is_written_back }
