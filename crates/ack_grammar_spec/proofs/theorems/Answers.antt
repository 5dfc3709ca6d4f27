-- Each theorem that `ack_grammar_spec::theorems` cites is proved. Assumes nothing.
use Rattle.ack_grammar_spec.proofs.Agreed.{sound, complete, unambiguous, refused_says_nothing}
use Rattle.ack_grammar_spec.proofs.Followed.{ignored_bits_do_not_count, nothing_behind_the_list_counts, other_elements_do_not_count, shortest_is_of_the_grammar}
use Rattle.ack_grammar_spec.proofs.theorems.Goals as goal

pub returns : goal.returns
returns c = record { sound = sound; complete = complete; unambiguous = unambiguous; refused_says_nothing = refused_says_nothing; ignored_bits_do_not_count = ignored_bits_do_not_count; nothing_behind_the_list_counts = nothing_behind_the_list_counts; other_elements_do_not_count = other_elements_do_not_count; shortest_is_of_the_grammar = shortest_is_of_the_grammar }
