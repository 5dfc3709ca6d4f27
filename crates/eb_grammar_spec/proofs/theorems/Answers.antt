-- Each theorem that `eb_grammar_spec::theorems` cites is proved. Assumes nothing.
use Rattle.eb_grammar_spec.proofs.Agreed.{sound, complete, unambiguous, refused_says_nothing}
use Rattle.eb_grammar_spec.proofs.Followed.{ignored_bits_do_not_count, header_elements_do_not_count, nothing_counts_behind_7f, known_contents_count, bytes_behind_group_15_do_not_count, unknown_elements_do_not_count, unknown_sub_elements_do_not_count, order_does_not_count, reserved_joining_bits_do_not_count, both_timing_forms_say_the_same}
use Rattle.eb_grammar_spec.proofs.Witnessed.{shortest_is_of_the_grammar, an_unknown_element_is_put_in, manifold_is_of_the_grammar}
use Rattle.eb_grammar_spec.proofs.theorems.Goals as goal

pub returns : goal.returns
returns c = record { sound = sound; complete = complete; unambiguous = unambiguous; refused_says_nothing = refused_says_nothing; ignored_bits_do_not_count = ignored_bits_do_not_count; header_elements_do_not_count = header_elements_do_not_count; nothing_counts_behind_7f = nothing_counts_behind_7f; known_contents_count = known_contents_count; bytes_behind_group_15_do_not_count = bytes_behind_group_15_do_not_count; unknown_elements_do_not_count = unknown_elements_do_not_count; unknown_sub_elements_do_not_count = unknown_sub_elements_do_not_count; order_does_not_count = order_does_not_count; reserved_joining_bits_do_not_count = reserved_joining_bits_do_not_count; both_timing_forms_say_the_same = both_timing_forms_say_the_same; shortest_is_of_the_grammar = shortest_is_of_the_grammar; an_unknown_element_is_put_in = an_unknown_element_is_put_in; manifold_is_of_the_grammar = manifold_is_of_the_grammar }
