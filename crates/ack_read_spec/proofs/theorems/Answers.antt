-- Each theorem that `ack_read_spec::theorems` cites is proved. Assumes nothing.
use Rattle.ack_read_spec.proofs.Claimed.{numbers_to_7, one_is_the_length, three_is_the_type, four_is_security, five_is_the_addressing, never_a_beacon_too}
use Rattle.ack_read_spec.proofs.Witnessed.{shortest_is_read, each_number_is_given, corrections_are_signed}
use Rattle.ack_read_spec.proofs.theorems.Goals as goal

pub returns : goal.returns
returns c = record { numbers_to_7 = numbers_to_7; one_is_the_length = one_is_the_length; three_is_the_type = three_is_the_type; four_is_security = four_is_security; five_is_the_addressing = five_is_the_addressing; never_a_beacon_too = never_a_beacon_too; shortest_is_read = shortest_is_read; each_number_is_given = each_number_is_given; corrections_are_signed = corrections_are_signed }
