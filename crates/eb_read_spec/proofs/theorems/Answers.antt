-- Each theorem that `eb_read_spec::theorems` cites is proved. Assumes nothing.
use Rattle.eb_read_spec.proofs.Claimed.{numbers_to_8, one_is_the_length}
use Rattle.eb_read_spec.proofs.Accepted.{accepted_may_be_decided_on, accepted_lies_inside}
use Rattle.eb_read_spec.proofs.Bounded.{bounds_do_not_matter}
use Rattle.eb_read_spec.proofs.HeaderNumbers.{three_is_the_type, four_is_security, five_is_the_addressing}
use Rattle.eb_read_spec.proofs.Skipped.{skipped_fit_the_frame}
use Rattle.eb_read_spec.proofs.NetworkLaws.{network_lies_inside}
use Rattle.eb_read_spec.proofs.NetworkRecord.{network_is_the_records}
use Rattle.eb_read_spec.proofs.Witnessed.{shortest_is_read, some_frame_is_accepted, some_frame_has_joining_information, each_number_is_given}
use Rattle.eb_read_spec.proofs.theorems.Goals as goal

pub returns : goal.returns
returns c = record { numbers_to_8 = numbers_to_8; one_is_the_length = one_is_the_length; three_is_the_type = three_is_the_type; four_is_security = four_is_security; five_is_the_addressing = five_is_the_addressing; bounds_do_not_matter = bounds_do_not_matter; skipped_fit_the_frame = skipped_fit_the_frame; accepted_may_be_decided_on = accepted_may_be_decided_on; accepted_lies_inside = accepted_lies_inside; network_lies_inside = network_lies_inside; network_is_the_records = network_is_the_records; shortest_is_read = shortest_is_read; some_frame_is_accepted = some_frame_is_accepted; some_frame_has_joining_information = some_frame_has_joining_information; each_number_is_given = each_number_is_given }
