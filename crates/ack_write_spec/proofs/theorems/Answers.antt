-- Each theorem that `ack_write_spec::theorems` cites is proved. Assumes nothing.
use Rattle.ack_write_spec.proofs.Claimed.{write_numbers, form_numbers, length_is_the_formula, lengths_from_12_to_25, lengths_are_met, never_too_long}
use Rattle.ack_write_spec.proofs.theorems.Goals as goal

pub returns : goal.returns
returns c = record { write_numbers = write_numbers; form_numbers = form_numbers; length_is_the_formula = length_is_the_formula; lengths_from_12_to_25 = lengths_from_12_to_25; lengths_are_met = lengths_are_met; never_too_long = never_too_long }
