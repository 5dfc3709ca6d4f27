-- Frames at which the checker computes what reading gives. Assumes nothing.
use mathlib.Core.Path.{refl}
use Rattle.octets_spec.specs.Choice.{if_on, if_lt, if_eq}
use Rattle.octets_spec.specs.Number.{le_at}
use Rattle.mac_header_spec.specs.Control.{control_of}
use Rattle.mac_header_spec.specs.Fields.{address_length, offsets_of, mac_header_of, sequence_of, address_of}
use Rattle.ie_step_spec.specs.Header.{header_word, header_at}
use Rattle.ie_walk_spec.specs.Walk.{in_front, header_go, header_list}
use Rattle.ack_read_spec.specs.Policy.{compression_of, addressing_fault, form_fault, policy_fault, mac_header_fault}
use Rattle.ack_read_spec.specs.Read.{element_fault, behind_element, found_among, found_in, correction_of, nack_of, ack_from, found_of, ack_number, read_ack}
use Rattle.ack_read_spec.specs.Witnesses.{ShortestIsRead, EachNumberIsGiven, CorrectionsAreSigned}

pub shortest_is_read : ShortestIsRead
unfolding if_on if_lt if_eq le_at control_of compression_of addressing_fault form_fault address_length offsets_of mac_header_of policy_fault mac_header_fault header_word header_at in_front header_go header_list sequence_of address_of element_fault behind_element found_among found_in correction_of nack_of ack_from found_of ack_number read_ack
shortest_is_read = (refl, refl)

pub each_number_is_given : EachNumberIsGiven
unfolding if_on if_lt if_eq le_at control_of compression_of addressing_fault form_fault address_length offsets_of mac_header_of policy_fault mac_header_fault header_word header_at in_front header_go header_list element_fault behind_element found_among found_in found_of ack_number read_ack
each_number_is_given = (refl, refl, refl, refl, refl, refl, refl, refl)

pub corrections_are_signed : CorrectionsAreSigned
unfolding if_on if_lt correction_of
corrections_are_signed = (refl, refl, refl, refl)
