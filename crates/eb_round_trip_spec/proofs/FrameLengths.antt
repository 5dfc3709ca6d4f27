-- The length of a frame is the formula, from 38 to 177. Assumes nothing.
use Prim.Native.Nat.{◌+◌, ◌≤◌}
use mathlib.Core.Path.{◌≡◌, refl, sym}
use mathlib.Core.Bool.{true}
use native.Mathlib.Omega.{arith}
use lib.ListN.{length}
use Rattle.octets_spec.specs.Choice.{if_on}
use Rattle.octets_spec.specs.Number.{le_bytes}
use Rattle.octets_spec.proofs.ChoiceLaws.{if_on_lem, if_off_lem, by_test}
use Rattle.mac_header_spec.specs.declared.SequenceNumber.{SequenceNumber}
use Rattle.mac_header_spec.specs.declared.SequenceNumber.TheVariants.{Absent, Number}
use Rattle.mac_header_spec.specs.declared.Address.{Address}
use Rattle.mac_header_spec.specs.declared.Address.TheVariants.{Short, Extended}
use Rattle.eb_record_spec.specs.declared.JoiningInformation.{JoiningInformation}
use Rattle.eb_write_spec.specs.Frame.{sequence_bytes, address_bytes, group_size, joining_size, frame_length}
use Rattle.eb_write_spec.specs.Limits.{present_fits, absent_fits, joining_fits}
use Rattle.eb_write_spec.proofs.LengthLaws.{short_network, slotframe_on, joining_on, length_frame}
use Rattle.eb_round_trip_spec.specs.ReadBack.{LengthIsTheFormula, LengthsFrom38To177}
use Rattle.eb_round_trip_spec.proofs.Fitting.{on_on, count_within}
use Rattle.eb_round_trip_spec.proofs.OfTheGrammar.{template_small, flag_small}

pub length_is_the_formula : LengthIsTheFormula
length_is_the_formula b sized within = length_frame b sized.timings sized.links sized.network within

-- ---- how long each part is
sequence_length : (q : SequenceNumber) → length (sequence_bytes q) ≤ 1
unfolding sequence_bytes le_bytes
sequence_length Absent = omega arith
sequence_length (Number n) = omega arith

source_length : (a : Address) → (2 ≤ length (address_bytes a)) × (length (address_bytes a) ≤ 8)
unfolding address_bytes le_bytes
source_length (Short n) = omega arith
source_length (Extended n) = omega arith

joining_length : (j : JoiningInformation) → joining_fits j ≡ true → if_on j.present (2 + joining_size j) 0 ≤ 31
unfolding joining_fits joining_size
joining_length j within =
    by_test j.present
    (λ e.
    let is : if_on j.present (2 + joining_size j) 0 ≡ 2 + joining_size j = sym (if_on_lem _ _ j.present e refl) in
    omega (arith, flag_small j.proxied, short_network j (on_on j.present (present_fits j) (absent_fits j) within e)))
    (λ e. let is : if_on j.present (2 + joining_size j) 0 ≡ 0 = sym (if_off_lem _ _ j.present e refl) in omega arith)

pub lengths_from_38_to_177 : LengthsFrom38To177
unfolding frame_length group_size
lengths_from_38_to_177 b within =
    omega (arith, sequence_length b.sequence, source_length b.source, template_small b.timeslot, count_within b.slotframe (slotframe_on b within), joining_length b.joining (joining_on b within))
