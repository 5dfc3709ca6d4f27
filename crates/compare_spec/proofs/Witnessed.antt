-- Two records that meet what is asked of records, and their differences: the checker computes the rows, and the laws of rows say which are kept.
-- Assumes nothing.
use mathlib.Core.Path.{◌≡◌, refl, ◌∙◌, ap}
use mathlib.Core.Bool.{true}
use mathlib.Core.List.{List, [], ◌∷◌}
use native.Mathlib.Omega.{arith}
use lib.ListN.{drop}
use Rattle.octets_spec.specs.Choice.{if_on}
use Rattle.octets_spec.specs.Number.{le_bytes}
use Rattle.mac_header_spec.specs.declared.Address.TheVariants.{Short, Extended}
use Rattle.eb_record_spec.specs.Form.{address_fits}
use Rattle.eb_read_spec.specs.Read.{ReadAnswer}
use Rattle.eb_read_spec.specs.Witnesses.{shortest, shortest_record}
use Rattle.eb_read_spec.proofs.Witnessed.{shortest_is_read, shortest_done, shortest_bytes}
use Rattle.eb_write_spec.specs.Frame.{sequence_bytes, address_bytes, template_size, group_size, joining_size, frame_length}
use Rattle.eb_write_spec.specs.Limits.{all_of, all_below, sequence_fits, synchronization_fits, template_fits, link_fits, link_unused, slotframe_fits, absent_fits, joining_fits, fits}
use Rattle.eb_fields_spec.specs.declared.Content.{Content}
use Rattle.eb_fields_spec.specs.Content.{number_content, address_content}
use Rattle.eb_fields_spec.specs.Fields.{Field, fields}
use Rattle.eb_round_trip_spec.specs.ReadBack.{Sized, Writable}
use Rattle.eb_round_trip_spec.proofs.FrameLengths.{length_is_the_formula}
use Rattle.compare_spec.specs.declared.Difference.{Difference}
use Rattle.compare_spec.specs.Decide.{Differs}
use Rattle.compare_spec.specs.Compare.{beside, differences}
use Rattle.compare_spec.specs.Claims.{CanBeRead, another, ThereAreSuch}
use Rattle.compare_spec.proofs.DifferenceLaws.{row_kept, row_left, none_kept}

shortest_can_be_read : CanBeRead shortest_record
shortest_can_be_read = (shortest, shortest_bytes, shortest_done, ap (λ (answer : ReadAnswer). answer.beacon) shortest_is_read.0)

-- ---- the other can be written
another_sized : Sized another
another_sized = record { timings = refl; links = refl; network = refl }

another_fits : fits another ≡ true
unfolding if_on all_of all_below sequence_fits address_fits synchronization_fits template_fits link_fits link_unused slotframe_fits absent_fits joining_fits fits
another_fits = refl

another_44 : frame_length another ≡ 44
unfolding frame_length sequence_bytes address_bytes le_bytes group_size template_size joining_size if_on
another_44 = refl

another_writable : Writable another
another_writable = record { sized = another_sized; within = another_fits; short = omega (arith, length_is_the_formula another another_sized another_fits, another_44) }

-- ---- their differences: the first row is left, the next two are kept, the rest are the same rows
abbrev pan_row : Difference
pan_row = record { place = 1; first = number_content 4660; second = number_content 51966 }

abbrev source_row : Difference
source_row = record { place = 2; first = address_content (Short 7); second = address_content (Extended 7) }

pan_differs : Differs pan_row
unfolding number_content
pan_differs same = absurd (omega (arith, ap (λ (content : Content). content.number) same))

source_differs : Differs source_row
unfolding address_content
source_differs same = absurd (omega (arith, ap (λ (content : Content). content.kind) same))

abbrev behind_source : List Field
behind_source = drop 3 (fields shortest_record)

two_differences : differences shortest_record another ≡ pan_row ∷ source_row ∷ []
unfolding differences beside fields
two_differences =
    row_left _ (pan_row ∷ source_row ∷ beside 3 behind_source behind_source) refl
    ∙ (row_kept pan_row (source_row ∷ beside 3 behind_source behind_source) pan_differs
    ∙ ap (λ (found : List Difference). pan_row ∷ found) (row_kept source_row (beside 3 behind_source behind_source) source_differs ∙ ap (λ (found : List Difference). source_row ∷ found) (none_kept 3 behind_source)))

pub there_are_such : ThereAreSuch
there_are_such = (shortest_can_be_read, another_writable, two_differences)
