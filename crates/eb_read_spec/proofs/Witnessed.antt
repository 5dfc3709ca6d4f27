-- What reading gives at some lists of bytes: the checker computes it. Assumes nothing.
use Prim.Native.Nat.{ℕ, zero, suc}
use mathlib.Core.Path.{◌≡◌, refl, sym, ◌∙◌}
use mathlib.Core.Bool.{Bool, ◌&&◌, true}
use mathlib.Core.List.{List, [], ◌∷◌}
use native.Mathlib.Omega.{arith}
use lib.Dec.{T, ltb, ltb→lt, lit<}
use lib.ListN.{replicate}
use Rattle.octets_spec.specs.Choice.{if_on, if_lt, if_eq}
use Rattle.octets_spec.specs.Counted.{counted, padded}
use Rattle.octets_spec.specs.Number.{le_at, be_at}
use Rattle.mac_header_spec.specs.Control.{control_of}
use Rattle.mac_header_spec.specs.Fields.{address_length, offsets_of, mac_header_of, sequence_of, address_of}
use Rattle.ie_step_spec.specs.Header.{header_word, header_at}
use Rattle.ie_step_spec.specs.Payload.{group_of, outer_word, outer_at, inner_word, inner_at}
use Rattle.ie_verdict_spec.specs.Verdict.{once_only, sync_fault, timeslot_fault, hopping_fault, slotframe_shape, slotframe_limits, slotframe_fault, joining_fault, timeslots_fit, slotframe_fault_at, part_fault}
use Rattle.ie_walk_spec.specs.Walk.{blank_walk, in_front, skipped_over, seen_of, skip_one, taken, stopped, part_taken, header_go, header_list, outer_go, group_go, payload_list}
use Rattle.eb_read_spec.specs.Policy.{form_fault, policy_fault, mac_header_fault}
use Rattle.eb_read_spec.specs.Decode.{synchronization_at, timing_at, template_at, link_at, slotframe_at, network_offset, joining_at, decoded}
use Rattle.eb_read_spec.specs.Read.{walk_start, skipped_before, behind_header, elements_walk, missing, walk_number, examined, read_frame}
use Rattle.eb_read_spec.specs.Claims.{Bytes}
use Rattle.eb_read_spec.specs.Witnesses.{shortest, ShortestIsRead, SomeFrameIsAccepted, SomeFrameHasJoiningInformation, EachNumberIsGiven}
use Rattle.eb_read_spec.proofs.Claimed.{number_of}
use mir.Facts.{and_yes}

both_read : ShortestIsRead × SomeFrameHasJoiningInformation
unfolding if_on if_lt if_eq counted padded le_at be_at control_of form_fault address_length offsets_of mac_header_of policy_fault mac_header_fault header_word header_at group_of outer_word outer_at inner_word inner_at once_only sync_fault timeslot_fault hopping_fault slotframe_shape slotframe_limits slotframe_fault joining_fault timeslots_fit slotframe_fault_at part_fault in_front skipped_over seen_of skip_one taken stopped part_taken header_go header_list outer_go group_go payload_list sequence_of address_of synchronization_at timing_at template_at link_at slotframe_at network_offset joining_at decoded walk_start blank_walk skipped_before behind_header elements_walk missing walk_number examined read_frame
both_read = ((refl, refl, refl), (refl, refl, refl))

pub shortest_is_read : ShortestIsRead
shortest_is_read = both_read.0

pub some_frame_has_joining_information : SomeFrameHasJoiningInformation
some_frame_has_joining_information = both_read.1

-- the bytes of a list, as a test that the checker computes
abbrev pub small : List ℕ → Bool
small [] = true
small (b ∷ bs) = ltb b 256 && small bs

pub bytes : (s : List ℕ) → T (small s) → Bytes s
bytes [] t i = lit< tt
bytes (b ∷ bs) t zero = ltb→lt b 256 (and_yes (ltb b 256) (small bs) t).0
bytes (b ∷ bs) t (suc i) = bytes bs (and_yes (ltb b 256) (small bs) t).1 i

pub shortest_done : (read_frame shortest).number ≡ 0
shortest_done = rw shortest_is_read.0 refl

pub shortest_bytes : Bytes shortest
shortest_bytes = bytes shortest tt

pub some_frame_is_accepted : SomeFrameIsAccepted
some_frame_is_accepted = (shortest, shortest_done, sym (number_of shortest) ∙ shortest_done, shortest_bytes)

-- ---- a list for each number
-- the fixed fields, and what stands behind them
abbrev fields : List ℕ → List ℕ
fields rest = 64 ∷ 171 ∷ 52 ∷ 18 ∷ 255 ∷ 255 ∷ 7 ∷ 0 ∷ rest

pub each_number_is_given : EachNumberIsGiven
unfolding if_on if_lt if_eq le_at control_of form_fault address_length offsets_of mac_header_of policy_fault mac_header_fault header_word header_at group_of outer_word outer_at inner_word inner_at hopping_fault part_fault in_front skipped_over seen_of skip_one taken stopped part_taken header_go header_list outer_go group_go payload_list walk_start blank_walk skipped_before behind_header elements_walk missing walk_number examined read_frame
each_number_is_given zero h = (shortest, shortest_done)
each_number_is_given (suc zero) h = (replicate 126 0, refl)
each_number_is_given (suc (suc zero)) h = ([], refl)
each_number_is_given (suc (suc (suc zero))) h = (0 ∷ 0 ∷ [], refl)
each_number_is_given (suc (suc (suc (suc zero)))) h = (72 ∷ 171 ∷ [], refl)
each_number_is_given (suc (suc (suc (suc (suc zero))))) h = (0 ∷ 171 ∷ [], refl)
each_number_is_given (suc (suc (suc (suc (suc (suc zero)))))) h = (fields (1 ∷ 63 ∷ 0 ∷ []), refl)
each_number_is_given (suc (suc (suc (suc (suc (suc (suc zero))))))) h = (fields [], refl)
each_number_is_given (suc (suc (suc (suc (suc (suc (suc (suc zero)))))))) h = (fields (0 ∷ 63 ∷ 4 ∷ 136 ∷ 2 ∷ 200 ∷ 0 ∷ 0 ∷ []), refl)
each_number_is_given (suc (suc (suc (suc (suc (suc (suc (suc (suc n))))))))) h = absurd (omega arith)
