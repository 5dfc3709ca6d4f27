-- Frames of the grammar: two at which the checker computes reading, and one that follows from another. Assumes nothing.
use Prim.Native.Nat.{ℕ, zero, suc, ◌+◌, ◌-◌, ◌*◌, ◌^◌}
use mathlib.Core.Path.{◌≡◌, refl, sym, ◌∙◌, ap}
use mathlib.Core.List.{List, [], ◌∷◌}
use native.Mathlib.Omega.{arith}
use lib.Dec.{T, lit<, lit≤, ltb, ltb→lt}
use lib.ListN.{take, drop}
use Rattle.octets_spec.specs.Choice.{if_on, if_lt, if_eq}
use Rattle.octets_spec.specs.Counted.{counted, padded}
use Rattle.octets_spec.specs.Number.{le_at, be_at}
use Rattle.mac_header_spec.specs.Control.{control_of}
use Rattle.mac_header_spec.specs.Fields.{address_length, offsets_of, mac_header_of, sequence_of, address_of}
use Rattle.ie_step_spec.specs.Header.{header_word, header_at}
use Rattle.ie_step_spec.specs.Payload.{group_of, outer_word, outer_at, inner_word, inner_at}
use Rattle.ie_verdict_spec.specs.Verdict.{once_only, sync_fault, timeslot_fault, hopping_fault, slotframe_shape, slotframe_limits, slotframe_fault, joining_fault, timeslots_fit, slotframe_fault_at, part_fault}
use Rattle.ie_walk_spec.specs.Walk.{blank_walk, in_front, skipped_over, seen_of, skip_one, taken, stopped, part_taken, header_go, header_list, outer_go, group_go, payload_list}
use Rattle.eb_read_spec.specs.Policy.{form_fault, policy_fault, mac_header_fault}
use Rattle.eb_read_spec.specs.Decode.{synchronization_at, timing_at, template_at, link_at, slotframe_at, network_offset, joining_at, decoded}
use Rattle.eb_read_spec.specs.Read.{walk_start, skipped_before, behind_header, elements_walk, missing, walk_number, examined, read_frame}
use Rattle.mac_header_spec.specs.declared.SequenceNumber.TheVariants.{Absent}
use Rattle.mac_header_spec.specs.declared.Address.TheVariants.{Short}
use Rattle.eb_read_spec.specs.Claims.{Bytes}
use Rattle.eb_read_spec.specs.Witnesses.{shortest, shortest_record}
use Rattle.eb_read_spec.specs.Read.{ReadAnswer}
use Rattle.eb_read_spec.proofs.Witnessed.{bytes, shortest_is_read, shortest_bytes}
use Rattle.eb_grammar_spec.specs.Witnesses.{ShortestIsOfTheGrammar, AnUnknownElementIsPutIn, manifold, manifold_record, ManifoldIsOfTheGrammar}
use Rattle.eb_grammar_spec.specs.Row.{le}
use Rattle.eb_grammar_spec.specs.Grammar.{suppressed, short_address, fixed_fields, Descriptor, header_end, Element, short_id, long_id, group_end, sub_element, mlme, other_group, PayloadElements, bytes_end, payload_element, contents}
use Rattle.eb_grammar_spec.specs.Follows.{Before, one_element}
use Rattle.eb_grammar_spec.proofs.Agreed.{sound, complete}
use Rattle.eb_grammar_spec.proofs.Followed.{unknown_elements_do_not_count}

take_bytes : (n : ℕ) (s : List ℕ) → Bytes s → Bytes (take n s)
take_bytes zero s bytes i = lit< tt
take_bytes (suc n) [] bytes i = lit< tt
take_bytes (suc n) (x ∷ xs) bytes zero = bytes 0
take_bytes (suc n) (x ∷ xs) bytes (suc i) = take_bytes n xs (λ j. bytes (suc j)) i

pub shortest_is_of_the_grammar : ShortestIsOfTheGrammar
shortest_is_of_the_grammar = (
  sound shortest _ shortest_bytes shortest_is_read.0,
  λ b a. let two : ◌≡◌ {A = ℕ} 2 0 = ap (λ (r : ReadAnswer). r.number) (sym shortest_is_read.1 ∙ complete (take 37 shortest) b (take_bytes 37 shortest shortest_bytes) a) in absurd (omega (arith, two)),
)

manifold_is_read : ◌≡◌ {A = ReadAnswer} (read_frame manifold) (record { number = 0; beacon = manifold_record })
unfolding if_on if_lt if_eq counted padded le_at be_at control_of form_fault address_length offsets_of mac_header_of policy_fault mac_header_fault header_word header_at group_of outer_word outer_at inner_word inner_at once_only sync_fault timeslot_fault hopping_fault slotframe_shape slotframe_limits slotframe_fault joining_fault timeslots_fit slotframe_fault_at part_fault in_front skipped_over seen_of skip_one taken stopped part_taken header_go header_list outer_go group_go payload_list sequence_of address_of synchronization_at timing_at template_at link_at slotframe_at network_offset joining_at decoded walk_start blank_walk skipped_before behind_header elements_walk missing walk_number examined read_frame
manifold_is_read = refl

pub manifold_is_of_the_grammar : ManifoldIsOfTheGrammar
manifold_is_of_the_grammar = sound manifold manifold_record (bytes manifold tt) manifold_is_read

-- ---- the frame of 38 bytes, by the grammar's constructors
describes : (split low high size id top : ℕ) → le (low ∷ high ∷ []) ≡ size + 2 ^ split * id + 32768 * top → T (ltb size (2 ^ split)) → T (ltb id (2 ^ (15 - split))) → Descriptor split low high size id top
describes split low high size id top e fits id_fits = record { parts = e; length_fits = ltb→lt _ _ fits; id_fits = ltb→lt _ _ id_fits }

place : Before (take 10 shortest)
unfolding le
place = record {
  fields = take 8 shortest;
  header = [];
  low = 0;
  high = 63;
  payload = [];
  found = [];
  sequence = Absent;
  pan = 4660;
  source = Short 7;
  stands = refl;
  opens =
      fixed_fields 64 171 52 18 (record { type = refl; security = refl; compression = refl; suppression = refl; elements = refl; destination = refl; version = refl; source = refl }) suppressed
      (short_address (7 ∷ 0 ∷ []) refl);
  skips = header_end;
  follows = describes 7 0 63 0 126 0 refl tt tt;
  lists = bytes_end;
}

elements : (found : List Element) × PayloadElements (drop 10 shortest) found
unfolding le
elements = (
  _,
  payload_element 26 136 1 (drop 12 shortest) (describes 11 26 136 26 1 1 refl tt tt) (λ (z : ◌≡◌ {A = ℕ} 1 15). omega arith)
      (mlme (sub_element 6 26 26 (0 ∷ 1 ∷ 0 ∷ 0 ∷ 0 ∷ 2 ∷ []) (short_id 26 (describes 8 6 26 6 26 0 refl tt tt))
      (sub_element 1 28 28 (0 ∷ []) (short_id 28 (describes 8 1 28 1 28 0 refl tt tt))
      (sub_element 1 200 137 (0 ∷ []) (long_id 9 (describes 11 1 200 1 9 1 refl tt tt))
      (sub_element 10 27 27 (drop 28 shortest) (short_id 27 (describes 8 10 27 10 27 0 refl tt tt)) group_end))))) bytes_end,
)

pub an_unknown_element_is_put_in : AnUnknownElementIsPutIn
unfolding le contents
an_unknown_element_is_put_in =
    (unknown_elements_do_not_count (take 10 shortest) (187 ∷ []) (1 ∷ 152 ∷ 187 ∷ []) (drop 10 shortest) 3 [] elements.0 shortest_record place (one_element 1 152 (describes 11 1 152 1 3 1 refl tt tt))
    (λ (z : ◌≡◌ {A = ℕ} 3 15). omega arith) (other_group (λ (z : ◌≡◌ {A = ℕ} 3 1). omega arith) (λ (z : ◌≡◌ {A = ℕ} 3 5). omega arith)) (λ kind known. refl) elements.1 (lit≤ tt)).0 shortest_is_of_the_grammar.0
