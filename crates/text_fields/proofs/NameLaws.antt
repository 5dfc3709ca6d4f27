-- The laws of names by their places, in the shape in which the code meets them. Assumes nothing.
use Prim.Native.Nat.{ℕ, zero, suc, ◌+◌, ◌-◌, ◌/◌, ◌%◌, ◌<◌, ◌≤◌}
use mathlib.Core.Path.{◌≡◌, refl, sym, ◌∙◌, ap}
use mathlib.Core.List.{List, [], ◌++◌, append_assoc}
use native.Mathlib.Nat.{zero-add}
use native.Mathlib.Omega.{arith}
use lib.Dec.{T, leb, lit≤}
use lib.ListN.{length, get_or-eq_default}
use Rattle.octets_spec.specs.Choice.{if_eq}
use Rattle.octets_spec.proofs.ChoiceLaws.{if_ne_lem}
use Rattle.eb_record_spec.specs.Record.{blank_beacon}
use Rattle.text_put_spec.specs.Part.{field, PartPut}
use Rattle.text_put_spec.proofs.PartLaws.{row, wider, nothing_put}
use Rattle.text_put_spec.specs.Text.{decimal}
use Rattle.eb_fields_spec.specs.Names.{hopping_name, link_name, link_timeslot_name, link_offset_name, link_options_name, link_field_name}
use Rattle.eb_fields_spec.specs.Fields.{Field, no_field, header_fields, synchronization_fields, timing_names, timing_fields, link_fields, slotframe_fields, joining_fields, name_in, name_at}
use Rattle.eb_fields_spec.proofs.PlaceLaws.{from_2, from_3, from_7, from_12, three_on, of_header, of_synchronization, of_timeslot, of_hopping, of_slotframe, of_joining, link_at_lem, row_of_link}
use Rattle.text_fields.specs.Part.{header_name, synchronization_name, timing_name, timeslot_name, part_name, links_name, slotframe_name, joining_name}

abbrev name_of : Field → List ℕ
name_of f = f.name

-- ---- a name by its place
module _ (s t : List ℕ) (at r i : ℕ) where
  pub named : (rows : List Field) (k m : ℕ) → i ≡ k → PartPut m s at (name_in rows k) t r → T (leb m 40) → PartPut 40 s at (name_in rows i) t r
  named rows k m e put few = rw e (wider m 40 at r s t _ (lit≤ few) put)

-- ---- the last arm of a match, which is taken if the place is none of those before: no name
no_name : (s : List ℕ) (at i : ℕ) (rows : List Field) → length rows ≤ i → PartPut 40 s at (name_in rows i) s at
no_name s at i rows h = let none : name_in rows i ≡ [] = ap name_of (get_or-eq_default rows no_field h) in rw none (wider 0 40 at at s s [] (lit≤ tt) (nothing_put s at))

module _ (s : List ℕ) (at i : ℕ) (not_0 : i ≡ 0 → ⊥) (not_1 : i ≡ 1 → ⊥) where
  pub synchronization_none : PartPut 40 s at (synchronization_name i) s at
  synchronization_none = no_name s at i (synchronization_fields blank_beacon.synchronization) (from_2 i not_0 not_1)

  module _ (not_2 : i ≡ 2 → ⊥) where
    pub header_none : PartPut 40 s at (header_name i) s at
    header_none = no_name s at i (header_fields blank_beacon.sequence blank_beacon.pan blank_beacon.source) (from_3 i not_0 not_1 not_2)

    pub links_named : (t : List ℕ) (r : ℕ) → PartPut 40 s at (links_name (i - 3)) t r → PartPut 40 s at (slotframe_name i) t r
    unfolding links_name slotframe_name
    links_named t r put = let more : i ≡ suc (suc (suc (i - 3))) = three_on i (from_3 i not_0 not_1 not_2) in rw more put

    module _ (not_3 : i ≡ 3 → ⊥) (not_4 : i ≡ 4 → ⊥) (not_5 : i ≡ 5 → ⊥) (not_6 : i ≡ 6 → ⊥) where
      pub joining_none : PartPut 40 s at (joining_name i) s at
      joining_none = no_name s at i (joining_fields blank_beacon.joining) (from_7 i not_0 not_1 not_2 not_3 not_4 not_5 not_6)

      pub timing_none : (i ≡ 7 → ⊥) → (i ≡ 8 → ⊥) → (i ≡ 9 → ⊥) → (i ≡ 10 → ⊥) → (i ≡ 11 → ⊥) → PartPut 40 s at (timing_name i) s at
      timing_none not-7 not_8 not-9 not-10 not-11 = no_name s at i (timing_fields blank_beacon.timeslot 0 timing_names) (from_12 i not_0 not_1 not_2 not_3 not_4 not_5 not_6 not-7 not_8 not-9 not-10 not-11)

-- ---- a name among those of an element
module _ (s t : List ℕ) (at r i : ℕ) where
  pub slotframe_named : (k m : ℕ) → i ≡ k → PartPut m s at (name_in (slotframe_fields blank_beacon.slotframe) k) t r → T (leb m 40) → PartPut 40 s at (slotframe_name i) t r
  unfolding slotframe_name
  slotframe_named k m = named s t at r i (slotframe_fields blank_beacon.slotframe) k m

  pub timing_named : (i ≡ 0 → ⊥) → PartPut 40 s at (timing_name (i - 1)) t r → PartPut 40 s at (timeslot_name i) t r
  timing_named not_0 put = let more : i ≡ suc (i - 1) = omega (arith, not_0) in rw more put

  pub first_part : i ≡ 0 → PartPut 9 s at link_timeslot_name t r → PartPut 15 s at (part_name i) t r
  unfolding part_name if_eq
  first_part e put = rw e (wider 9 15 at r s t _ (lit≤ tt) put)

  pub second_part : i ≡ 1 → PartPut 15 s at link_offset_name t r → PartPut 15 s at (part_name i) t r
  unfolding part_name if_eq
  second_part e put = rw e put

  pub third_part : (i ≡ 0 → ⊥) → (i ≡ 1 → ⊥) → PartPut 8 s at link_options_name t r → PartPut 15 s at (part_name i) t r
  unfolding part_name
  third_part not_0 not_1 put = let is : link_options_name ≡ part_name i = if_ne_lem _ _ i 0 not_0 (if_ne_lem _ _ i 1 not_1 refl) in rw (← is) (wider 8 15 at r s t _ (lit≤ tt) put)

-- ---- the name of a link's number
part_name_lem : (place part : ℕ) → part < 3 → (row_of_link blank_beacon.slotframe place part).name ≡ link_field_name place (part_name part)
unfolding part_name if_eq
part_name_lem place zero h = refl
part_name_lem place (suc zero) h = refl
part_name_lem place (suc (suc zero)) h = refl
part_name_lem place (suc (suc (suc part))) h = absurd (omega (arith, h))

module _ (s : List ℕ) (at i place : ℕ) (place_is : place ≡ i / 3) where
  pub link_none : 16 ≤ place → PartPut 40 s at (links_name i) s at
  unfolding links_name
  link_none h = no_name s at i (link_fields blank_beacon.slotframe 0 16) (omega (arith, h, place_is))

  pub link_named : (t u : List ℕ) (a b : ℕ) → place < 16 → PartPut 25 s at (field link_name place) t a → PartPut 15 t a (part_name (i % 3)) u b → PartPut 40 s at (links_name i) u b
  unfolding links_name link_field_name field
  link_named t u a b h first second =
      let there : links_name i ≡ (row_of_link blank_beacon.slotframe (0 + i / 3) (i % 3)).name = ap name_of (link_at_lem blank_beacon.slotframe 0 16 i (omega (arith, h, place_is))) in
      let at_place : links_name i ≡ (row_of_link blank_beacon.slotframe place (i % 3)).name = rw (zero-add (i / 3), ← place_is) at there in
      let whole : links_name i ≡ (link_name ++ decimal place) ++ part_name (i % 3) = at_place ∙ part_name_lem place (i % 3) (omega arith) ∙ sym (append_assoc link_name (decimal place) (part_name (i % 3))) in
      rw whole (row 25 15 at a b s t u _ _ first second)

-- ---- the names of each element among all names
module _ (s t : List ℕ) (at r i : ℕ) where
  among : (name : List ℕ) → name_at i ≡ name → PartPut 40 s at name t r → PartPut 40 s at (name_at i) t r
  among name e put = rw e put

  pub header_name_lem : i < 3 → PartPut 40 s at (header_name i) t r → PartPut 40 s at (name_at i) t r
  unfolding name_at
  header_name_lem h = among _ (ap name_of (of_header blank_beacon i h))

  pub synchronization_name_lem : 3 ≤ i → i < 5 → PartPut 40 s at (synchronization_name (i - 3)) t r → PartPut 40 s at (name_at i) t r
  unfolding name_at
  synchronization_name_lem h l = among _ (ap name_of (of_synchronization blank_beacon i h l))

  pub timeslot_name_lem : 5 ≤ i → i < 18 → PartPut 40 s at (timeslot_name (i - 5)) t r → PartPut 40 s at (name_at i) t r
  unfolding name_at
  timeslot_name_lem h l = among _ (ap name_of (of_timeslot blank_beacon i h l))

  pub hopping_name_lem : 18 ≤ i → i < 19 → PartPut 19 s at hopping_name t r → PartPut 40 s at (name_at i) t r
  unfolding name_at
  hopping_name_lem h l put = let first : i - 18 ≡ 0 = omega (arith, h, l) in among hopping_name (ap name_of (rw first at (of_hopping blank_beacon i h l))) (wider 19 40 at r s t _ (lit≤ tt) put)

  pub slotframe_name_lem : 19 ≤ i → i < 70 → PartPut 40 s at (slotframe_name (i - 19)) t r → PartPut 40 s at (name_at i) t r
  unfolding name_at slotframe_name
  slotframe_name_lem h l = among _ (ap name_of (of_slotframe blank_beacon i h l))

  pub joining_name_lem : 70 ≤ i → PartPut 40 s at (joining_name (i - 70)) t r → PartPut 40 s at (name_at i) t r
  unfolding name_at
  joining_name_lem h = among _ (ap name_of (of_joining blank_beacon i h))

pub ruleset names = (named, synchronization_none, header_none, links_named, joining_none, timing_none, slotframe_named, timing_named, first_part, second_part, third_part, link_none, link_named)

pub ruleset elementNames = (header_name_lem, synchronization_name_lem, timeslot_name_lem, hopping_name_lem, slotframe_name_lem, joining_name_lem)
