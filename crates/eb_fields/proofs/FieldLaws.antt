-- The laws of contents and of fields by their places, in the shape in which the code meets them. Assumes nothing.
use Prim.Native.Nat.{ℕ, zero, suc, ◌+◌, ◌-◌, ◌/◌, ◌%◌, ◌<◌, ◌≤◌}
use mathlib.Core.Path.{◌≡◌, refl, sym, ◌∙◌, ap}
use mathlib.Core.Bool.{Bool, true, false}
use mathlib.Core.List.{List}
use native.Mathlib.Nat.{zero-add}
use native.Mathlib.Omega.{arith}
use lib.Dec.{ltb}
use lib.ListN.{length, get_or, get_or-eq_default}
use Rattle.std.specs.Int.{from_bool}
use Rattle.octets_spec.specs.Choice.{if_on, if_eq}
use Rattle.octets_spec.proofs.ChoiceLaws.{if_ne_lem}
use Rattle.mac_header_spec.specs.declared.SequenceNumber.{SequenceNumber}
use Rattle.mac_header_spec.specs.declared.SequenceNumber.TheVariants.{Absent, Number}
use Rattle.mac_header_spec.specs.declared.Address.{Address}
use Rattle.mac_header_spec.specs.declared.Address.TheVariants.{Short, Extended}
use Rattle.eb_record_spec.specs.declared.Synchronization.{Synchronization}
use Rattle.eb_record_spec.specs.declared.JoiningInformation.{JoiningInformation}
use Rattle.eb_record_spec.specs.declared.TimeslotTemplate.{TimeslotTemplate}
use Rattle.eb_record_spec.specs.declared.Slotframe.{Slotframe}
use Rattle.eb_record_spec.specs.declared.Link.{Link}
use Rattle.eb_record_spec.specs.declared.Beacon.{Beacon}
use Rattle.eb_fields_spec.specs.declared.Content.{Content}
use Rattle.eb_fields_spec.specs.Content.{absent_content, number_content, address_content, octets_content, sequence_content, content_if, flag_content}
use Rattle.eb_fields_spec.specs.Fields.{Field, no_field, header_fields, synchronization_fields, timeslot_fields, slotframe_fields, joining_fields, timing_content, timing_names, link_at, link_content, link_fields, content_in, content_at}
use Rattle.eb_fields_spec.proofs.PlaceLaws.{from_2, from_3, from_7, three_on, of_header, of_synchronization, of_timeslot, of_hopping, of_slotframe, of_joining, timing_at_lem, link_at_lem, row_of_link}
use Rattle.eb_fields.specs.Part.{plain_content, link_number, links_content}

abbrev content_of : Field → Content
content_of f = f.content

-- ---- contents
pub absent_made : plain_content 0 0 ≡ absent_content
unfolding absent_content
absent_made = refl

pub number_made : (n : ℕ) → plain_content 1 n ≡ number_content n
unfolding number_content
number_made n = refl

pub short_made : (a : Address) (n : ℕ) → a ≡ Short n → plain_content 2 n ≡ address_content a
unfolding address_content
short_made a n e = rw e refl

pub extended_made : (a : Address) (n : ℕ) → a ≡ Extended n → plain_content 3 n ≡ address_content a
unfolding address_content
extended_made a n e = rw e refl

module _ (r : Content) where
  pub sequence_absent : (q : SequenceNumber) → q ≡ Absent → r ≡ absent_content → r ≡ sequence_content q
  unfolding sequence_content
  sequence_absent q e h = rw e h

  pub sequence_number_lem : (q : SequenceNumber) (n : ℕ) → q ≡ Number n → r ≡ number_content n → r ≡ sequence_content q
  unfolding sequence_content
  sequence_number_lem q n e h = rw e h

  pub is_there_lem : (there : Bool) (content : Content) → there ≡ true → r ≡ content → r ≡ content_if there content
  unfolding content_if if_on
  is_there_lem there content e h = rw e h

  pub is_absent : (there : Bool) (content : Content) → there ≡ false → r ≡ absent_content → r ≡ content_if there content
  unfolding content_if if_on
  is_absent there content e h = rw e h

-- a flag is as the number that the library gives for it
pub flag_made : (r : Content) (set : Bool) (n : ℕ) → n ≡ from_bool set → r ≡ number_content n → r ≡ flag_content set
unfolding flag_content if_on
flag_made r true n e h = rw e at h
flag_made r false n e h = rw e at h

pub octets_made : (n : ℕ) (l : List ℕ) → ◌≡◌ {A = Content} (record { kind = 4; length = n; number = 0; octets = l }) (octets_content n l)
unfolding octets_content
octets_made n l = refl

-- ---- a number of a link
module _ (link : Link) (part : ℕ) where
  pub first_number : part ≡ 0 → link.timeslot ≡ link_number link part
  unfolding link_number if_eq
  first_number e = rw e refl

  pub second_number : part ≡ 1 → link.channel_offset ≡ link_number link part
  unfolding link_number if_eq
  second_number e = rw e refl

-- ---- a row by its place
module _ (r : Content) (rows : List Field) (i : ℕ) where
  pub in_place : (k : ℕ) → i ≡ k → r ≡ content_in rows k → r ≡ content_in rows i
  in_place k e h = rw e h

  behind : length rows ≤ i → r ≡ absent_content → r ≡ content_in rows i
  behind h e = e ∙ sym (ap content_of (get_or-eq_default rows no_field h))

-- ---- the last arm of a match, which is taken if the place is none of those before
module _ (r : Content) (i : ℕ) (not_0 : i ≡ 0 → ⊥) (not_1 : i ≡ 1 → ⊥) where
  pub synchronization_end_lem : (s : Synchronization) → r ≡ absent_content → r ≡ content_in (synchronization_fields s) i
  synchronization_end_lem s = behind r (synchronization_fields s) i (from_2 i not_0 not_1)

  module _ (not_2 : i ≡ 2 → ⊥) where
    pub header_end : (q : SequenceNumber) (pan : ℕ) (a : Address) → r ≡ absent_content → r ≡ content_in (header_fields q pan a) i
    header_end q pan a = behind r (header_fields q pan a) i (from_3 i not_0 not_1 not_2)

    pub slotframe_end_lem : (f : Slotframe) → r ≡ links_content f (i - 3) → r ≡ content_in (slotframe_fields f) i
    unfolding links_content
    slotframe_end_lem f e = let more : i ≡ suc (suc (suc (i - 3))) = three_on i (from_3 i not_0 not_1 not_2) in rw more e

    pub joining_end_lem : (i ≡ 3 → ⊥) → (i ≡ 4 → ⊥) → (i ≡ 5 → ⊥) → (i ≡ 6 → ⊥) → (j : JoiningInformation) → r ≡ absent_content → r ≡ content_in (joining_fields j) i
    joining_end_lem not_3 not_4 not_5 not_6 j = behind r (joining_fields j) i (from_7 i not_0 not_1 not_2 not_3 not_4 not_5 not_6)

pub third_number : (link : Link) (part : ℕ) → (part ≡ 0 → ⊥) → (part ≡ 1 → ⊥) → link.options ≡ link_number link part
unfolding link_number
third_number link part not_0 not_1 = if_ne_lem _ _ part 0 not_0 (if_ne_lem _ _ part 1 not_1 refl)

-- ---- timings and links
module _ (r : Content) (t : TimeslotTemplate) (i : ℕ) where
  pub timing_end : 12 < i → r ≡ absent_content → r ≡ content_in (timeslot_fields t) i
  timing_end h = behind r (timeslot_fields t) i h

  pub timing_row : (i ≡ 0 → ⊥) → i ≤ 12 → r ≡ content_if t.timed (number_content (get_or t.timings (i - 1) 0)) → r ≡ content_in (timeslot_fields t) i
  unfolding timing_content
  timing_row not_0 h e =
      let more : i ≡ suc (i - 1) = omega (arith, not_0) in
      let there : content_in (timeslot_fields t) (suc (i - 1)) ≡ timing_content t (0 + (i - 1)) = ap content_of (timing_at_lem t 0 timing_names (i - 1) (omega (arith, not_0, h))) in
      rw more (e ∙ sym (rw (zero-add (i - 1)) at there))

module _ (f : Slotframe) (i : ℕ) where
  -- which of a link's numbers a row has
  link_number_lem : (place part : ℕ) → part < 3 → (row_of_link f place part).content ≡ link_content f place (link_number (link_at f place) part)
  unfolding link_number if_eq
  link_number_lem place zero h = refl
  link_number_lem place (suc zero) h = refl
  link_number_lem place (suc (suc zero)) h = refl
  link_number_lem place (suc (suc (suc part))) h = absurd (omega (arith, h))

  module _ (r : Content) (place : ℕ) (place_is : place ≡ i / 3) where
    pub link_end : 16 ≤ place → r ≡ absent_content → r ≡ links_content f i
    unfolding links_content
    link_end h = behind r (link_fields f 0 16) i (omega (arith, h, place_is))

    pub link_row : (n : ℕ) → n ≡ link_number (link_at f place) (i % 3) → place < 16 → r ≡ content_if (ltb place f.count) (number_content n) → r ≡ links_content f i
    unfolding links_content link_content
    link_row n n-is h e =
        let there : content_in (link_fields f 0 16) i ≡ (row_of_link f (0 + i / 3) (i % 3)).content = ap content_of (link_at_lem f 0 16 i (omega (arith, h, place_is))) in
        let at_place : content_in (link_fields f 0 16) i ≡ (row_of_link f place (i % 3)).content = rw (zero-add (i / 3), ← place_is) at there in
        rw n-is at e ∙ sym (at_place ∙ link_number_lem place (i % 3) (omega arith))

-- ---- the fields of each element among all fields
module _ (r : Content) (b : Beacon) (i : ℕ) where
  pub header_row : i < 3 → r ≡ content_in (header_fields b.sequence b.pan b.source) i → r ≡ content_at b i
  unfolding content_at
  header_row h e = e ∙ sym (ap content_of (of_header b i h))

  pub synchronization_row : 3 ≤ i → i < 5 → r ≡ content_in (synchronization_fields b.synchronization) (i - 3) → r ≡ content_at b i
  unfolding content_at
  synchronization_row h l e = e ∙ sym (ap content_of (of_synchronization b i h l))

  pub timeslot_row : 5 ≤ i → i < 18 → r ≡ content_in (timeslot_fields b.timeslot) (i - 5) → r ≡ content_at b i
  unfolding content_at
  timeslot_row h l e = e ∙ sym (ap content_of (of_timeslot b i h l))

  pub hopping_row : 18 ≤ i → i < 19 → r ≡ number_content b.hopping → r ≡ content_at b i
  unfolding content_at
  hopping_row h l e = let first : i - 18 ≡ 0 = omega (arith, h, l) in e ∙ sym (ap content_of (rw first at (of_hopping b i h l)))

  pub slotframe_row : 19 ≤ i → i < 70 → r ≡ content_in (slotframe_fields b.slotframe) (i - 19) → r ≡ content_at b i
  unfolding content_at
  slotframe_row h l e = e ∙ sym (ap content_of (of_slotframe b i h l))

  pub joining_row : 70 ≤ i → r ≡ content_in (joining_fields b.joining) (i - 70) → r ≡ content_at b i
  unfolding content_at
  joining_row h e = e ∙ sym (ap content_of (of_joining b i h))

pub ruleset contents = (absent_made, number_made, short_made, extended_made, octets_made, sequence_absent, sequence_number_lem, is_there_lem, is_absent, flag_made)

pub ruleset rows = (first_number, second_number, third_number, in_place, synchronization_end_lem, header_end, slotframe_end_lem, joining_end_lem, timing_end, timing_row, link_end, link_row, header_row, synchronization_row, timeslot_row, hopping_row, slotframe_row, joining_row)
