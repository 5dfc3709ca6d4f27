-- The laws of the whole record: what its parts ask for, and what they make. Assumes nothing.
use Prim.Native.Nat.{ℕ, ◌+◌, ◌-◌, ◌*◌, ◌<◌, ◌≤◌, ◌^◌}
use mathlib.Core.Path.{◌≡◌, refl, sym, ◌∙◌}
use mathlib.Core.Bool.{Bool, true, false, ◌&&◌, ◌||◌}
use mathlib.Core.List.{List}
use native.Mathlib.Omega.{arith}
use lib.Dec.{eqb, ltb}
use lib.ListN.{length, get_or}
use Rattle.octets_spec.proofs.ChoiceLaws.{if_on_lem, if_off_lem}
use Rattle.ie_walk_spec.specs.declared.Walk.{Walk}
use Rattle.eb_record_spec.specs.Record.{blank_beacon}
use Rattle.eb_record_spec.specs.Form.{is_sequenced, sequence_number, is_extended, address_number, form_of, is_beacon}
use Rattle.eb_record_spec.specs.declared.BeaconForm.{BeaconForm}
use Rattle.eb_record_spec.specs.declared.Synchronization.{Synchronization}
use Rattle.eb_record_spec.specs.declared.TimeslotTemplate.{TimeslotTemplate}
use Rattle.eb_record_spec.specs.declared.Slotframe.{Slotframe}
use Rattle.eb_record_spec.specs.declared.JoiningInformation.{JoiningInformation}
use Rattle.eb_read_spec.specs.Decode.{synchronization_at, template_at, slotframe_at, joining_at, decoded}
use Rattle.eb_read_spec.specs.Form.{decoded_form}
use Rattle.eb_read_spec.specs.Inside.{lies_inside, TimeslotLength, JoiningInside, ElementsInside}
use Rattle.eb_read_spec.proofs.InsideLaws.{inside_facts}
use Rattle.eb_decode.specs.Header.{header_form}
use Rattle.eb_decode.specs.declared.header.HeaderForm.{HeaderForm}

-- the form with this header and these elements
abbrev with_header : HeaderForm → Synchronization → TimeslotTemplate → ℕ → Slotframe → JoiningInformation → BeaconForm
with_header header y t hopping f j = record {
  sequenced = header.sequenced;
  sequence = header.sequence;
  pan = header.pan;
  extended = header.extended;
  source = header.source;
  synchronization = y;
  timeslot = t;
  hopping = hopping;
  slotframe = f;
  joining = j;
}

module _ (s : List ℕ) (walk : Walk) (test : Bool) (is : test ≡ lies_inside s walk) where
  pub form_blank : (form : BeaconForm) → test ≡ false → form ≡ form_of blank_beacon → form ≡ decoded_form s walk
  unfolding decoded_form
  form_blank form off e = if_off_lem _ _ _ (sym is ∙ off) e

  module _ (on : test ≡ true) where
    facts : ElementsInside s walk
    facts = inside_facts s walk (sym is ∙ on)

    pub header_inside : 6 ≤ length s
    header_inside = omega (arith, facts.synchronization)

    pub synchronization_inside : walk.synchronization + 6 ≤ length s
    synchronization_inside = facts.synchronization

    pub timeslot_inside_lem : walk.timeslotend ≤ length s
    timeslot_inside_lem = facts.timeslotend

    pub timeslot_long : TimeslotLength (walk.timeslotend - walk.timeslot)
    timeslot_long = facts.timeslot

    pub hopping_inside : walk.hopping < length s
    hopping_inside = facts.hopping

    pub slotframe_few : get_or s (walk.slotframe + 4) 0 ≤ 16
    slotframe_few = facts.few

    pub slotframe_inside_lem : walk.slotframe + (5 + 5 * get_or s (walk.slotframe + 4) 0) ≤ length s
    slotframe_inside_lem = facts.slotframe

    pub joining_inside_lem : (walk.joining ≡ 0 → ⊥) → JoiningInside s walk.joining walk.joiningend
    joining_inside_lem = facts.joining

    pub form_decoded : (header : HeaderForm) (y : Synchronization) (t : TimeslotTemplate) (hopping : ℕ) (f : Slotframe) (j : JoiningInformation) → header ≡ header_form s
        → y ≡ synchronization_at s walk.synchronization → t ≡ template_at s walk.timeslot (walk.timeslotend - walk.timeslot) → hopping ≡ get_or s walk.hopping 0
        → f ≡ slotframe_at s walk.slotframe → j ≡ joining_at s walk.joining walk.joiningend
        → with_header header y t hopping f j ≡ decoded_form s walk
    unfolding decoded_form decoded form_of header_form
    form_decoded header y t hopping f j e a b c d g = if_on_lem _ _ _ (sym is ∙ on) (rw (e, a, b, c, d, g))

-- a form is a record's if its header is
pub header_fits : (header : HeaderForm) (y : Synchronization) (t : TimeslotTemplate) (hopping : ℕ) (f : Slotframe) (j : JoiningInformation)
    → ((header.sequenced || eqb header.sequence 0) && (header.extended || ltb header.source (2 ^ 16))) ≡ true
    → is_beacon (with_header header y t hopping f j) ≡ true
unfolding is_beacon
header_fits header y t hopping f j fits = fits

-- the form of the blank record is a record's
pub blank_fits : (form : BeaconForm) → form ≡ form_of blank_beacon → is_beacon form ≡ true
unfolding form_of is_beacon is_sequenced sequence_number is_extended address_number
blank_fits form e = rw e refl

pub ruleset forms = (form_blank, header_inside, synchronization_inside, timeslot_inside_lem, timeslot_long, hopping_inside, slotframe_few, slotframe_inside_lem, joining_inside_lem, form_decoded, header_fits, blank_fits)
