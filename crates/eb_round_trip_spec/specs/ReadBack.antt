-- What is written reads back (docs/RULES.md, Writing). Assumes nothing.
use Rattle.std.specs.Prelude.{ℕ, ◌<◌, ◌≤◌, ◌≡◌, true, List, length, take}
use Rattle.refusal.specs.Refusal.{done}
use Rattle.eb_record_spec.specs.declared.Beacon.{Beacon}
use Rattle.eb_record_spec.specs.declared.BeaconForm.{BeaconForm}
use Rattle.eb_record_spec.specs.Form.{form_of, beacon_of}
use Rattle.eb_write_spec.specs.Frame.{address_mode, frame_of, frame_length}
use Rattle.eb_write_spec.specs.Limits.{fits}
use Rattle.eb_write_spec.specs.Form.{form_written}
use Rattle.eb_read_spec.specs.Read.{read_frame}
use Rattle.eb_grammar_spec.specs.Grammar.{Accepts}

-- the record's arrays have their sizes: twelve timings, sixteen links, sixteen bytes of a network ID
pub record Sized (beacon : Beacon) : Type 0 where
  pub timings : length beacon.timeslot.timings ≡ 12
  pub links : length beacon.slotframe.links ≡ 16
  pub network : length beacon.joining.network ≡ 16

-- a record that can be written: it is within the limits, and its frame has at most 125 bytes
pub record Writable (beacon : Beacon) : Type 0 where
  pub sized : Sized beacon
  pub within : fits beacon ≡ true
  pub short : length (frame_of beacon) ≤ 125

-- the frame of a record that can be written is of the grammar, and says that record
abbrev pub WrittenIsOfTheGrammar : Type 0
WrittenIsOfTheGrammar = (beacon : Beacon) → Writable beacon → Accepts (frame_of beacon) beacon

-- what a call of writing leaves is as the grammar says: where it is done, the bytes that it put are a frame, and say the record
pub record WrittenAsSaid (number size : ℕ) (buffer : List ℕ) (beacon : Beacon) : Type 0 where
  pub says : number ≡ done → Accepts (take size buffer) beacon

-- reading the frame of a record that can be written is done, and gives that record
abbrev pub FramesReadBack : Type 0
FramesReadBack = (beacon : Beacon) → Writable beacon → read_frame (frame_of beacon) ≡ record { number = done; beacon = beacon }

-- a form from which a frame is written reads back as that form
abbrev pub FormsReadBack : Type 0
FormsReadBack =
    (form : BeaconForm) (buffer : ℕ) → Sized (beacon_of form) → (form_written form buffer).number ≡ done →
    ((read_frame (frame_of (beacon_of form))).number ≡ done) × (form_of (read_frame (frame_of (beacon_of form))).beacon ≡ form)

-- two records that can be written and have the same frame are equal
abbrev pub FramesDiffer : Type 0
FramesDiffer = (one other : Beacon) → Writable one → Writable other → frame_of one ≡ frame_of other → one ≡ other

-- the frame has the length that the formula says
abbrev pub LengthIsTheFormula : Type 0
LengthIsTheFormula = (beacon : Beacon) → Sized beacon → fits beacon ≡ true → length (frame_of beacon) ≡ frame_length beacon

-- from 38 bytes to 177
abbrev pub LengthsFrom38To177 : Type 0
LengthsFrom38To177 = (beacon : Beacon) → fits beacon ≡ true → (38 ≤ frame_length beacon) × (frame_length beacon ≤ 177)

-- both are met, by records within the limits, and the shortest frame can be written
abbrev pub LengthsAreMet : Type 0
LengthsAreMet = ((beacon : Beacon) × Writable beacon × (frame_length beacon ≡ 38)) × ((beacon : Beacon) × (fits beacon ≡ true) × (frame_length beacon ≡ 177))

-- what the theorems ask of a record is met by one with timings, an extended source, several links and joining information with an address
abbrev pub FullRecordIsWritable : Type 0
FullRecordIsWritable =
    (beacon : Beacon) × Writable beacon × (beacon.timeslot.timed ≡ true) × (address_mode beacon.source ≡ 3) × (1 < beacon.slotframe.count) × (beacon.joining.present ≡ true) × (beacon.joining.proxied ≡ true)
