-- Lists of bytes at which the checker computes what reading gives, so that no theorem about reading is about nothing
-- (docs/RULES.md, A worked frame). Assumes nothing.
use Rattle.std.specs.Prelude.{ℕ, ◌≤◌, ◌≡◌, false, true, List, [], ◌∷◌, ◌++◌, take, replicate}
use Rattle.refusal.specs.Refusal.{done, cut}
use Rattle.eb_record_spec.specs.Record.{blank_link, blank_joining, blank_beacon}
use Rattle.mac_header_spec.specs.declared.SequenceNumber.TheVariants.{Absent}
use Rattle.mac_header_spec.specs.declared.Address.TheVariants.{Short}
use Rattle.eb_record_spec.specs.declared.Beacon.{Beacon}
use Rattle.eb_read_spec.specs.Claims.{Bytes}
use Rattle.eb_read_spec.specs.Read.{examined, read_frame}

-- a frame of 38 bytes, with one link (docs/RULES.md, A worked frame)
abbrev pub shortest : List ℕ
shortest = 0x40 ∷ 0xAB ∷ 0x34 ∷ 0x12 ∷ 0xFF ∷ 0xFF ∷ 0x07 ∷ 0x00 ∷ 0x00 ∷ 0x3F ∷ 0x1A ∷ 0x88 ∷ 0x06 ∷ 0x1A ∷ 0x00 ∷ 0x01 ∷ 0x00 ∷ 0x00 ∷ 0x00 ∷ 0x02 ∷ 0x01 ∷ 0x1C ∷ 0x00 ∷ 0x01 ∷ 0xC8 ∷ 0x00 ∷ 0x0A ∷ 0x1B ∷ 0x01 ∷ 0x00 ∷ 0x0B ∷ 0x00 ∷ 0x01 ∷ 0x00 ∷ 0x00 ∷ 0x00 ∷ 0x00 ∷ 0x0F ∷ []

-- its record
abbrev pub shortest_record : Beacon
shortest_record = record {
  sequence = Absent;
  pan = 4660;
  source = Short 7;
  synchronization = record { asn = 256; metric = 2 };
  timeslot = record { id = 0; timed = false; timings = replicate 12 0 };
  hopping = 0;
  slotframe = record { handle = 0; size = 11; count = 1; links = record { timeslot = 0; channel_offset = 0; options = 15 } ∷ replicate 15 blank_link };
  joining = blank_joining;
}

-- it is accepted, with this whole record; without its last byte it is cut, and so is the empty list
abbrev pub ShortestIsRead : Type 0
ShortestIsRead =
    (read_frame shortest ≡ record { number = done; beacon = shortest_record })
    × (read_frame (take 37 shortest) ≡ record { number = cut; beacon = blank_beacon })
    × (read_frame [] ≡ record { number = cut; beacon = blank_beacon })

-- it meets what the theorems about accepted frames ask for: the number 0, and bytes
abbrev pub SomeFrameIsAccepted : Type 0
SomeFrameIsAccepted = (s : List ℕ) × ((read_frame s).number ≡ done) × ((examined s).number ≡ done) × Bytes s

-- an accepted frame may have joining information: its element stands behind the group of the frame above
abbrev pub SomeFrameHasJoiningInformation : Type 0
SomeFrameHasJoiningInformation =
    let s : List ℕ = shortest ++ (0x05 ∷ 0xA8 ∷ 0x02 ∷ 0x00 ∷ 0x00 ∷ 0x00 ∷ 0x00 ∷ []) in
    ((examined s).number ≡ done) × ((examined s).walk.joining ≡ 41) × ((read_frame s).beacon.joining.present ≡ true)

-- each of the numbers 0 to 8 is given by some list
abbrev pub EachNumberIsGiven : Type 0
EachNumberIsGiven = (number : ℕ) → number ≤ 8 → (s : List ℕ) × ((read_frame s).number ≡ number)
