-- What holds of reading every list of bytes (docs/RULES.md, The order of checks). Assumes nothing.
use Rattle.std.specs.Prelude.{ℕ, ◌-◌, ◌*◌, ◌<◌, ◌≤◌, ◌^◌, ◌≡◌, List, ◌⊎◌, length, get_or}
use Rattle.refusal.specs.Refusal.{addressing, done, frame_too_long, secured, wrong_type, GivenWhen}
use Rattle.mac_header_spec.specs.Control.{short_mode, version2015}
use Rattle.mac_header_spec.specs.Fields.{mac_header_of}
use Rattle.ie_walk_spec.specs.Walk.{header_go, outer_go}
use Rattle.ie_walk_spec.specs.declared.Walk.{Walk}
use Rattle.eb_record_spec.specs.Record.{blank_link}
use Rattle.eb_read_spec.specs.Policy.{beacon_type, broadcast}
use Rattle.eb_read_spec.specs.Read.{examined, read_frame}

-- the number is one of 0 to 8
abbrev pub NumbersTo8 : Type 0
NumbersTo8 = (s : List ℕ) → (read_frame s).number ≤ 8

-- it is 1 exactly when the frame is longer than 125 bytes
abbrev pub OneIsTheLength : Type 0
OneIsTheLength = (s : List ℕ) → GivenWhen (read_frame s).number frame_too_long (125 < length s)

-- frame control can be read: the frame is not too long, and has two bytes
abbrev pub HasControl : List ℕ → Type 0
HasControl s = (length s ≤ 125) × (2 ≤ length s)

-- it says that this is a beacon of the version of 2015
abbrev pub IsBeacon : List ℕ → Type 0
IsBeacon s = ((mac_header_of s).control.kind ≡ beacon_type) × ((mac_header_of s).control.version ≡ version2015)

-- it has the accepted addressing: destination short, source there, compression 1, elements present 1
abbrev pub IsAddressed : List ℕ → Type 0
IsAddressed s =
    let control = (mac_header_of s).control in
    (control.destination ≡ short_mode) × (short_mode ≤ control.source) × (control.compression ≡ 1) × (control.elements ≡ 1)

-- the destination is there, and is not broadcast
abbrev pub AnotherDestination : List ℕ → Type 0
AnotherDestination s = ((mac_header_of s).elements ≤ (mac_header_of s).end) × ((mac_header_of s).destination ≡ broadcast → ⊥)

-- the number is 3 exactly when frame control can be read, and says that this is no beacon of the version of 2015
abbrev pub ThreeIsTheType : Type 0
ThreeIsTheType = (s : List ℕ) → GivenWhen (read_frame s).number wrong_type (HasControl s × (IsBeacon s → ⊥))

-- 4 exactly when it is such a beacon, and secured
abbrev pub FourIsSecurity : Type 0
FourIsSecurity = (s : List ℕ) → GivenWhen (read_frame s).number secured (HasControl s × IsBeacon s × ((mac_header_of s).control.security ≡ 0 → ⊥))

-- 5 exactly when it is such a beacon, not secured, and has another addressing or another destination
abbrev pub FiveIsTheAddressing : Type 0
FiveIsTheAddressing =
    (s : List ℕ) →
    GivenWhen (read_frame s).number addressing (HasControl s × IsBeacon s × ((mac_header_of s).control.security ≡ 0) × ((IsAddressed s → ⊥) ⊎ (IsAddressed s × AnotherDestination s)))

-- every entry of a list is a byte
abbrev pub Bytes : List ℕ → Type 0
Bytes s = (i : ℕ) → get_or s i 0 < 256

-- an accepted record can be decided on: 1 to 16 links, a size of at least 1, each used link's timeslot below the size, an ASN of 5 bytes
abbrev pub AcceptedMayBeDecidedOn : Type 0
AcceptedMayBeDecidedOn =
    (s : List ℕ) → (read_frame s).number ≡ done →
    let beacon = (read_frame s).beacon in
    (1 ≤ beacon.slotframe.count)
    × (beacon.slotframe.count ≤ 16)
    × (1 ≤ beacon.slotframe.size)
    × ((i : ℕ) → i < beacon.slotframe.count → (get_or beacon.slotframe.links i blank_link).timeslot < beacon.slotframe.size)
    × (Bytes s → beacon.synchronization.asn < 2 ^ 40)

-- the bound of the lists does not matter: all that are large enough give the same
abbrev pub BoundsDoNotMatter : Type 0
BoundsDoNotMatter =
    (s : List ℕ) (at end one other : ℕ) →
    (end - at < one → end - at < other → header_go one s at end ≡ header_go other s at end)
    × ((walk : Walk) → 2 * (end - at) < one → 2 * (end - at) < other → outer_go one s at end walk ≡ outer_go other s at end walk)

-- no more elements are skipped than the frame has bytes
abbrev pub SkippedFitTheFrame : Type 0
SkippedFitTheFrame = (s : List ℕ) → (examined s).walk.skipped ≤ length s
