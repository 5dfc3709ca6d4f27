-- What holds of reading every list of bytes as an acknowledgement (docs/RULES.md, Acknowledgements). Assumes nothing.
use Rattle.std.specs.Prelude.{ℕ, ◌<◌, ◌≤◌, ◌≡◌, List, length}
use Rattle.refusal.specs.Refusal.{addressing, done, frame_too_long, secured, wrong_type, GivenWhen}
use Rattle.mac_header_spec.specs.Control.{short_mode, version2015}
use Rattle.mac_header_spec.specs.Fields.{mac_header_of}
use Rattle.eb_read_spec.specs.Claims.{HasControl}
use Rattle.eb_read_spec.specs.Read.{read_frame}
use Rattle.ack_read_spec.specs.Policy.{ack_type, compression_of}
use Rattle.ack_read_spec.specs.Read.{read_ack}

-- the number is one of 0 to 7
abbrev pub NumbersTo7 : Type 0
NumbersTo7 = (s : List ℕ) → (read_ack s).number ≤ 7

-- it is 1 exactly when the frame is longer than 125 bytes
abbrev pub OneIsTheLength : Type 0
OneIsTheLength = (s : List ℕ) → GivenWhen (read_ack s).number frame_too_long (125 < length s)

-- frame control says that this is an acknowledgement of the version of 2015
abbrev pub IsAck : List ℕ → Type 0
IsAck s = ((mac_header_of s).control.kind ≡ ack_type) × ((mac_header_of s).control.version ≡ version2015)

-- it has the accepted addressing: destination and source there, the compression that they ask for, elements present 1
abbrev pub IsAddressed : List ℕ → Type 0
IsAddressed s =
    let control = (mac_header_of s).control in
    (short_mode ≤ control.destination) × (short_mode ≤ control.source) × (control.compression ≡ compression_of control.destination control.source) × (control.elements ≡ 1)

-- 3 exactly when frame control can be read, and says that this is no acknowledgement of the version of 2015
abbrev pub ThreeIsTheType : Type 0
ThreeIsTheType = (s : List ℕ) → GivenWhen (read_ack s).number wrong_type (HasControl s × (IsAck s → ⊥))

-- 4 exactly when it is such an acknowledgement, and secured
abbrev pub FourIsSecurity : Type 0
FourIsSecurity = (s : List ℕ) → GivenWhen (read_ack s).number secured (HasControl s × (IsAck s × ((mac_header_of s).control.security ≡ 0 → ⊥)))

-- 5 exactly when it is such an acknowledgement, not secured, and has another addressing
abbrev pub FiveIsTheAddressing : Type 0
FiveIsTheAddressing = (s : List ℕ) → GivenWhen (read_ack s).number addressing (HasControl s × (IsAck s × ((mac_header_of s).control.security ≡ 0) × (IsAddressed s → ⊥)))

-- no list of bytes is accepted as a beacon and as an acknowledgement
abbrev pub NeverABeaconToo : Type 0
NeverABeaconToo = (s : List ℕ) → (read_frame s).number ≡ done → (read_ack s).number ≡ done → ⊥
