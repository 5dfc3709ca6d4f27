-- What follows from the grammar, a sentence of the rules each: what can differ between two frames that say the same record, and a frame
-- that is never accepted (docs/RULES.md, The frame and Elements). Assumes nothing.
use Rattle.std.specs.Prelude.{ℕ, ◌<◌, ◌≤◌, ◌≡◌, List, [], ◌∷◌, ◌++◌, ◌⊎◌, length, replicate}
use Rattle.mac_header_spec.specs.declared.SequenceNumber.{SequenceNumber}
use Rattle.mac_header_spec.specs.declared.Address.{Address}
use Rattle.eb_record_spec.specs.declared.Beacon.{Beacon}
use Rattle.eb_grammar_spec.specs.Row.{be, bits, Row}
use Rattle.eb_grammar_spec.specs.Grammar.{FixedFields, Descriptor, HeaderElements, Element, long, ietf, SubDescriptor, SubElements, Group, PayloadElements, contents, Accepts}

-- the kinds of the known elements
abbrev pub Known : ℕ → Type 0
Known kind = (kind ≡ 0x1A) ⊎ ((kind ≡ 0x1B) ⊎ ((kind ≡ 0x1C) ⊎ ((kind ≡ long 0x9) ⊎ (kind ≡ ietf 2))))

-- two lists of elements have the same contents of each known kind
abbrev pub SameKnown : List Element → List Element → Type 0
SameKnown found other = (kind : ℕ) → Known kind → contents kind found ≡ contents kind other

-- what stands before a place of the payload list: the fixed fields, header elements, the header ID 0x7E, payload elements
pub record Before (before : List ℕ) : Type 0 where
  pub fields : List ℕ
  pub header : List ℕ
  pub low : ℕ
  pub high : ℕ
  pub payload : List ℕ
  pub found : List Element
  pub sequence : SequenceNumber
  pub pan : ℕ
  pub source : Address
  pub stands : before ≡ fields ++ (header ++ (low ∷ high ∷ payload))
  pub opens : FixedFields fields sequence pan source
  pub skips : HeaderElements header
  pub follows : Descriptor 7 low high 0 0x7E 0
  pub lists : PayloadElements payload found

-- one payload element: its group, its content, its bytes
pub data OneElement (group : ℕ) (content : List ℕ) : List ℕ → Type 0 where
  one_element : (low high : ℕ) → Descriptor 11 low high (length content) group 1 → OneElement group content (low ∷ high ∷ content)

-- one sub-element: its kind, its content, its bytes
pub data OneSubElement (kind : ℕ) (content : List ℕ) : List ℕ → Type 0 where
  one_sub_element : (low high : ℕ) → SubDescriptor low high (length content) kind → OneSubElement kind content (low ∷ high ∷ content)

-- frame pending (bit 4), acknowledge request (bit 5) and the reserved bit (bit 7) do not change the record
abbrev pub IgnoredBitsDoNotCount : Type 0
IgnoredBitsDoNotCount =
    (low other high : ℕ) (rest : List ℕ) (beacon : Beacon) → low < 256 → other < 256 → bits 0 4 low ≡ bits 0 4 other → bits 6 1 low ≡ bits 6 1 other →
    Accepts (low ∷ high ∷ rest) beacon → Accepts (other ∷ high ∷ rest) beacon

-- nor do header elements: they may be put in or taken out
abbrev pub HeaderElementsDoNotCount : Type 0
HeaderElementsDoNotCount =
    (fields header other payload : List ℕ) (low high pan : ℕ) (sequence : SequenceNumber) (source : Address) (beacon : Beacon) →
    FixedFields fields sequence pan source → HeaderElements header → HeaderElements other → Descriptor 7 low high 0 0x7E 0 → length (fields ++ (other ++ (low ∷ high ∷ payload))) ≤ 125 →
    Accepts (fields ++ (header ++ (low ∷ high ∷ payload))) beacon → Accepts (fields ++ (other ++ (low ∷ high ∷ payload))) beacon

-- behind the header ID 0x7F nothing counts: such a frame is not accepted, whatever stands there
abbrev pub NothingCountsBehind7F : Type 0
NothingCountsBehind7F =
    (fields header rest : List ℕ) (low high size pan : ℕ) (sequence : SequenceNumber) (source : Address) (beacon : Beacon) →
    FixedFields fields sequence pan source → HeaderElements header → Descriptor 7 low high size 0x7F 0 →
    Accepts (fields ++ (header ++ (low ∷ high ∷ rest))) beacon → ⊥

-- of the payload only the contents of the known elements count: whatever lists have the same say the same record
abbrev pub KnownContentsCount : Type 0
KnownContentsCount =
    (before payload other : List ℕ) (found changed : List Element) (beacon : Beacon) → Before before → PayloadElements payload found → PayloadElements other changed → SameKnown found changed →
    length (before ++ other) ≤ 125 →
    Accepts (before ++ payload) beacon → Accepts (before ++ other) beacon

-- what stands behind group 15 does not change the record
abbrev pub BytesBehindGroup15DoNotCount : Type 0
BytesBehindGroup15DoNotCount =
    (before ignored other : List ℕ) (low high : ℕ) (beacon : Beacon) → Before before → Descriptor 11 low high 0 15 1 → length (before ++ (low ∷ high ∷ other)) ≤ 125 →
    Accepts (before ++ (low ∷ high ∷ ignored)) beacon → Accepts (before ++ (low ∷ high ∷ other)) beacon

-- nor does a payload element that holds nothing known, put in or taken out
abbrev pub UnknownElementsDoNotCount : Type 0
UnknownElementsDoNotCount =
    (before content element rest : List ℕ) (group : ℕ) (inside found : List Element) (beacon : Beacon) → Before before → OneElement group content element → (group ≡ 15 → ⊥) → Group group content inside →
    SameKnown inside [] → PayloadElements rest found → length (before ++ (element ++ rest)) ≤ 125 →
    (Accepts (before ++ rest) beacon → Accepts (before ++ (element ++ rest)) beacon) × (Accepts (before ++ (element ++ rest)) beacon → Accepts (before ++ rest) beacon)

-- nor do unknown sub-elements of a group, put in or taken out
abbrev pub UnknownSubElementsDoNotCount : Type 0
UnknownSubElementsDoNotCount =
    (before one unknown two rest group wider : List ℕ) (in_one in_unknown in_two found : List Element) (beacon : Beacon) → Before before → OneElement 1 (one ++ two) group → OneElement 1 (one ++ (unknown ++ two)) wider →
    SubElements one in_one → SubElements unknown in_unknown → SubElements two in_two → SameKnown in_unknown [] → PayloadElements rest found →
    length (before ++ (group ++ rest)) ≤ 125 → length (before ++ (wider ++ rest)) ≤ 125 →
    (Accepts (before ++ (group ++ rest)) beacon → Accepts (before ++ (wider ++ rest)) beacon) × (Accepts (before ++ (wider ++ rest)) beacon → Accepts (before ++ (group ++ rest)) beacon)

-- nor does the order of the sub-elements of a group: two runs of them change places
abbrev pub OrderDoesNotCount : Type 0
OrderDoesNotCount =
    (before one two three four rest group other : List ℕ) (in_one in_two in_three in_four found : List Element) (beacon : Beacon) → Before before →
    OneElement 1 (one ++ (two ++ (three ++ four))) group → OneElement 1 (one ++ (three ++ (two ++ four))) other →
    SubElements one in_one → SubElements two in_two → SubElements three in_three → SubElements four in_four → PayloadElements rest found → length (before ++ (other ++ rest)) ≤ 125 →
    Accepts (before ++ (group ++ rest)) beacon → Accepts (before ++ (other ++ rest)) beacon

-- nor do the reserved bits of joining information, 27 to 29 of its first four bytes
abbrev pub ReservedJoiningBitsDoNotCount : Type 0
ReservedJoiningBitsDoNotCount =
    (before word other content joining changed rest : List ℕ) (found : List Element) (beacon : Beacon) → Before before → length word ≡ 4 → length other ≡ 4 →
    bits 30 2 (be word) ≡ bits 30 2 (be other) → bits 0 27 (be word) ≡ bits 0 27 (be other) →
    OneElement 5 (2 ∷ (word ++ content)) joining → OneElement 5 (2 ∷ (other ++ content)) changed → PayloadElements rest found → length (before ++ (changed ++ rest)) ≤ 125 →
    Accepts (before ++ (joining ++ rest)) beacon → Accepts (before ++ (changed ++ rest)) beacon

-- the forms of 25 and 27 bytes of the same timings say the same record
abbrev pub BothTimingFormsSayTheSame : Type 0
BothTimingFormsSayTheSame =
    (before one two rest narrow wide timings narrower wider group other : List ℕ) (id : ℕ) (in_one in_two found : List Element) (beacon : Beacon) → Before before →
    Row (replicate 12 2) narrow timings → Row (replicate 10 2 ++ (3 ∷ 3 ∷ [])) wide timings → OneSubElement 0x1C (id ∷ narrow) narrower → OneSubElement 0x1C (id ∷ wide) wider →
    OneElement 1 (one ++ (narrower ++ two)) group → OneElement 1 (one ++ (wider ++ two)) other → SubElements one in_one → SubElements two in_two → PayloadElements rest found →
    length (before ++ (group ++ rest)) ≤ 125 → length (before ++ (other ++ rest)) ≤ 125 →
    (Accepts (before ++ (group ++ rest)) beacon → Accepts (before ++ (other ++ rest)) beacon) × (Accepts (before ++ (other ++ rest)) beacon → Accepts (before ++ (group ++ rest)) beacon)
