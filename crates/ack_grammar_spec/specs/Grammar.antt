-- The acknowledgements that are accepted, as a grammar: what stands behind what, by concatenation. It has no offsets, no bounds, no order of
-- checks and no refusals; `Accepts`, at the end, is a frame and the record that it says (docs/RULES.md, Acknowledgements). Assumes nothing.
use Rattle.std.specs.Prelude.{ℕ, ◌*◌, ◌^◌, ◌≤◌, ◌≡◌, Bool, List, [], ◌∷◌, ◌++◌, eqb, ℤ, pos, ◌-ℤ◌, length}
use Rattle.mac_header_spec.specs.declared.SequenceNumber.{SequenceNumber}
use Rattle.mac_header_spec.specs.declared.Address.{Address}
use Rattle.eb_grammar_spec.specs.Row.{le, bits}
use Rattle.eb_grammar_spec.specs.Grammar.{SequenceBytes, AddressBytes, Descriptor, HeaderElements, header_end, header_element, Element, Once}
use Rattle.ack_record_spec.specs.declared.Ack.{Ack}

-- ---- frame control and the fixed fields
-- PAN ID compression, by the modes of destination and source
pub data Compression : ℕ → ℕ → ℕ → Type 0 where
  -- both extended: 0
  both_extended : Compression 3 3 0
  -- destination short: 1
  destination_short : (source : ℕ) → Compression 2 source 1
  -- source short: 1
  source_short : (destination : ℕ) → Compression destination 2 1

-- frame control, bits 0 to 15: type (3 bits), security, pending, acknowledge request, PAN ID compression, reserved, sequence suppressed,
-- elements present, destination mode (2), version (2), source mode (2). Pending, acknowledge request and the reserved bit are ignored
pub record FrameControl (word suppressed far near : ℕ) : Type 0 where
  pub type : bits 0 3 word ≡ 2
  pub security : bits 3 1 word ≡ 0
  pub compression : Compression far near (bits 6 1 word)
  pub suppression : bits 8 1 word ≡ suppressed
  pub elements : bits 9 1 word ≡ 1
  pub destination : bits 10 2 word ≡ far
  pub version : bits 12 2 word ≡ 2
  pub source : bits 14 2 word ≡ near

-- what stands before the elements, and the sequence number, PAN, destination and source that it says
pub data FixedFields : List ℕ → SequenceNumber → ℕ → Address → Address → Type 0 where
  -- frame control (2), sequence number, destination PAN (2), destination, source
  fixed_fields : (low high pan_low pan_high : ℕ) {suppression far near : ℕ} {sequence destination source : List ℕ} {number : SequenceNumber} {to from : Address}
      → FrameControl (le (low ∷ high ∷ [])) suppression far near → SequenceBytes suppression sequence number → AddressBytes far destination to → AddressBytes near source from
      → FixedFields (low ∷ high ∷ (sequence ++ (pan_low ∷ pan_high ∷ (destination ++ source)))) number (le (pan_low ∷ pan_high ∷ [])) to from

-- ---- the header list
-- the elements of a list, which a beacon's grammar skips
unfoldable pub elements_of : {bytes : List ℕ} → HeaderElements bytes → List Element
elements_of header_end = []
elements_of (header_element low high id content describes not_126 not_127 rest) = record { kind = id; content = content } ∷ elements_of rest

-- what ends it
pub data ListEnd : List ℕ → Type 0 where
  -- the end of the bytes
  bytes_end : ListEnd []
  -- ID 0x7E without a length: later bytes are ignored, payload elements too
  termination_1 : (low high : ℕ) (ignored : List ℕ) → Descriptor 7 low high 0 0x7E 0 → ListEnd (low ∷ high ∷ ignored)
  -- ID 0x7F without a length: later bytes are ignored
  termination_2 : (low high : ℕ) (ignored : List ℕ) → Descriptor 7 low high 0 0x7F 0 → ListEnd (low ∷ high ∷ ignored)

-- bits 0 to 11 of a word in two's complement: bit 11 counts for -2048
abbrev pub signed : ℕ → ℤ
signed word = pos (bits 0 11 word) -ℤ pos (2 ^ 11 * bits 11 1 word)

-- the content of a correction: 2 bytes, of which bits 0 to 11 are the correction, 12 to 14 are ignored, and 15 is set where the frame was
-- not acknowledged
pub data CorrectionContent : List ℕ → ℤ → Bool → Type 0 where
  correction : (low high : ℕ) → CorrectionContent (low ∷ high ∷ []) (signed (le (low ∷ high ∷ []))) (eqb (bits 15 1 (le (low ∷ high ∷ []))) 1)

-- ---- the frame
-- a frame that is accepted, and what it says: at most 125 bytes; fixed fields, header elements, the list's end; ID 0x1E exactly once
pub record Accepts (frame : List ℕ) (ack : Ack) : Type 0 where
  pub fields : List ℕ
  pub header : List ℕ
  pub rest : List ℕ
  pub at_most_125 : length frame ≤ 125
  pub stands : frame ≡ fields ++ (header ++ rest)
  pub opens : FixedFields fields ack.sequence ack.pan ack.destination ack.source
  pub lists : HeaderElements header
  pub ends : ListEnd rest
  pub says : Once 0x1E (elements_of lists) (λ content. CorrectionContent content ack.correction ack.nack)
