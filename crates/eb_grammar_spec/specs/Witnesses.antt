-- Frames of the grammar, so that no theorem about it is about nothing (docs/RULES.md, A worked frame). Assumes nothing.
use Rattle.std.specs.Prelude.{ℕ, false, true, List, [], ◌∷◌, ◌++◌, take, drop, replicate}
use Rattle.eb_record_spec.specs.Record.{blank_link}
use Rattle.mac_header_spec.specs.declared.SequenceNumber.TheVariants.{Number}
use Rattle.mac_header_spec.specs.declared.Address.TheVariants.{Extended}
use Rattle.eb_record_spec.specs.declared.Beacon.{Beacon}
use Rattle.eb_read_spec.specs.Witnesses.{shortest, shortest_record}
use Rattle.eb_grammar_spec.specs.Grammar.{Accepts}

-- the frame of 38 bytes is of the grammar, and without its last byte it says nothing
abbrev pub ShortestIsOfTheGrammar : Type 0
ShortestIsOfTheGrammar = Accepts shortest shortest_record × ((beacon : Beacon) → Accepts (take 37 shortest) beacon → ⊥)

-- so is that frame with an unknown element of group 3 before its MLME group, and it says the same
abbrev pub AnUnknownElementIsPutIn : Type 0
AnUnknownElementIsPutIn = Accepts (take 10 shortest ++ ((0x01 ∷ 0x98 ∷ 0xBB ∷ []) ++ drop 10 shortest)) shortest_record

-- a frame of 89 bytes: all ignored bits set, a sequence number, an extended source, a header element that is skipped; an MLME group with the
-- slotframe and an unknown sub-element, an unknown group, joining information with an address and a network ID, an IETF element of another
-- subtype, an MLME group with the other elements and an unknown one between; group 15, and two bytes behind it
abbrev pub manifold : List ℕ
manifold =
    0xF0 ∷ 0xEA ∷ 0x2A ∷ 0x34 ∷ 0x12 ∷ 0xFF ∷ 0xFF ∷ 0x77 ∷ 0x66 ∷ 0x55 ∷ 0x44 ∷ 0x33 ∷ 0x22 ∷ 0x11 ∷ 0x00
    ∷ 0x01 ∷ 0x11 ∷ 0xAA ∷ 0x00 ∷ 0x3F
    ∷ 0x14 ∷ 0x88 ∷ 0x0F ∷ 0x1B ∷ 0x01 ∷ 0x03 ∷ 0x0B ∷ 0x00 ∷ 0x02 ∷ 0x00 ∷ 0x00 ∷ 0x00 ∷ 0x00 ∷ 0x0F ∷ 0x0A ∷ 0x00 ∷ 0x01 ∷ 0x00 ∷ 0x01 ∷ 0x01 ∷ 0x44 ∷ 0x55
    ∷ 0x01 ∷ 0x98 ∷ 0xBB
    ∷ 0x10 ∷ 0xA8 ∷ 0x02 ∷ 0xF8 ∷ 0x51 ∷ 0x23 ∷ 0x42 ∷ 0x01 ∷ 0x02 ∷ 0x03 ∷ 0x04 ∷ 0x05 ∷ 0x06 ∷ 0x07 ∷ 0x08 ∷ 0x6E ∷ 0x65 ∷ 0x74
    ∷ 0x02 ∷ 0xA8 ∷ 0x01 ∷ 0xCC
    ∷ 0x10 ∷ 0x88 ∷ 0x01 ∷ 0xC8 ∷ 0x00 ∷ 0x01 ∷ 0x1C ∷ 0x00 ∷ 0x00 ∷ 0x98 ∷ 0x06 ∷ 0x1A ∷ 0x00 ∷ 0x01 ∷ 0x00 ∷ 0x00 ∷ 0x00 ∷ 0x02
    ∷ 0x00 ∷ 0xF8 ∷ 0xDE ∷ 0xAD ∷ []

-- its record
abbrev pub manifold_record : Beacon
manifold_record = record {
  sequence = Number 0x2A;
  pan = 0x1234;
  source = Extended 0x0011223344556677;
  synchronization = record { asn = 256; metric = 2 };
  timeslot = record { id = 0; timed = false; timings = replicate 12 0 };
  hopping = 0;
  slotframe = record { handle = 3; size = 11; count = 2; links = record { timeslot = 0; channel_offset = 0; options = 15 } ∷ record { timeslot = 10; channel_offset = 1; options = 1 } ∷ replicate 14 blank_link };
  joining = record { present = true; router = true; proxied = true; proxy = 5; rank = 0x123; pan = 0x42; address = 0x0102030405060708; length = 3; network = 0x6E ∷ 0x65 ∷ 0x74 ∷ replicate 13 0 };
}

-- that frame is of the grammar, and says that record
abbrev pub ManifoldIsOfTheGrammar : Type 0
ManifoldIsOfTheGrammar = Accepts manifold manifold_record
