-- Lists of bytes at which the checker computes what reading gives, so that no theorem about reading is about nothing (docs/RULES.md, A worked
-- acknowledgement). Assumes nothing.
use Rattle.std.specs.Prelude.{ℕ, ◌≡◌, false, List, [], ◌∷◌, ◌++◌, pos, neg_ℤ, take, replicate}
use Rattle.refusal.specs.Refusal.{done, cut}
use Rattle.mac_header_spec.specs.declared.SequenceNumber.TheVariants.{Absent}
use Rattle.mac_header_spec.specs.declared.Address.TheVariants.{Short}
use Rattle.ack_record_spec.specs.declared.Ack.{Ack}
use Rattle.ack_record_spec.specs.Record.{blank_ack}
use Rattle.ack_read_spec.specs.Read.{correction_of, read_ack}

-- a frame of 12 bytes (docs/RULES.md, A worked acknowledgement)
abbrev pub shortest : List ℕ
shortest = 0x42 ∷ 0xAB ∷ 0x34 ∷ 0x12 ∷ 0x07 ∷ 0x00 ∷ 0x01 ∷ 0x00 ∷ 0x02 ∷ 0x0F ∷ 0xF6 ∷ 0x0F ∷ []

-- its record
abbrev pub shortest_record : Ack
shortest_record = record { sequence = Absent; pan = 0x1234; destination = Short 7; source = Short 1; correction = neg_ℤ (pos 10); nack = false }

-- the 12 bytes are read, and one byte less is a cut element
abbrev pub ShortestIsRead : Type 0
ShortestIsRead = (read_ack shortest ≡ record { number = done; ack = shortest_record }) × (read_ack (take 11 shortest) ≡ record { number = cut; ack = blank_ack })

-- each number from 0 to 7 is given: the frame of 12 bytes, one of 126 bytes, one byte, a beacon, a secured one, one with another compression, one
-- with a correction of one byte, and one without a correction
abbrev pub EachNumberIsGiven : Type 0
EachNumberIsGiven =
    ((read_ack shortest).number ≡ 0)
    × ((read_ack (replicate 126 0)).number ≡ 1)
    × ((read_ack (0x42 ∷ [])).number ≡ 2)
    × ((read_ack (0x40 ∷ 0xAB ∷ [])).number ≡ 3)
    × ((read_ack (0x4A ∷ 0xAB ∷ [])).number ≡ 4)
    × ((read_ack (0x02 ∷ 0xAB ∷ [])).number ≡ 5)
    × ((read_ack (take 8 shortest ++ (0x01 ∷ 0x0F ∷ 0x00 ∷ []))).number ≡ 6)
    × ((read_ack (take 8 shortest)).number ≡ 7)

-- the corrections at the ends of their range, and that bits 12 to 15 are none of them
abbrev pub CorrectionsAreSigned : Type 0
CorrectionsAreSigned = (correction_of 0x07FF ≡ pos 2047) × (correction_of 0x0800 ≡ neg_ℤ (pos 2048)) × (correction_of 0x0FFF ≡ neg_ℤ (pos 1)) × (correction_of 0xF001 ≡ pos 1)
