-- Reading an acknowledgement: the correction among the header elements, the checks in their order, and the record (docs/RULES.md,
-- Acknowledgements). The header list is that of a beacon. Assumes nothing.
use Rattle.std.specs.Prelude.{ℕ, ◌-◌, ◌/◌, ◌%◌, ◌^◌, ◌≡◌, Bool, List, [], ◌∷◌, eqb, ℤ, pos, ◌-ℤ◌, Option, Some, None, Result, Ok, Err}
use Rattle.octets_spec.specs.Choice.{if_lt, if_eq, if_ne}
use Rattle.octets_spec.specs.Number.{le_at}
use Rattle.refusal.specs.Refusal.{done, shape, missing_or_twice, number_of}
use Rattle.refusal.specs.declared.Refusal.{Refusal}
use Rattle.mac_header_spec.specs.Fields.{mac_header_of, sequence_of, address_of}
use Rattle.mac_header_spec.specs.declared.MacHeader.{MacHeader}
use Rattle.ie_walk_spec.specs.Walk.{HeaderElement, HeaderList, header_list}
use Rattle.ack_record_spec.specs.declared.Ack.{Ack}
use Rattle.ack_record_spec.specs.declared.AckForm.{AckForm}
use Rattle.ack_record_spec.specs.Record.{correction_id, blank_ack, form_of}
use Rattle.ack_read_spec.specs.Policy.{mac_header_fault}
use Rattle.ack_read_spec.specs.declared.AckReading.{AckReading}

-- what the header list gives: the number of its first fault, and where the content of the correction starts, 0 for none
pub record Found : Type 0 where
  pub number : ℕ
  pub at : ℕ

-- the number of a frame and its record, which is the blank one if the number is not 0
pub record AckAnswer : Type 0 where
  pub number : ℕ
  pub ack : Ack

-- ---- the header list
-- an element, where the content of a correction before it starts at `at`, 0 for none: a correction has 2 bytes (6), and is there once (7)
unfoldable pub element_fault : HeaderElement → ℕ → ℕ
element_fault element at =
    if_ne element.id correction_id done
    (if_ne (element.to - element.from) 2 shape
    (if_ne at 0 missing_or_twice
    done))

-- where the content of a correction starts behind an element
unfoldable pub behind_element : HeaderElement → ℕ → ℕ
behind_element element at = if_eq element.id correction_id element.from at

-- the elements in byte order, and the fault that ends the list: the first fault wins, and a missing correction comes last
unfoldable pub found_among : List HeaderElement → ℕ → ℕ → Found
found_among [] fault at = record { number = if_ne fault done fault (if_eq at 0 missing_or_twice done); at = at }
found_among (element ∷ elements) fault at =
    if_ne (element_fault element at) done (record { number = element_fault element at; at = at })
    (found_among elements fault (behind_element element at))

-- what a header list gives, behind elements of which a correction starts at `at`, 0 for none
unfoldable pub found_in : HeaderList → ℕ → Found
found_in list at = found_among list.elements list.fault at

-- where the content of a correction starts, where there is one; 0 for none
abbrev pub place_of : Option ℕ → ℕ
place_of None = 0
place_of (Some at) = at

-- an answer says what was found: where the content of the correction starts, or the number of the first fault
abbrev pub Says : Result ℕ Refusal → Found → Type 0
Says (Ok at) found = found ≡ record { number = done; at = at }
Says (Err refusal) found = found.number ≡ number_of refusal

-- ---- the record
-- bits 0 to 11 as a number in two's complement: from 2048 on it is that number less 4096
unfoldable pub correction_of : ℕ → ℤ
correction_of word = if_lt (word % 2 ^ 12) (2 ^ 11) (pos (word % 2 ^ 12)) (pos (word % 2 ^ 12) -ℤ pos (2 ^ 12))

-- bit 15: not acknowledged
unfoldable pub nack_of : ℕ → Bool
nack_of word = eqb (word / 2 ^ 15 % 2) 1

-- the record of a MAC header and the two bytes of a correction
unfoldable pub ack_from : MacHeader → ℕ → Ack
ack_from header word = record {
  sequence = sequence_of header;
  pan = header.pan;
  destination = address_of header.control.destination header.destination;
  source = address_of header.control.source header.source;
  correction = correction_of word;
  nack = nack_of word;
}

-- what the header list of a frame gives
unfoldable pub found_of : List ℕ → Found
found_of s = found_in (header_list s (mac_header_of s).elements (mac_header_of s).end) 0

-- the number of a frame: the checks before the elements, then the elements
unfoldable pub ack_number : List ℕ → ℕ
ack_number s = if_ne (mac_header_fault s) done (mac_header_fault s) (found_of s).number

-- reading: the number, and the record or, on a refusal, the blank one
unfoldable pub read_ack : List ℕ → AckAnswer
read_ack s =
    if_ne (ack_number s) done (record { number = ack_number s; ack = blank_ack })
    (record { number = done; ack = ack_from (mac_header_of s) (le_at 2 s (found_of s).at) })

-- an answer without enums: its number, and the form of its record
unfoldable pub form_reading : AckAnswer → AckReading
form_reading answer = record { number = answer.number; ack = form_of answer.ack }

-- ---- what a call answers
-- a record is read, or the frame is refused, with the blank record
abbrev pub answer_of : Result Ack Refusal → AckAnswer
answer_of (Ok ack) = record { number = done; ack = ack }
answer_of (Err refusal) = record { number = number_of refusal; ack = blank_ack }

-- the same of its form
abbrev pub reading_of : Result AckForm Refusal → AckReading
reading_of (Ok form) = record { number = done; ack = form }
reading_of (Err refusal) = record { number = number_of refusal; ack = form_of blank_ack }
