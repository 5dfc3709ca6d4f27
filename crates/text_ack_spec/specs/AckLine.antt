-- The line of text that the reading of an acknowledgement is printed as, as bytes in ASCII (docs/RULES.md, The printed line of an
-- acknowledgement). Assumes nothing.
use Rattle.std.specs.Prelude.{ℕ, suc, Bool, List, [], ◌∷◌, ◌++◌, ℤ, pos, negsuc}
use Rattle.octets_spec.specs.Choice.{if_on, if_eq}
use Rattle.refusal.specs.Refusal.{done}
use Rattle.mac_header_spec.specs.declared.Address.{Address}
use Rattle.mac_header_spec.specs.declared.Address.TheVariants.{Short, Extended}
use Rattle.mac_header_spec.specs.declared.SequenceNumber.{SequenceNumber}
use Rattle.mac_header_spec.specs.declared.SequenceNumber.TheVariants.{Absent, Number}
use Rattle.ack_record_spec.specs.declared.Ack.{Ack}
use Rattle.ack_read_spec.specs.Read.{AckAnswer}
use Rattle.ack_read_spec.specs.Read.{read_ack}
use Rattle.text_put_spec.specs.Text.{decimal}
use Rattle.text_put_spec.specs.Part.{absent_name, newline, field, refused_text, line_in}

-- `seq `
abbrev pub sequence_name : List ℕ
sequence_name = 115 ∷ 101 ∷ 113 ∷ 32 ∷ []

-- ` pan `
abbrev pub pan_name : List ℕ
pan_name = 32 ∷ 112 ∷ 97 ∷ 110 ∷ 32 ∷ []

-- ` destination `
abbrev pub destination_name : List ℕ
destination_name = 32 ∷ 100 ∷ 101 ∷ 115 ∷ 116 ∷ 105 ∷ 110 ∷ 97 ∷ 116 ∷ 105 ∷ 111 ∷ 110 ∷ 32 ∷ []

-- ` source `
abbrev pub source_name : List ℕ
source_name = 32 ∷ 115 ∷ 111 ∷ 117 ∷ 114 ∷ 99 ∷ 101 ∷ 32 ∷ []

-- `short `
abbrev pub short_name : List ℕ
short_name = 115 ∷ 104 ∷ 111 ∷ 114 ∷ 116 ∷ 32 ∷ []

-- `extended `
abbrev pub extended_name : List ℕ
extended_name = 101 ∷ 120 ∷ 116 ∷ 101 ∷ 110 ∷ 100 ∷ 101 ∷ 100 ∷ 32 ∷ []

-- ` correction `
abbrev pub correction_name : List ℕ
correction_name = 32 ∷ 99 ∷ 111 ∷ 114 ∷ 114 ∷ 101 ∷ 99 ∷ 116 ∷ 105 ∷ 111 ∷ 110 ∷ 32 ∷ []

-- `-`
abbrev pub minus : List ℕ
minus = 45 ∷ []

-- ` acknowledged `
abbrev pub acknowledged_name : List ℕ
acknowledged_name = 32 ∷ 97 ∷ 99 ∷ 107 ∷ 110 ∷ 111 ∷ 119 ∷ 108 ∷ 101 ∷ 100 ∷ 103 ∷ 101 ∷ 100 ∷ 32 ∷ []

-- `yes`
abbrev pub yes : List ℕ
yes = 121 ∷ 101 ∷ 115 ∷ []

-- `no`
abbrev pub no : List ℕ
no = 110 ∷ 111 ∷ []

-- a signed number in decimal: a minus in front of a negative one
unfoldable pub signed : ℤ → List ℕ
signed (pos number) = decimal number
signed (negsuc less) = minus ++ decimal (suc less)

-- `seq 7`, or `seq absent`
unfoldable pub sequence_text : SequenceNumber → List ℕ
sequence_text Absent = sequence_name ++ absent_name
sequence_text (Number number) = field sequence_name number

-- `short 7`, or `extended 7`
unfoldable pub kind_text : Address → List ℕ
kind_text (Short number) = field short_name number
kind_text (Extended number) = field extended_name number

-- an address behind its name
unfoldable pub address_text : List ℕ → Address → List ℕ
address_text name address = name ++ kind_text address

-- ` pan `, ` destination ` and ` source `
unfoldable pub addresses_text : ℕ → Address → Address → List ℕ
addresses_text pan destination source = field pan_name pan ++ (address_text destination_name destination ++ address_text source_name source)

-- ` correction `
unfoldable pub correction_text : ℤ → List ℕ
correction_text correction = correction_name ++ signed correction

-- ` acknowledged yes`, or ` acknowledged no`, which ends the line
unfoldable pub acknowledged_text : Bool → List ℕ
acknowledged_text nack = acknowledged_name ++ (if_on nack no yes ++ newline)

-- what an accepted frame says: `seq absent pan 4660 destination short 7 source short 1 correction -10 acknowledged yes`
unfoldable pub ack_text : Ack → List ℕ
ack_text ack = sequence_text ack.sequence ++ (addresses_text ack.pan ack.destination ack.source ++ (correction_text ack.correction ++ acknowledged_text ack.nack))

-- the line of a reading, with its newline
unfoldable pub ack_line_of : AckAnswer → List ℕ
ack_line_of answer = if_eq answer.number done (ack_text answer.ack) (refused_text answer.number)

-- the least buffer that gets a line
abbrev pub ack_room : ℕ
ack_room = 192

-- what a frame puts into a buffer of some length: its line, and nothing into a buffer of under 192 bytes
abbrev pub ack_line_for : ℕ → List ℕ → List ℕ
ack_line_for room frame = line_in ack_room room (ack_line_of (read_ack frame))
