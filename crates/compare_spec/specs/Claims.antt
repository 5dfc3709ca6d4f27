-- What holds of the fields of all records, and of the differences of every two (docs/RULES.md, Comparing two beacons). Assumes nothing.
use Rattle.std.specs.Prelude.{ℕ, ◌<◌, ◌≡◌, true, ◌⊎◌, ◌↔◌, length, get_or}
use mathlib.Core.List.{List, [], ◌∷◌, Mem}
use Rattle.refusal.specs.Refusal.{done}
use Rattle.mac_header_spec.specs.declared.Address.TheVariants.{Short, Extended}
use Rattle.eb_record_spec.specs.declared.Beacon.{Beacon}
use Rattle.eb_read_spec.specs.Read.{ReadAnswer, read_frame}
use Rattle.eb_read_spec.specs.Claims.{Bytes}
use Rattle.eb_read_spec.specs.Witnesses.{shortest_record}
use Rattle.eb_round_trip_spec.specs.ReadBack.{Writable}
use Rattle.eb_fields_spec.specs.Content.{number_content, address_content}
use Rattle.eb_fields_spec.specs.Fields.{fields, field_count, content_at, name_in, name_at}
use Rattle.compare_spec.specs.declared.Difference.{Difference}
use Rattle.compare_spec.specs.Decide.{Differs}
use Rattle.compare_spec.specs.Compare.{differences, blank_difference, compared}

-- reading gives this record, of some bytes
abbrev pub CanBeRead : Beacon → Type 0
CanBeRead beacon = (s : List ℕ) × Bytes s × ((read_frame s).number ≡ done) × ((read_frame s).beacon ≡ beacon)

-- a record that reading can give, or that can be written
abbrev pub ReadOrWritten : Beacon → Type 0
ReadOrWritten beacon = CanBeRead beacon ⊎ Writable beacon

-- two such records have the same list of fields exactly when they are equal
abbrev pub SameFieldsSameRecord : Type 0
SameFieldsSameRecord = (one other : Beacon) → ReadOrWritten one → ReadOrWritten other → (fields one ≡ fields other) ↔ (one ≡ other)

-- two such records have no difference exactly when they are equal
abbrev pub NoDifferenceWhenEqual : Type 0
NoDifferenceWhenEqual = (one other : Beacon) → ReadOrWritten one → ReadOrWritten other → (differences one other ≡ []) ↔ (one ≡ other)

-- every difference of the list is one: its contents are those of the two records at its place, and are not the same
abbrev pub EachDiffers : Type 0
EachDiffers =
    (one other : Beacon) (difference : Difference) → Mem difference (differences one other) →
    (difference.first ≡ content_at one difference.place) × (difference.second ≡ content_at other difference.place) × Differs difference

-- none is left out: where the contents of two records are not the same, the list has that place with both
abbrev pub NoneIsLeftOut : Type 0
NoneIsLeftOut =
    (one other : Beacon) (place : ℕ) → (content_at one place ≡ content_at other place → ⊥) →
    Mem (record { place = place; first = content_at one place; second = content_at other place }) (differences one other)

-- the list is in the order of the fields: the place of an entry is below that of every later one
abbrev pub InOrder : Type 0
InOrder =
    (one other : Beacon) (i j : ℕ) → i < j → j < length (differences one other) →
    (get_or (differences one other) i blank_difference).place < (get_or (differences one other) j blank_difference).place

-- there is a list exactly when both readings are done: a refusal gives no list, which is not the list of none
abbrev pub ListedWhenBothDone : Type 0
ListedWhenBothDone = (one other : ReadAnswer) → ((compared one other).differences.listed ≡ true) ↔ ((one.number ≡ done) × (other.number ≡ done))

-- every record has as many fields, with the same names in the same order
abbrev pub NamesStandInEveryList : Type 0
NamesStandInEveryList = (beacon : Beacon) → (length (fields beacon) ≡ field_count) × ((place : ℕ) → name_in (fields beacon) place ≡ name_at place)

-- the record of the shortest frame with another PAN, and with an extended source of the same number
abbrev pub another : Beacon
another = record {
  sequence = shortest_record.sequence;
  pan = 51966;
  source = Extended 7;
  synchronization = shortest_record.synchronization;
  timeslot = shortest_record.timeslot;
  hopping = shortest_record.hopping;
  slotframe = shortest_record.slotframe;
  joining = shortest_record.joining;
}

-- what is asked of records is met, by one that is read and one that can be written; and these two differ, in the two fields that are not the same
abbrev pub ThereAreSuch : Type 0
ThereAreSuch =
    CanBeRead shortest_record
    × Writable another
    × (differences shortest_record another
    ≡ record { place = 1; first = number_content 4660; second = number_content 51966 }
    ∷ record { place = 2; first = address_content (Short 7); second = address_content (Extended 7) }
    ∷ [])
