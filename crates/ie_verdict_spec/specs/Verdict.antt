-- Whether a known element is as it should be, each rule in the order of its sentence (docs/RULES.md, Elements). The order within one
-- element: its shape (6), seen twice (7), its limits (8). Assumes nothing.
use Rattle.std.specs.Prelude.{ℕ, zero, suc, ◌+◌, ◌-◌, ◌*◌, ◌/◌, ◌%◌, Bool, true, not, ◌&&◌, List, ltb, eqb, get_or}
use Rattle.octets_spec.specs.Choice.{if_on, if_off, if_lt, if_eq, if_ne}
use Rattle.octets_spec.specs.Number.{le_at}
use Rattle.refusal.specs.Refusal.{done, shape, missing_or_twice, out_of_limits}
use Rattle.ie_verdict_spec.specs.declared.Seen.{Seen}

-- an element of a kind that was taken before is one too many
unfoldable pub once_only : ℕ → ℕ
once_only seen = if_ne seen 0 missing_or_twice done

-- synchronization: length 6
unfoldable pub sync_fault : ℕ → ℕ → ℕ
sync_fault size seen = if_ne size 6 shape (once_only seen)

-- timeslot: length 1, 25 or 27; the ID alone must be 0
unfoldable pub timeslot_fault : ℕ → ℕ → ℕ → ℕ
timeslot_fault size seen id =
    if_on (not (eqb size 1) && (not (eqb size 25) && not (eqb size 27))) shape
    (if_ne seen 0 missing_or_twice
    (if_on (eqb size 1 && not (eqb id 0)) out_of_limits
    done))

-- hopping: length 1; length 0 is 6, longer is 8
unfoldable pub hopping_fault : ℕ → ℕ → ℕ
hopping_fault size seen = if_eq size 0 shape (if_ne seen 0 missing_or_twice (if_lt 1 size out_of_limits done))

-- slotframe and link, what comes before 7: under 5 bytes (6), the slotframe count (8), a length other than 5 + 5 × links (6)
unfoldable pub slotframe_shape : ℕ → ℕ → ℕ → ℕ
slotframe_shape bytes count links = if_lt bytes 5 shape (if_ne count 1 out_of_limits (if_ne bytes (5 + 5 * links) shape done))

-- and what comes after it: size at least 1, 1 to 16 links, each timeslot below the size
unfoldable pub slotframe_limits : ℕ → ℕ → Bool → ℕ
slotframe_limits size links below = if_eq size 0 out_of_limits (if_eq links 0 out_of_limits (if_lt 16 links out_of_limits (if_off below out_of_limits done)))

-- its fault: what comes before 7, then 7 for one too many, then its limits
unfoldable pub slotframe_fault : ℕ → ℕ → ℕ → ℕ → ℕ → Bool → ℕ
slotframe_fault bytes seen count size links below =
    if_ne (slotframe_shape bytes count links) done (slotframe_shape bytes count links)
    (if_ne seen 0 missing_or_twice
    (slotframe_limits size links below))

-- joining information, behind its subtype: four bytes, with P in the first; eight of an address if P; 0 to 16 of a network ID
unfoldable pub joining_fault : ℕ → ℕ → ℕ → ℕ
joining_fault size seen proxied =
    if_lt size 4 shape
    (if_lt size (4 + 8 * proxied) shape
    (if_lt (4 + 8 * proxied + 16) size shape
    (once_only seen)))

-- the timeslots of this many links from an offset on are below a size
unfoldable pub timeslots_fit : List ℕ → ℕ → ℕ → ℕ → Bool
timeslots_fit s at zero size = true
timeslots_fit s at (suc count) size = ltb (le_at 2 s at) size && timeslots_fit s (at + 5) count size

-- a slotframe and link element that starts at `from`: slotframe count, handle, size (2 bytes), number of links, then five bytes a link
unfoldable pub slotframe_fault_at : List ℕ → ℕ → ℕ → ℕ → ℕ
slotframe_fault_at s from bytes seen =
    let links : ℕ = get_or s (from + 4) 0 in
    let size : ℕ = le_at 2 s (from + 2) in
    slotframe_fault bytes seen (get_or s from 0) size links (timeslots_fit s (from + 5) links size)

-- kinds of known elements: the short sub-element synchronization
abbrev pub synchronization_kind : ℕ
synchronization_kind = 0x1A

-- the short sub-element slotframe and link
abbrev pub slotframe_kind : ℕ
slotframe_kind = 0x1B

-- the short sub-element timeslot
abbrev pub timeslot_kind : ℕ
timeslot_kind = 0x1C

-- the long sub-element channel hopping
abbrev pub hopping_kind : ℕ
hopping_kind = 0x80 + 0x9

-- the IETF subtype joining information
abbrev pub joining_kind : ℕ
joining_kind = 0x100 + 2

-- the fault of an element of a kind that lies from an offset to another; P is bit 6 of joining information's first byte
unfoldable pub part_fault : List ℕ → ℕ → ℕ → ℕ → Seen → ℕ
part_fault s kind from to seen =
    let size : ℕ = to - from in
    if_eq kind synchronization_kind (sync_fault size seen.synchronization)
    (if_eq kind timeslot_kind (timeslot_fault size seen.timeslot (get_or s from 0))
    (if_eq kind hopping_kind (hopping_fault size seen.hopping)
    (if_eq kind slotframe_kind (slotframe_fault_at s from size seen.slotframe)
    (if_eq kind joining_kind (joining_fault size seen.joining (get_or s from 0 / 0x40 % 2))
    done))))
