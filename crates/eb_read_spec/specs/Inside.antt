-- Where the known elements of an accepted frame lie: inside the frame, each with a length that its kind has (docs/RULES.md, The
-- order of checks). Assumes nothing.
use Rattle.std.specs.Prelude.{ℕ, ◌+◌, ◌-◌, ◌*◌, ◌/◌, ◌%◌, ◌<◌, ◌≤◌, ◌≡◌, Bool, true, false, ◌&&◌, ◌||◌, List, ◌⊎◌, eqb, length, get_or}
use Rattle.octets_spec.specs.Choice.{if_lt, if_eq}
use Rattle.refusal.specs.Refusal.{done}
use Rattle.ie_walk_spec.specs.declared.Walk.{Walk}
use Rattle.eb_read_spec.specs.Read.{examined}

-- ---- as a test
-- this many bytes from an offset on lie inside the frame
unfoldable pub bytes_inside : List ℕ → ℕ → ℕ → Bool
bytes_inside s at size = if_lt (length s) (at + size) false true

-- a timeslot element has 25 bytes, 27 or 1
unfoldable pub is_timeslot_length : ℕ → Bool
is_timeslot_length size = eqb size 25 || (eqb size 27 || eqb size 1)

-- and ends inside the frame
unfoldable pub timeslot_inside : List ℕ → ℕ → ℕ → Bool
timeslot_inside s at to = if_lt (length s) to false (is_timeslot_length (to - at))

-- a slotframe and link element has at most 16 links, and lies inside the frame with all of them
unfoldable pub slotframe_inside : List ℕ → ℕ → Bool
slotframe_inside s at = let links : ℕ = get_or s (at + 4) 0 in if_lt 16 links false (bytes_inside s at (5 + 5 * links))

-- joining information has four bytes, eight of an address if P is 1, and 0 to 16 of a network ID
unfoldable pub is_joining_length : ℕ → ℕ → Bool
is_joining_length size proxied = let least : ℕ = 4 + 8 * proxied in if_lt size least false (if_lt (least + 16) size false true)

-- and ends inside the frame; at offset 0 there is none
unfoldable pub joining_inside : List ℕ → ℕ → ℕ → Bool
joining_inside s at to = if_eq at 0 true (if_lt (length s) to false (is_joining_length (to - at) (get_or s at 0 / 0x40 % 2)))

-- all elements that a walk noted
unfoldable pub lies_inside : List ℕ → Walk → Bool
lies_inside s walk =
    bytes_inside s walk.synchronization 6
    && (timeslot_inside s walk.timeslot walk.timeslotend
    && (bytes_inside s walk.hopping 1
    && (slotframe_inside s walk.slotframe
    && joining_inside s walk.joining walk.joiningend)))

-- an accepted frame's elements lie inside it
abbrev pub AcceptedLiesInside : Type 0
AcceptedLiesInside = (s : List ℕ) → (examined s).number ≡ done → lies_inside s (examined s).walk ≡ true

-- ---- the same as facts, which functions that read without a test ask for
-- a timeslot element has 25 bytes, 27 or 1
abbrev pub TimeslotLength : ℕ → Type 0
TimeslotLength size = (size ≡ 25) ⊎ ((size ≡ 27) ⊎ (size ≡ 1))

-- joining information: four bytes, eight of an address if P, and 0 to 16 of a network ID
pub record JoiningInside (s : List ℕ) (at to : ℕ) : Type 0 where
  pub least : at + (4 + 8 * (get_or s at 0 / 0x40 % 2)) ≤ to
  pub most : to ≤ at + (20 + 8 * (get_or s at 0 / 0x40 % 2))
  pub inside : to ≤ length s

-- the elements that a walk noted
pub record ElementsInside (s : List ℕ) (walk : Walk) : Type 0 where
  pub synchronization : walk.synchronization + 6 ≤ length s
  pub timeslot : TimeslotLength (walk.timeslotend - walk.timeslot)
  pub timeslotend : walk.timeslotend ≤ length s
  pub hopping : walk.hopping < length s
  pub slotframe : walk.slotframe + (5 + 5 * get_or s (walk.slotframe + 4) 0) ≤ length s
  pub few : get_or s (walk.slotframe + 4) 0 ≤ 16
  pub joining : (walk.joining ≡ 0 → ⊥) → JoiningInside s walk.joining walk.joiningend
