-- The walk over the elements in byte order: the first fault wins, and what stood before it is noted (docs/RULES.md, The order of
-- checks). The bound, the first argument of each list, only has to be large enough. Assumes nothing.
use Rattle.std.specs.Prelude.{ℕ, zero, suc, ◌+◌, ◌-◌, ◌*◌, ◌<◌, ◌≤◌, ◌≡◌, List, [], ◌∷◌, length}
use Rattle.octets_spec.specs.Choice.{if_eq}
use Rattle.refusal.specs.Refusal.{done, number_of}
use Rattle.ie_verdict_spec.specs.Verdict.{part_fault, synchronization_kind, timeslot_kind, hopping_kind, slotframe_kind, joining_kind}
use Rattle.ie_verdict_spec.specs.declared.Seen.{Seen}
use Rattle.ie_step_spec.specs.Header.{header_at}
use Rattle.ie_step_spec.specs.Payload.{outer_at, inner_at}
use Rattle.ie_step_spec.specs.declared.HeaderStep.TheVariants as header
use Rattle.ie_step_spec.specs.declared.OuterStep.TheVariants as outer
use Rattle.ie_step_spec.specs.declared.InnerStep.TheVariants as inner
use Rattle.ie_walk_spec.specs.declared.Walk.{Walk}
use Rattle.ie_walk_spec.specs.declared.HeaderListEnd.{HeaderListEnd}
use Rattle.ie_walk_spec.specs.declared.GroupEnd.{GroupEnd}
use Rattle.ie_walk_spec.specs.declared.GroupEnd.TheVariants as end_of_lem

-- nothing was noted
unfoldable pub blank_walk : Walk
blank_walk = record {
  fault = done;
  faulty = 0;
  skipped = 0;
  synchronization = 0;
  timeslot = 0;
  timeslotend = 0;
  hopping = 0;
  slotframe = 0;
  joining = 0;
  joiningend = 0;
}

-- which known elements were taken before
unfoldable pub seen_of : Walk → Seen
seen_of walk = record { synchronization = walk.synchronization; timeslot = walk.timeslot; hopping = walk.hopping; slotframe = walk.slotframe; joining = walk.joining }

-- a walk with another fault, another offset of it and another count; what it noted stays
abbrev pub besides : Walk → ℕ → ℕ → ℕ → Walk
besides walk fault faulty skipped = record {
  fault = fault;
  faulty = faulty;
  skipped = skipped;
  synchronization = walk.synchronization;
  timeslot = walk.timeslot;
  timeslotend = walk.timeslotend;
  hopping = walk.hopping;
  slotframe = walk.slotframe;
  joining = walk.joining;
  joiningend = walk.joiningend;
}

-- an element that is skipped is counted
unfoldable pub skip_one : Walk → Walk
skip_one walk = besides walk walk.fault walk.faulty (walk.skipped + 1)

-- an element without a fault is noted where it lies; one of an unknown kind is skipped
unfoldable pub taken : Walk → ℕ → ℕ → ℕ → Walk
taken walk kind from to = record {
  fault = walk.fault;
  faulty = walk.faulty;
  skipped =
      if_eq kind synchronization_kind walk.skipped
      (if_eq kind timeslot_kind walk.skipped
      (if_eq kind hopping_kind walk.skipped
      (if_eq kind slotframe_kind walk.skipped
      (if_eq kind joining_kind walk.skipped
      (walk.skipped + 1)))));
  synchronization = if_eq kind synchronization_kind from walk.synchronization;
  timeslot = if_eq kind timeslot_kind from walk.timeslot;
  timeslotend = if_eq kind timeslot_kind to walk.timeslotend;
  hopping = if_eq kind hopping_kind from walk.hopping;
  slotframe = if_eq kind slotframe_kind from walk.slotframe;
  joining = if_eq kind joining_kind from walk.joining;
  joiningend = if_eq kind joining_kind to walk.joiningend;
}

-- the walk stops at a fault, whose element starts at `at`
unfoldable pub stopped : Walk → ℕ → ℕ → Walk
stopped walk fault at = besides walk fault at walk.skipped

-- an element of some kind: noted if it has no fault, and else the walk stops there
unfoldable pub part_taken : List ℕ → Walk → ℕ → ℕ → ℕ → ℕ → Walk
part_taken s walk kind from to at =
    let fault : ℕ = part_fault s kind from to (seen_of walk) in
    if_eq fault done (taken walk kind from to) (stopped walk fault at)

-- an element of the header list: its ID, and from where to where its content goes
pub record HeaderElement : Type 0 where
  pub id : ℕ
  pub from : ℕ
  pub to : ℕ

-- a header list: its elements in byte order, and how it ends: with a fault at an offset, or where the payload list begins, 0 if none follows
pub record HeaderList : Type 0 where
  pub elements : List HeaderElement
  pub fault : ℕ
  pub faulty : ℕ
  pub payload : ℕ

-- a list with one element more in front
unfoldable pub in_front : HeaderElement → HeaderList → HeaderList
in_front element list = record { elements = element ∷ list.elements; fault = list.fault; faulty = list.faulty; payload = list.payload }

-- elements follow each other until payload elements follow, or nothing does, or there is a fault
unfoldable pub header_go : ℕ → List ℕ → ℕ → ℕ → HeaderList
header_go zero s at end = record { elements = []; fault = done; faulty = 0; payload = 0 }
header_go (suc bound) s at end =
    elim (header_at s at end) [
      | header.End ↦ record { elements = []; fault = done; faulty = 0; payload = 0 }
      | header.Payload from ↦ record { elements = []; fault = done; faulty = 0; payload = from }
      | header.Element id from to ↦ in_front (record { id = id; from = from; to = to }) (header_go bound s to end)
      | header.Fault refusal ↦ record { elements = []; fault = number_of refusal; faulty = at; payload = 0 }
    ]

-- the header list from an offset to an end
unfoldable pub header_list : List ℕ → ℕ → ℕ → HeaderList
header_list s at end = header_go (suc end) s at end

-- a beacon's reader skips every element of it, and keeps their count
unfoldable pub skipped_over : HeaderList → HeaderListEnd
skipped_over list = record { fault = list.fault; faulty = list.faulty; skipped = length list.elements; payload = list.payload }

-- from the outer list into a group, and back to the outer list at the group's end
unfoldable mutual
  -- the payload list from an offset on
  pub outer_go : ℕ → List ℕ → ℕ → ℕ → Walk → Walk
  outer_go zero s at end walk = walk
  outer_go (suc bound) s at end walk =
      elim (outer_at s at end) [
        | outer.End ↦ walk
        | outer.Group from to ↦ group_go bound s from to end walk
        | outer.Joining from to ↦ let taken : Walk = part_taken s walk joining_kind from to at in if_eq taken.fault done (outer_go bound s to end taken) taken
        | outer.Skip to ↦ outer_go bound s to end (skip_one walk)
        | outer.Fault refusal ↦ stopped walk (number_of refusal) at
      ]

  -- a group from an offset of it to its end, and behind it the payload list
  pub group_go : ℕ → List ℕ → ℕ → ℕ → ℕ → Walk → Walk
  group_go zero s at to end walk = walk
  group_go (suc bound) s at to end walk =
      elim (inner_at s at to) [
        | inner.Back ↦ outer_go bound s to end walk
        | inner.Part kind from next ↦ let taken : Walk = part_taken s walk kind from next at in if_eq taken.fault done (group_go bound s next to end taken) taken
        | inner.Fault refusal ↦ stopped walk (number_of refusal) at
      ]

-- what the payload list gives, whatever the bound is, if it is large enough
unfoldable pub OuterIs : List ℕ → ℕ → ℕ → Walk → Walk → Type 0
OuterIs s at end walk result = (bound : ℕ) → 2 * (end - at) < bound → result ≡ outer_go bound s at end walk

-- the same of a group
unfoldable pub GroupIs : List ℕ → ℕ → ℕ → ℕ → Walk → Walk → Type 0
GroupIs s at to end walk result = (bound : ℕ) → 2 * (end - at) + 1 < bound → result ≡ group_go bound s at to end walk

-- how the code goes: the reader of a group has what the whole gives, or it has passed the group, and what the list behind gives from
-- there, the whole gives
unfoldable pub GroupGives : List ℕ → ℕ → ℕ → ℕ → Walk → GroupEnd → Type 0
GroupGives s at to end walk (end_of_lem.Whole result) = GroupIs s at to end walk result
GroupGives s at to end walk (end_of_lem.Passed noted) = (noted.skipped ≤ to) × ((result : Walk) → OuterIs s to end noted result → GroupIs s at to end walk result)

-- the payload list from an offset to an end
unfoldable pub payload_list : List ℕ → ℕ → ℕ → Walk
payload_list s at end = outer_go (suc (2 * end)) s at end blank_walk
