-- Reading: the checks in their order, and the record (docs/RULES.md, The order of checks). Assumes nothing.
use Rattle.std.specs.Prelude.{ℕ, ◌+◌, ◌≤◌, ◌≡◌, List, Result, Ok, Err}
use Rattle.octets_spec.specs.Choice.{if_eq, if_ne}
use Rattle.refusal.specs.Refusal.{done, missing_or_twice, number_of, number_in}
use Rattle.refusal.specs.declared.Refusal.{Refusal}
use Rattle.eb_record_spec.specs.Record.{blank_beacon}
use Rattle.eb_record_spec.specs.declared.Beacon.{Beacon}
use Rattle.mac_header_spec.specs.Fields.{mac_header_of}
use Rattle.ie_walk_spec.specs.Walk.{blank_walk, besides, header_list, skipped_over, payload_list}
use Rattle.ie_walk_spec.specs.declared.Walk.{Walk}
use Rattle.ie_walk_spec.specs.declared.HeaderListEnd.{HeaderListEnd}
use Rattle.eb_read_spec.specs.Policy.{mac_header_fault}
use Rattle.eb_read_spec.specs.Decode.{decoded}

-- the number of a frame and what the walk over it noted
pub record Examination : Type 0 where
  pub number : ℕ
  pub walk : Walk

-- the number of a frame and its record, which is the blank one if the number is not 0
pub record ReadAnswer : Type 0 where
  pub number : ℕ
  pub beacon : Beacon

-- what the checks of a frame say of it, and what the walk noted
abbrev pub examination_of : Result (Unit {0}) Refusal → Walk → Examination
examination_of verdict walk = record { number = number_in verdict; walk = walk }

-- what is known of an accepted frame's elements, and nothing of one that is refused
abbrev pub walk_in : Result Walk Refusal → Walk
walk_in (Ok walk) = walk
walk_in (Err refusal) = blank_walk

-- what reading gives: the record, or a refusal with the blank one
abbrev pub answer_of : Result Beacon Refusal → ReadAnswer
answer_of (Ok beacon) = record { number = done; beacon = beacon }
answer_of (Err refusal) = record { number = number_of refusal; beacon = blank_beacon }

-- where the walk begins behind the header list: no element is noted
unfoldable pub walk_start : HeaderListEnd → Walk
walk_start head = besides blank_walk head.fault head.faulty head.skipped

-- a walk with the elements counted that were skipped before it
unfoldable pub skipped_before : ℕ → Walk → Walk
skipped_before count walk = besides walk walk.fault walk.faulty (count + walk.skipped)

-- behind a header list: the payload list, if one follows
unfoldable pub behind_header : List ℕ → HeaderListEnd → ℕ → Walk
behind_header s head end =
    if_ne head.fault done (walk_start head)
    (if_eq head.payload 0 (walk_start head)
    (skipped_before head.skipped (payload_list s head.payload end)))

-- the elements in byte order: the header list, and what follows it
unfoldable pub elements_walk : List ℕ → ℕ → ℕ → Walk
elements_walk s at end = behind_header s (skipped_over (header_list s at end)) end

-- no more elements stand in a header list than bytes before the payload list
abbrev pub CountsBefore : HeaderListEnd → Type 0
CountsBefore head = (head.payload ≡ 0 → ⊥) → head.skipped ≤ head.payload

-- synchronization, timeslot, hopping and slotframe are required
unfoldable pub missing : Walk → ℕ
missing walk =
    if_eq walk.synchronization 0 missing_or_twice
    (if_eq walk.timeslot 0 missing_or_twice
    (if_eq walk.hopping 0 missing_or_twice
    (if_eq walk.slotframe 0 missing_or_twice
    done)))

-- the first fault wins, and missing elements come last
unfoldable pub walk_number : Walk → ℕ
walk_number walk = if_ne walk.fault done walk.fault (missing walk)

-- the number of a frame, and what the walk over its elements noted
unfoldable pub examined : List ℕ → Examination
examined s =
    let header = mac_header_of s in
    let walk = elements_walk s header.elements header.end in
    if_ne (mac_header_fault s) done (record { number = mac_header_fault s; walk = blank_walk })
    (record { number = walk_number walk; walk = walk })

-- what the walk noted of an accepted frame, and nothing of one that is refused
unfoldable pub accepted_walk : List ℕ → Walk
accepted_walk s = if_eq (examined s).number done (examined s).walk blank_walk

-- reading: the number, and the record or, on a refusal, the blank one
unfoldable pub read_frame : List ℕ → ReadAnswer
read_frame s =
    if_ne (examined s).number done (record { number = (examined s).number; beacon = blank_beacon })
    (record { number = done; beacon = decoded s (examined s).walk })
