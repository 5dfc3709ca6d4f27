-- How the code goes through the list: once, from the last link to the first, so that the link met last is the first one listed
-- (docs/RULES.md, Slot and channel). That this gives the decision of specs/Slot.antt is proved in proofs/Scanned.antt. Assumes
-- nothing.
use Rattle.std.specs.Prelude.{ℕ, suc, ◌%◌, true, ◌&&◌, List, [], ◌∷◌, Some, None, Result, Ok, Err, ltb}
use Rattle.octets_spec.specs.Choice.{if_on}
use Rattle.refusal.specs.declared.Refusal.{Refusal}
use Rattle.refusal.specs.declared.Refusal.TheVariants.{OutOfLimits}
use Rattle.eb_record_spec.specs.declared.Link.{Link}
use Rattle.slot_spec.specs.Slot.{slot_offset, is_active, option_bit, limits, active_link, action}
use Rattle.slot_spec.specs.declared.ActiveLink.{ActiveLink}
use Rattle.slot_spec.specs.declared.Scan.{Scan}
use Rattle.slot_spec.specs.declared.SlotQuery.{SlotQuery}
use Rattle.slot_spec.specs.declared.Action.{Action}

-- the link at this index, as a search finds it; an index is kept in 8 bits, which are enough for the 16 links that a schedule may have
abbrev pub met : Link → ℕ → ActiveLink
met link index = active_link (index % 256) link.channel_offset

-- what is known of no links
unfoldable pub begun : SlotQuery → Scan
begun query = record { size = query.size; slot = slot_offset query; below = true; transmit = None; receive = None }

-- what is known with one link more in front, which stands at this index: where it serves, it takes the place of what was found behind it
unfoldable pub stepped : Scan → Link → ℕ → Scan
stepped seen link index = record {
  size = seen.size;
  slot = seen.slot;
  below = ltb link.timeslot seen.size && seen.below;
  transmit = if_on (is_active seen.slot link && option_bit 0 link) (Some (met link index)) seen.transmit;
  receive = if_on (is_active seen.slot link && option_bit 1 link) (Some (met link index)) seen.receive;
}

-- what is known of a list whose indices count from `index`, where `start` is known of no links
unfoldable pub scanned : Scan → ℕ → List Link → Scan
scanned start index [] = start
scanned start index (link ∷ links) = stepped (scanned start (suc index) links) link index

-- the decision from what is known after a list of so many links
unfoldable pub concluded : SlotQuery → ℕ → Scan → Result Action Refusal
concluded query count seen = if_on (limits query count seen.below) (Ok (action query seen.transmit seen.receive)) (Err OutOfLimits)
