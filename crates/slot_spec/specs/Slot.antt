-- The slot decision, sentence by sentence as the rules have it (docs/RULES.md, Slot and channel). Assumes nothing.
use Rattle.std.specs.Prelude.{ℕ, suc, ◌-◌, ◌/◌, ◌%◌, ◌^◌, Bool, true, ◌&&◌, List, [], ◌∷◌, Option, Some, None, Result, Ok, Err, ltb, leb, eqb, length}
use Rattle.octets_spec.specs.Choice.{if_on}
use Rattle.refusal.specs.declared.Refusal.{Refusal}
use Rattle.refusal.specs.declared.Refusal.TheVariants.{OutOfLimits}
use Rattle.remainder.specs.Remainder.{remainder_of}
use Rattle.eb_record_spec.specs.declared.Link.{Link}
use Rattle.slot_spec.specs.Hopping.{channel_of}
use Rattle.slot_spec.specs.declared.ActiveLink.{ActiveLink}
use Rattle.slot_spec.specs.declared.SlotQuery.{SlotQuery}
use Rattle.slot_spec.specs.declared.Action.{Action}
use Rattle.slot_spec.specs.declared.Action.TheVariants.{Sleep, Transmit, Listen}

-- every link's timeslot is below the slotframe's size
unfoldable pub timeslots_below : ℕ → List Link → Bool
timeslots_below size [] = true
timeslots_below size (link ∷ links) = ltb link.timeslot size && timeslots_below size links

-- the limits: size at least 1, 1 to 16 links, every timeslot below the size, sequence ID 0, ASN at most 2^40 - 1
unfoldable pub limits : SlotQuery → ℕ → Bool → Bool
limits query count below = leb 1 query.size && (leb 1 count && (leb count 16 && (below && (eqb query.id 0 && leb query.asn (2 ^ 40 - 1)))))

-- the slot of the slotframe in which an ASN falls: ASN mod size (and 0 at size 0, which the limits exclude)
unfoldable pub slot_offset : SlotQuery → ℕ
slot_offset query = remainder_of query.asn query.size

-- a link is active in the slot that is its timeslot
unfoldable pub is_active : ℕ → Link → Bool
is_active slot link = eqb link.timeslot slot

-- an option bit of a link: 0 transmit, 1 receive, 2 shared, 3 timekeeping
unfoldable pub option_bit : ℕ → Link → Bool
option_bit bit link = eqb (link.options / 2 ^ bit % 2) 1

-- a link that was found: the index at which it stands, and its channel offset
abbrev pub active_link : ℕ → ℕ → ActiveLink
active_link index offset = record { index = index; channel_offset = offset }

-- the first listed link that is active in a slot and has an option bit; indices count from `index`
unfoldable pub first_active : ℕ → ℕ → ℕ → List Link → Option ActiveLink
first_active slot bit index [] = None
first_active slot bit index (link ∷ links) = if_on (is_active slot link && option_bit bit link) (Some (active_link index link.channel_offset)) (first_active slot bit (suc index) links)

-- transmit on the link that was found, or else do the other
unfoldable pub transmit_on : SlotQuery → Option ActiveLink → Action → Action
transmit_on query None other = other
transmit_on query (Some link) other = Transmit link.index (channel_of query.asn link.channel_offset)

-- listen on the link that was found, or else sleep
unfoldable pub listen_on : SlotQuery → Option ActiveLink → Action
listen_on query None = Sleep
listen_on query (Some link) = Listen link.index (channel_of query.asn link.channel_offset)

-- if a frame waits, transmit on the first link for that; else listen on the first link for that; else sleep
unfoldable pub action : SlotQuery → Option ActiveLink → Option ActiveLink → Action
action query transmit receive = if_on query.waits (transmit_on query transmit (listen_on query receive)) (listen_on query receive)

-- the slot decision on a list of links, with a slotframe size, a hopping sequence ID and an ASN: refused outside the limits
unfoldable pub decision : List Link → SlotQuery → Result Action Refusal
decision links query =
    let slot = slot_offset query in
    if_on (limits query (length links) (timeslots_below query.size links))
    (Ok (action query (first_active slot 0 0 links) (first_active slot 1 0 links)))
    (Err OutOfLimits)
