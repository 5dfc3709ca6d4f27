-- When the slot decision sleeps (docs/RULES.md, Slot and channel). Assumes nothing.
use Rattle.std.specs.Prelude.{ℕ, ◌<◌, ◌≡◌, Bool, true, false, List, [], ◌∷◌, Ok, length, get_or}
use Rattle.eb_record_spec.specs.declared.Link.{Link}
use Rattle.eb_record_spec.specs.Record.{blank_link}
use Rattle.slot_spec.specs.declared.Action.TheVariants.{Sleep, Listen}
use Rattle.slot_spec.specs.declared.SlotQuery.{SlotQuery}
use Rattle.slot_spec.specs.Slot.{decision, is_active, limits, option_bit, slot_offset, timeslots_below}

-- no link that is active in a slot has an option bit
abbrev pub NoneActive : ℕ → ℕ → List Link → Type 0
NoneActive slot bit links = (i : ℕ) → i < length links → is_active slot (get_or links i blank_link) ≡ true → option_bit bit (get_or links i blank_link) ≡ false

-- there is nothing to do: no active link has bit 1, nor bit 0 while a frame waits
abbrev pub Idle : ℕ → Bool → List Link → Type 0
Idle slot waits links = NoneActive slot 1 links × (waits ≡ true → NoneActive slot 0 links)

-- within the limits a tag sleeps exactly when there is nothing to do
abbrev pub SleepsExactlyWhenIdle : Type 0
SleepsExactlyWhenIdle =
    (links : List Link) (query : SlotQuery) → limits query (length links) (timeslots_below query.size links) ≡ true →
    (decision links query ≡ Ok Sleep → Idle (slot_offset query) query.waits links)
    × (Idle (slot_offset query) query.waits links → decision links query ≡ Ok Sleep)

-- both happen within the limits: a link to transmit and receive in slot 0 of 11 sleeps at ASN 1, and listens at ASN 0
abbrev pub SomeSleepAndSomeDoNot : Type 0
SomeSleepAndSomeDoNot =
    let links : List Link = record { timeslot = 0; channel_offset = 0; options = 15 } ∷ [] in
    let sleeper : SlotQuery = record { size = 11; id = 0; asn = 1; waits = true } in
    let listener : SlotQuery = record { size = 11; id = 0; asn = 0; waits = false } in
    (limits sleeper 1 (timeslots_below 11 links) ≡ true) × (decision links sleeper ≡ Ok Sleep) × (decision links listener ≡ Ok (Listen 0 16))
