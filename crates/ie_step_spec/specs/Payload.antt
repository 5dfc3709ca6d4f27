-- The payload list and the MLME group: what stands at an offset of them (docs/RULES.md, Payload elements). Assumes nothing.
use Rattle.std.specs.Prelude.{ℕ, ◌+◌, ◌-◌, ◌/◌, ◌%◌, ◌<◌, ◌≤◌, ◌≡◌, List, get_or}
use Rattle.octets_spec.specs.Choice.{if_lt, if_eq, if_ne}
use Rattle.octets_spec.specs.Number.{le_at}
use Rattle.refusal.specs.declared.Refusal.TheVariants.{Cut, Shape}
use Rattle.ie_step_spec.specs.declared.OuterStep.{OuterStep}
use Rattle.ie_step_spec.specs.declared.OuterStep.TheVariants as outer
use Rattle.ie_step_spec.specs.declared.InnerStep.{InnerStep}
use Rattle.ie_step_spec.specs.declared.InnerStep.TheVariants as inner

-- groups of the payload list: the MLME group
abbrev pub mlme : ℕ
mlme = 0x1

-- the IETF group (RFC 8137)
abbrev pub ietf : ℕ
ietf = 0x5

-- the group that ends the list
abbrev pub payload_termination : ℕ
payload_termination = 0xF

-- in an IETF group, the subtype of joining information (RFC 9032)
abbrev pub joining_subtype : ℕ
joining_subtype = 2

-- the kind of a short sub-element is its ID, that of a long one its ID and this
abbrev pub long : ℕ
long = 0x80

-- the MLME group holds sub-elements; the IETF group has a subtype byte first (length 0 is 6), and one subtype is joining information;
-- other groups and subtypes are skipped
unfoldable pub group_of : List ℕ → ℕ → ℕ → ℕ → OuterStep
group_of s group from to =
    if_eq group mlme (outer.Group from to)
    (if_eq group ietf (if_eq from to (outer.Fault Shape) (if_eq (get_or s from 0) joining_subtype (outer.Joining (from + 1) to) (outer.Skip to)))
    (outer.Skip to))

-- a descriptor: bits 0-10 length, 11-14 group, 15 one. First the length must fit (2), then bit 15 be one (6). The termination
-- with a length is 6
unfoldable pub outer_word : List ℕ → ℕ → ℕ → ℕ → OuterStep
outer_word s at end word =
    let size : ℕ = word % 0x800 in
    let group : ℕ = word / 0x800 % 0x10 in
    if_lt (end - (at + 2)) size (outer.Fault Cut)
    (if_eq (word / 0x8000) 0 (outer.Fault Shape)
    (if_eq group payload_termination (if_ne size 0 (outer.Fault Shape) outer.End)
    (group_of s group (at + 2) (at + 2 + size))))

-- at the end of the bytes the list ends; one byte left over is a cut descriptor (2)
unfoldable pub outer_at : List ℕ → ℕ → ℕ → OuterStep
outer_at s at end = if_lt at end (if_lt (end - at) 2 (outer.Fault Cut) (outer_word s at end (le_at 2 s at))) outer.End

-- a sub-element's descriptor. Bit 15 zero: bits 0-7 length, 8-14 ID. Bit 15 one: bits 0-10 length, 11-14 ID. The length must fit the
-- group (2)
unfoldable pub inner_word : ℕ → ℕ → ℕ → InnerStep
inner_word at end word =
    let shortSize : ℕ = word % 0x100 in
    let longSize : ℕ = word % 0x800 in
    if_eq (word / 0x8000) 0
    (if_lt (end - (at + 2)) shortSize (inner.Fault Cut) (inner.Part (word / 0x100) (at + 2) (at + 2 + shortSize)))
    (if_lt (end - (at + 2)) longSize (inner.Fault Cut) (inner.Part (long + word / 0x800 % 0x10) (at + 2) (at + 2 + longSize)))

-- at the group's end the reader goes back to the outer list; one byte left over in the group is a cut descriptor (2)
unfoldable pub inner_at : List ℕ → ℕ → ℕ → InnerStep
inner_at s at end = if_lt at end (if_lt (end - at) 2 (inner.Fault Cut) (inner_word at end (le_at 2 s at))) inner.Back

-- where a step leads lies behind its descriptor, which ends at `from`, and before the end
abbrev pub outer_within : OuterStep → ℕ → ℕ → Type 0
outer_within outer.End from end = Unit
outer_within (outer.Group start to) from end = (start ≡ from) × (start ≤ to) × (to ≤ end)
outer_within (outer.Joining start to) from end = (start ≡ from + 1) × (start ≤ to) × (to ≤ end)
outer_within (outer.Skip to) from end = (from ≤ to) × (to ≤ end)
outer_within (outer.Fault refusal) from end = Unit

-- where a step of a group leads lies behind it and before the end
abbrev pub inner_within : InnerStep → ℕ → ℕ → Type 0
inner_within inner.Back at end = Unit
inner_within (inner.Part kind from to) at end = (at < from) × (from ≤ to) × (to ≤ end)
inner_within (inner.Fault refusal) at end = Unit
