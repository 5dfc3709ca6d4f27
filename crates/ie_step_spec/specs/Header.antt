-- The header list: what stands at an offset of it (docs/RULES.md, Header elements). Assumes nothing.
use Rattle.std.specs.Prelude.{ℕ, ◌+◌, ◌-◌, ◌/◌, ◌%◌, ◌<◌, ◌≤◌, List}
use Rattle.octets_spec.specs.Choice.{if_lt, if_eq, if_ne}
use Rattle.octets_spec.specs.Number.{le_at}
use Rattle.refusal.specs.declared.Refusal.TheVariants.{Cut, Shape}
use Rattle.ie_step_spec.specs.declared.HeaderStep.{HeaderStep}
use Rattle.ie_step_spec.specs.declared.HeaderStep.TheVariants.{End, Payload, Element, Fault}

-- header termination 1: it ends the list, and payload elements follow
abbrev pub header_termination1 : ℕ
header_termination1 = 0x7E

-- header termination 2: it ends the list, and none follow
abbrev pub header_termination2 : ℕ
header_termination2 = 0x7F

-- a descriptor: bits 0-6 length, 7-14 ID, 15 zero. First the length must fit (2), then bit 15 be zero (6). A
-- termination with a length is 6. Others are elements
unfoldable pub header_word : ℕ → ℕ → ℕ → HeaderStep
header_word at end word =
    let size : ℕ = word % 0x80 in
    let id : ℕ = word / 0x80 % 0x100 in
    if_lt (end - (at + 2)) size (Fault Cut)
    (if_eq (word / 0x8000) 1 (Fault Shape)
    (if_eq id header_termination1 (if_ne size 0 (Fault Shape) (Payload (at + 2)))
    (if_eq id header_termination2 (if_ne size 0 (Fault Shape) End)
    (Element id (at + 2) (at + 2 + size)))))

-- at the end of the bytes the list ends; one byte left over is a cut descriptor (2)
unfoldable pub header_at : List ℕ → ℕ → ℕ → HeaderStep
header_at s at end = if_lt at end (if_lt (end - at) 2 (Fault Cut) (header_word at end (le_at 2 s at))) End

-- where a step leads lies behind it and before the end
abbrev pub header_within : HeaderStep → ℕ → ℕ → Type 0
header_within End at end = Unit
header_within (Payload from) at end = (at < from) × (from ≤ end)
header_within (Element id from to) at end = (at < from) × (from ≤ to) × (to ≤ end)
header_within (Fault refusal) at end = Unit
