-- What the rules measure of one neighbour (docs/RULES.md, Neighbours). Assumes nothing.
use Rattle.std.specs.Prelude.{ℕ, ◌+◌, ◌*◌, ◌-◌, ◌/◌, ◌≤◌, ◌≡◌, Bool, true, false, ◌&&◌, ◌||◌, eqb, leb}
use Rattle.octets_spec.specs.Choice.{if_eq, if_on}
use Rattle.nbr_metric_spec.specs.declared.Place.{Place}

-- a free place is all zero
abbrev pub blank : Place
blank = record { id = 0; rank = 0; attempts = 0; acked = 0; used = false }

-- `least` is the smallest whole number not below 256·(3 attempts - 2 acknowledged) / acknowledged
unfoldable pub IsIncrement : ℕ → ℕ → ℕ → Type 0
IsIncrement attempts acked least = (256 * (3 * attempts - 2 * acked) ≤ least * acked) × ((other : ℕ) → 256 * (3 * attempts - 2 * acked) ≤ other * acked → least ≤ other)

-- the increment of so many attempts and acknowledged ones: that number where one is acknowledged at least (`IncrementIsCeiling`);
-- where none is, 768 before the first attempt and 0 after it (`IncrementOfNone`)
unfoldable pub increment : ℕ → ℕ → ℕ
increment attempts acked = if_eq acked 0 (if_eq attempts 0 768 0) ((256 * (3 * attempts - 2 * acked) + (acked - 1)) / acked)

-- the definition is the ceiling that the rules ask for
abbrev pub IncrementIsCeiling : Type 0
IncrementIsCeiling = (attempts acked : ℕ) → 1 ≤ acked → IsIncrement attempts acked (increment attempts acked)

-- where none is acknowledged: 768 before the first attempt, and after it 0, which no eligible neighbour has
abbrev pub IncrementOfNone : Type 0
IncrementOfNone = (increment 0 0 ≡ 768) × ((attempts : ℕ) → 1 ≤ attempts → increment attempts 0 ≡ 0)

-- the path cost of a place: its rank and its increment
unfoldable pub path_cost : Place → ℕ
path_cost place = place.rank + increment place.attempts place.acked

-- whether a place is eligible: in use, rank at least 256, no attempt yet or one acknowledged at least, 3 times the attempts
-- at most 11 times the acknowledged ones, cost at most 65534
unfoldable pub eligible : Place → Bool
eligible place =
    place.used
    && (leb 256 place.rank
    && ((eqb place.attempts 0 || leb 1 place.acked) && (leb (3 * place.attempts) (11 * place.acked) && leb (path_cost place) 65534)))

-- a fresh neighbour, without an attempt yet, is eligible exactly from rank 256 to 64766, and costs its rank and 768
abbrev pub FreshNeighbour : Type 0
FreshNeighbour =
    (place : Place) → place.used ≡ true → place.attempts ≡ 0 → place.acked ≡ 0 →
    (eligible place ≡ (leb 256 place.rank && leb place.rank 64766)) × (path_cost place ≡ place.rank + 768)

-- one with attempts of which none was acknowledged is not eligible
abbrev pub UnansweredIsNot : Type 0
UnansweredIsNot = (place : Place) → 1 ≤ place.attempts → place.acked ≡ 0 → eligible place ≡ false

-- what a place offers a node as its own rank: its cost if it is eligible, else 65535, which is no parent's
unfoldable pub offer : Place → ℕ
offer place = if_on (eligible place) (path_cost place) 65535
