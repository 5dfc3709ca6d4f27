-- What holds of the table's calls beyond what each of them answers (docs/RULES.md, Neighbours). Assumes nothing.
use Rattle.std.specs.Prelude.{ℕ, ◌+◌, ◌<◌, ◌≤◌, ◌≡◌, Bool, true, false, List, ◌⊎◌, length, get_or, Some, None}
use Rattle.nbr_metric_spec.specs.declared.Place.{Place}
use Rattle.nbr_metric_spec.specs.Metric.{blank, eligible, path_cost}
use Rattle.refusal.specs.Refusal.{done}
use Rattle.nbr_table_spec.specs.Places.{best, known}
use Rattle.nbr_table_spec.specs.Changes.{attempted}
use Rattle.nbr_table_spec.specs.Calls.{Answer, advertised, broken, empty_table, evaluated, evaluation, forgotten, held, reported, with_parent}
use Rattle.nbr_table_spec.specs.declared.Table.{Table}

-- every call keeps a table that is not refused so
abbrev pub CallsKeepTables : Type 0
CallsKeepTables =
    (table : Table) → broken table ≡ false →
    ((id rank : ℕ) → broken (advertised table id rank).table ≡ false)
    × ((id attempts : ℕ) (acked : Bool) → broken (reported table id attempts acked).table ≡ false)
    × ((id : ℕ) → broken (forgotten table id).table ≡ false)
    × (broken (evaluated table).table ≡ false)

-- the first place is not after the other by least key, then lower identifier
abbrev pub NotAfter : (Place → ℕ) → Place → Place → Type 0
NotAfter key first place = (key first ≤ key place) × (key first ≡ key place → first.id ≤ place.id)

-- the best place is eligible as soon as any place is, and comes first by least cost, then lower identifier, among all eligible
abbrev pub BestComesFirst : Type 0
BestComesFirst = (places : List Place) (i : ℕ) → eligible (get_or places i blank) ≡ true → (eligible (best places) ≡ true) × NotAfter path_cost (best places) (get_or places i blank)

-- an eligible best place is one of the places
abbrev pub BestIsAPlace : Type 0
BestIsAPlace = (places : List Place) → eligible (best places) ≡ true → (i : ℕ) × (i < length places) × (get_or places i blank ≡ best places)

-- an eligible neighbour costs from 512 to 65534, where no more attempts are acknowledged than were made, as in every table that is not
-- refused
abbrev pub EligibleCosts : Type 0
EligibleCosts = (place : Place) → place.acked ≤ place.attempts → eligible place ≡ true → (512 ≤ path_cost place) × (path_cost place ≤ 65534)

-- evaluate sets the held parent and nothing else
abbrev pub EvaluateKeepsPlaces : Type 0
EvaluateKeepsPlaces = (table : Table) → (evaluated table).table.places ≡ table.places

-- where the held parent is eligible, evaluate gives the table back as it is, or a parent whose cost is lower by 641 at least
abbrev pub ChangesGain641 : Type 0
ChangesGain641 =
    (table : Table) → eligible (held table) ≡ true →
    ((evaluated table).table ≡ table) ⊎ (path_cost (held (evaluated table).table) + 641 ≤ path_cost (held table))

-- once a neighbour is forgotten any neighbour can be advertised, also where the table was full
abbrev pub ForgetMakesRoom : Type 0
ForgetMakesRoom = (table : Table) (id other rank : ℕ) → broken table ≡ false → known id table.places ≡ true → (advertised (forgotten table id).table other rank).number ≡ 0

-- an evaluation that is done leaves no parent and own rank 65535, or an eligible parent whose cost is the own rank,
-- from the parent's rank + 256 to 65534
abbrev pub OwnRank : Type 0
OwnRank =
    (table : Table) → broken table ≡ false →
    (((evaluated table).table.parent ≡ None) × ((evaluated table).rank ≡ 65535))
    ⊎ (((evaluated table).table.parent ≡ Some (held (evaluated table).table).id)
    × (eligible (held (evaluated table).table) ≡ true)
    × ((evaluated table).rank ≡ path_cost (held (evaluated table).table))
    × ((held (evaluated table).table).rank + 256 ≤ (evaluated table).rank)
    × ((evaluated table).rank ≤ 65534))

-- a failed report on the only neighbour is done and leaves it not eligible, so that the next evaluation leaves no parent
abbrev pub ParentLost : Answer → Type 0
ParentLost failed =
    (failed.number ≡ done)
    × (eligible (held failed.table) ≡ false)
    × (evaluated failed.table ≡ evaluation done (with_parent failed.table None) 65535)

-- a tag with this table joins: an evaluation takes the neighbour as the parent, and the own rank is its rank and 768, until a report on it
-- fails
abbrev pub JoinsThrough : ℕ → ℕ → Table → Type 0
JoinsThrough id rank table =
    (evaluated table ≡ evaluation done (with_parent table (Some id)) (rank + 768))
    × ((attempts : ℕ) → 1 ≤ attempts → attempts ≤ 4 → ParentLost (reported (evaluated table).table id attempts false))

-- a fresh tag joins through the first neighbour that is advertised to it with a rank from 256 to 64766
abbrev pub FreshTagJoins : Type 0
FreshTagJoins = (id rank : ℕ) → 256 ≤ rank → rank ≤ 64766 → JoinsThrough id rank (advertised empty_table id rank).table

-- in any table a failed report on a neighbour without an acknowledged attempt, fresh or not, leaves it not eligible, also where its
-- counters are halved
abbrev pub FailedIsNotEligible : Type 0
FailedIsNotEligible = (place : Place) (attempts : ℕ) → place.acked ≡ 0 → 1 ≤ attempts → eligible (attempted attempts false place) ≡ false
