-- How the code goes about advertise, report and forget: it looks for the number of a place, 32 where there is none, says what is
-- to be stored there, and stores it in a table that breaks no rule (docs/RULES.md, Neighbours). What the rules say of the calls stands in
-- Calls.antt; proofs/StoreLaws.antt shows that both agree. Assumes nothing.
use Rattle.std.specs.Prelude.{ℕ, zero, suc, Bool, cond, List, [], ◌∷◌, get_or, set, Option, Some, None, Result, Ok, Err}
use Rattle.octets_spec.specs.Choice.{if_lt, if_on}
use Rattle.refusal.specs.declared.Refusal.{Refusal}
use Rattle.refusal.specs.Refusal.{done, number_of, out_of_limits, table_full, unknown_neighbour}
use Rattle.nbr_metric_spec.specs.declared.Place.{Place}
use Rattle.nbr_metric_spec.specs.Metric.{blank}
use Rattle.nbr_table_spec.specs.declared.Found.{Found as FoundGiven}
use Rattle.nbr_table_spec.specs.declared.Store.{Store}
use Rattle.nbr_table_spec.specs.declared.Table.{Table}
use Rattle.nbr_table_spec.specs.Places.{free, named, unfit}
use Rattle.nbr_table_spec.specs.Changes.{attempted, newcomer, with_rank}
use Rattle.nbr_table_spec.specs.Calls.{Answer, answer, broken}

-- the number of the first place that passes the test, and how many places there are if none does
unfoldable pub first : (Place → Bool) → List Place → ℕ
first test [] = zero
first test (place ∷ places) = cond (test place) zero (suc (first test places))

-- the number of a neighbour's place, 32 where it has none
abbrev pub index_of : ℕ → List Place → ℕ
index_of id places = first (named id) places

-- the number of the lowest-numbered free place, 32 where there is none
abbrev pub free_index : List Place → ℕ
free_index places = first free places

-- where a neighbour stands, and the lowest-numbered free place, by number; 32 where there is none
pub record Found : Type 0 where
  pub at : ℕ
  pub unused : ℕ

-- both
abbrev pub found : ℕ → List Place → Found
found id places = record { at = index_of id places; unused = free_index places }

-- the number of a place that may be none, 32 for none
abbrev pub index_in : Option ℕ → ℕ
index_in None = 32
index_in (Some at) = at

-- what a search gives, by number
abbrev pub found_of : FoundGiven → Found
found_of given = record { at = index_in given.at; unused = index_in given.unused }

-- what a call finds out before it changes the places: its number, the place that it stores, and the number of that place, 32 for none
pub record Change : Type 0 where
  pub number : ℕ
  pub at : ℕ
  pub place : Place

-- a place, stored at a number
abbrev pub change : ℕ → ℕ → Place → Change
change number at place = record { number = number; at = at; place = place }

-- nothing is stored
abbrev pub refusing : ℕ → Change
refusing number = change number 32 blank

-- the same of what a call finds out
abbrev pub change_of : Result Store Refusal → Change
change_of (Ok store) = change done store.at store.place
change_of (Err refusal) = refusing (number_of refusal)

-- advertise, on places that break no rule
unfoldable pub advertising : List Place → ℕ → ℕ → Change
advertising places id rank =
    if_lt (index_of id places) 32
    (change done (index_of id places) (with_rank rank (get_or places (index_of id places) blank)))
    (if_lt (free_index places) 32 (change done (free_index places) (newcomer id rank)) (refusing table_full))

-- report; a place over its limits, which no such table has, is refused
unfoldable pub reporting : List Place → ℕ → ℕ → Bool → Change
reporting places id attempts acked =
    if_lt attempts 1 (refusing out_of_limits)
    (if_lt 4 attempts (refusing out_of_limits)
    (if_lt (index_of id places) 32
    (if_on (unfit (get_or places (index_of id places) blank)) (refusing out_of_limits)
    (change done (index_of id places) (attempted attempts acked (get_or places (index_of id places) blank))))
    (refusing unknown_neighbour)))

-- forget
unfoldable pub forgetting : List Place → ℕ → Change
forgetting places id = if_lt (index_of id places) 32 (change done (index_of id places) blank) (refusing unknown_neighbour)

-- the answer of a call that stores a change and leaves this held parent
unfoldable pub stored : Table → Change → Option ℕ → Answer
stored table change parent =
    if_on (broken table) (answer out_of_limits table)
    (answer change.number (record { places = set table.places change.at change.place; parent = parent }))
