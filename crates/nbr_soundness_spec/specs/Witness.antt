-- Tables that meet what the theorems ask for, so that none of them speaks of nothing: the checker computes each line
-- (docs/RULES.md, Neighbours). Assumes nothing.
use Rattle.std.specs.Prelude.{ℕ, zero, suc, ◌+◌, ◌-◌, ◌≡◌, true, false, List, [], ◌∷◌, get_or, replicate, Some, None}
use Rattle.refusal.specs.Refusal.{done, out_of_limits, table_full, unknown_neighbour}
use Rattle.nbr_metric_spec.specs.declared.Place.{Place}
use Rattle.nbr_metric_spec.specs.Metric.{blank, eligible, path_cost}
use Rattle.nbr_table_spec.specs.Places.{best, free, known, some_place}
use Rattle.nbr_table_spec.specs.Changes.{newcomer}
use Rattle.nbr_table_spec.specs.declared.Table.{Table}
use Rattle.nbr_table_spec.specs.Calls.{advertised, answer, broken, empty_table, evaluated, forgotten, held, reported}

-- a neighbour at a path cost: one attempt, acknowledged, adds 256 to the rank
abbrev pub costing : ℕ → ℕ → Place
costing id cost = record { id = id; rank = cost - 256; attempts = 1; acked = 1; used = true }

-- neighbour 1 is held at a cost, neighbour 2 has another
abbrev pub two_neighbours : ℕ → ℕ → Table
two_neighbours held_at otherAt = record { places = costing 1 held_at ∷ costing 2 otherAt ∷ replicate 30 blank; parent = Some 1 }

-- neighbour 1 is held at a cost, neighbour 2 is fresh, with the lowest rank: it costs 1024
abbrev pub against_fresh : ℕ → Table
against_fresh held_at = record { places = costing 1 held_at ∷ newcomer 2 256 ∷ replicate 30 blank; parent = Some 1 }

-- so many neighbours, from an identifier on
abbrev pub neighbours_from : ℕ → ℕ → List Place
neighbours_from id zero = []
neighbours_from id (suc count) = costing id 512 ∷ neighbours_from (suc id) count

-- a table with all 32 places in use, by neighbours 1 to 32
abbrev pub full_table : Table
full_table = record { places = neighbours_from 1 32; parent = Some 7 }

-- an eligible parent that is held changes for one that costs 641 less, which is the best and one of the places, and is kept
-- against one that costs 640 less; the own rank is the cost
abbrev pub GainsWitnessed : Type 0
GainsWitnessed =
    (broken (two_neighbours 1408 767) ≡ false)
    × (eligible (held (two_neighbours 1408 767)) ≡ true)
    × (path_cost (held (evaluated (two_neighbours 1408 767)).table) + 641 ≡ path_cost (held (two_neighbours 1408 767)))
    × ((evaluated (two_neighbours 1408 767)).rank ≡ 767)
    × (best (two_neighbours 1408 767).places ≡ get_or (two_neighbours 1408 767).places 1 blank)
    × (eligible (get_or (two_neighbours 1408 767).places 1 blank) ≡ true)
    × ((evaluated (two_neighbours 1408 768)).table ≡ two_neighbours 1408 768)

-- eligible neighbours cost 512 and 65534
abbrev pub CostsWitnessed : Type 0
CostsWitnessed =
    (eligible (costing 1 512) ≡ true)
    × (path_cost (costing 1 512) ≡ 512)
    × (eligible (costing 1 65534) ≡ true)
    × (path_cost (costing 1 65534) ≡ 65534)

-- a fresh neighbour is taken as any other: the parent is kept against one that costs 640 less and changes for one that costs 641 less
abbrev pub FreshWitnessed : Type 0
FreshWitnessed =
    ((evaluated (against_fresh 1664)).table ≡ against_fresh 1664)
    × ((evaluated (against_fresh 1665)).table.parent ≡ Some 2)
    × ((evaluated (against_fresh 1665)).rank ≡ 1024)

-- a full table breaks no rule, refuses a new neighbour with 11 and an unknown one with 10, and takes a new one once neighbour 7
-- is forgotten
abbrev pub FullWitnessed : Type 0
FullWitnessed =
    (broken full_table ≡ false)
    × (some_place free full_table.places ≡ false)
    × (advertised full_table 99 256 ≡ answer table_full full_table)
    × (reported full_table 99 1 true ≡ answer unknown_neighbour full_table)
    × (forgotten full_table 99 ≡ answer unknown_neighbour full_table)
    × (known 7 full_table.places ≡ true)
    × ((forgotten full_table 7).number ≡ done)
    × ((advertised (forgotten full_table 7).table 99 256).number ≡ done)

-- an evaluation without an eligible neighbour leaves no parent and own rank 65535; a table with an identifier twice is refused
abbrev pub RefusalsWitnessed : Type 0
RefusalsWitnessed =
    (broken empty_table ≡ false)
    × ((evaluated empty_table).table.parent ≡ None)
    × ((evaluated empty_table).rank ≡ 65535)
    × ((advertised (record { places = costing 1 512 ∷ costing 1 512 ∷ replicate 30 blank; parent = None }) 2 256).number ≡ out_of_limits)

-- all of them
abbrev pub Witnessed : Type 0
Witnessed = GainsWitnessed × CostsWitnessed × FreshWitnessed × FullWitnessed × RefusalsWitnessed
