-- The table and its calls: which tables are refused, and what each call answers (docs/RULES.md, Neighbours).
-- Assumes nothing.
use Rattle.std.specs.Prelude.{ℕ, ◌-◌, Bool, true, false, not, ◌||◌, List, replicate, eqb, Option, Some, None, Result, Ok, Err}
use Rattle.octets_spec.specs.Choice.{if_lt, if_eq, if_on}
use Rattle.refusal.specs.Refusal.{done, number_of, out_of_limits, table_full, unknown_neighbour}
use Rattle.refusal.specs.declared.Refusal.{Refusal}
use Rattle.nbr_metric_spec.specs.declared.Place.{Place}
use Rattle.nbr_metric_spec.specs.Metric.{blank, eligible, path_cost}
use Rattle.nbr_table_spec.specs.declared.Table.{Table}
use Rattle.nbr_table_spec.specs.declared.Choice.{Choice}
use Rattle.nbr_table_spec.specs.declared.Evaluation.{Evaluation as EvaluationGiven}
use Rattle.nbr_table_spec.specs.Places.{best, change_first, first_of, free, known, named, some_place, twice, unfit}
use Rattle.nbr_table_spec.specs.Changes.{attempted, newcomer, with_rank}

-- ---- the table
-- 32 free places and no parent
abbrev pub empty_table : Table
empty_table = record { places = replicate 32 blank; parent = None }

-- a table with other places
abbrev pub with_places : Table → List Place → Table
with_places table places = record { places = places; parent = table.parent }

-- a table with another held parent
abbrev pub with_parent : Table → Option ℕ → Table
with_parent table parent = record { places = table.places; parent = parent }

-- a held parent that is not among the places in use
unfoldable pub parent_missing : Option ℕ → List Place → Bool
parent_missing None places = false
parent_missing (Some id) places = not (known id places)

-- a table that breaks a rule: a place does, an identifier stands twice among places in use, or a held parent is not among them
unfoldable pub broken : Table → Bool
broken table = some_place unfit table.places || (twice table.places || parent_missing table.parent table.places)

-- ---- the calls, each first fault first: 8, 10, 11
-- what a call gives back: its number, and the table, which is the one it got where the number is not 0
pub record Answer : Type 0 where
  pub number : ℕ
  pub table : Table

-- what an evaluation gives back: also the own rank, 65535 where there is no parent and where it is refused
pub record Evaluation : Type 0 where
  pub number : ℕ
  pub table : Table
  pub rank : ℕ

-- a call's number and its table
abbrev pub answer : ℕ → Table → Answer
answer number table = record { number = number; table = table }

-- the same of a call's result, where this is the table that it got
abbrev pub answer_of : Table → Result Table Refusal → Answer
answer_of table (Ok after) = answer done after
answer_of table (Err refusal) = answer (number_of refusal) table

-- sets the rank, or adds a neighbour in the lowest-numbered free place
unfoldable pub advertised : Table → ℕ → ℕ → Answer
advertised table id rank =
    if_on (broken table) (answer out_of_limits table)
    (if_on (known id table.places) (answer done (with_places table (change_first (named id) (with_rank rank) table.places)))
    (if_on (some_place free table.places) (answer done (with_places table (change_first free (λ place. newcomer id rank) table.places)))
    (answer table_full table)))

-- 1 to 4 attempts, acknowledged or not
unfoldable pub reported : Table → ℕ → ℕ → Bool → Answer
reported table id attempts acked =
    if_on (broken table) (answer out_of_limits table)
    (if_lt attempts 1 (answer out_of_limits table)
    (if_lt 4 attempts (answer out_of_limits table)
    (if_on (known id table.places) (answer done (with_places table (change_first (named id) (attempted attempts acked) table.places)))
    (answer unknown_neighbour table))))

-- the held parent once a neighbour is removed
unfoldable pub without : ℕ → Option ℕ → Option ℕ
without id None = None
without id (Some other) = if_eq other id None (Some other)

-- removes the neighbour; a held parent so removed becomes none
unfoldable pub forgotten : Table → ℕ → Answer
forgotten table id =
    if_on (broken table) (answer out_of_limits table)
    (if_on (known id table.places)
    (answer done (record { places = change_first (named id) (λ place. blank) table.places; parent = without id table.parent }))
    (answer unknown_neighbour table))

-- ---- evaluation
-- the held parent's place, and the blank place for none
unfoldable pub held_place : Option ℕ → List Place → Place
held_place None places = blank
held_place (Some id) places = first_of (named id) places

-- the same of a table
abbrev pub held : Table → Place
held table = held_place table.parent table.places

-- whether a parent is held
unfoldable pub mark_of : Option ℕ → Bool
mark_of None = false
mark_of (Some id) = true

-- the held parent's path cost, 0 for none
abbrev pub held_cost : Table → ℕ
held_cost table = if_on (mark_of table.parent) (path_cost (held table)) 0

-- the held parent's identifier, 0 for none
unfoldable pub id_of : Option ℕ → ℕ
id_of None = 0
id_of (Some id) = id

-- whether two held parents are the same
unfoldable pub same_parent : Option ℕ → Option ℕ → Bool
same_parent None None = true
same_parent None (Some other) = false
same_parent (Some id) None = false
same_parent (Some id) (Some other) = eqb id other

-- a choice: the parent that is held from now on, and the own rank
abbrev pub choice : Option ℕ → ℕ → Choice
choice parent rank = record { parent = parent; rank = rank }

-- a place's neighbour as parent: own rank is its cost
abbrev pub choice_of : Place → Choice
choice_of place = choice (Some place.id) (path_cost place)

-- the choice between the held parent, at its current place, and the candidate, the best place: with no eligible neighbour none; if the held
-- one is none or not eligible the best; otherwise change exactly when held cost minus best cost is greater than 640
unfoldable pub chosen : Option ℕ → Place → Place → Choice
chosen parent current candidate =
    if_on (eligible candidate)
    (if_on (eligible current) (if_lt 640 (path_cost current - path_cost candidate) (choice_of candidate) (choice parent (path_cost current))) (choice_of candidate))
    (choice None 65535)

-- an evaluation's number, table and own rank
abbrev pub evaluation : ℕ → Table → ℕ → Evaluation
evaluation number table rank = record { number = number; table = table; rank = rank }

-- the same of an evaluation's result, where this is the table that it got
abbrev pub evaluation_of : Table → Result EvaluationGiven Refusal → Evaluation
evaluation_of table (Ok value) = evaluation done value.table value.rank
evaluation_of table (Err refusal) = evaluation (number_of refusal) table 65535

-- sets the held parent and says the own rank
abbrev pub settled : Table → Choice → Evaluation
settled table decision = evaluation done (with_parent table decision.parent) decision.rank

-- the choice is set; a refusal says 65535
unfoldable pub evaluated : Table → Evaluation
evaluated table = if_on (broken table) (evaluation out_of_limits table 65535) (settled table (chosen table.parent (held table) (best table.places)))
