-- Parents do not flap: one claim about every list of calls (docs/RULES.md, Neighbours). Assumes nothing.
use Rattle.std.specs.Prelude.{ℕ, ◌+◌, ◌*◌, ◌-◌, ◌<◌, ◌≤◌, ◌^◌, ◌≡◌, Bool, true, false, cond, not, ◌&&◌, List, [], ◌∷◌, length, eqb, ltb}
use Rattle.nbr_metric_spec.specs.declared.Place.{Place}
use Rattle.nbr_metric_spec.specs.Metric.{eligible}
use Rattle.nbr_table_spec.specs.declared.Table.{Table}
use Rattle.nbr_table_spec.specs.Calls.{advertised, broken, evaluated, forgotten, held, held_cost, id_of, reported, same_parent}

-- a call, with what it is given besides the table
pub data Call : Type 0 where
  Advertise : (id rank : ℕ) → Call
  Report : (id attempts : ℕ) (acked : Bool) → Call
  Forget : (id : ℕ) → Call
  Evaluate : Call

-- the table that a call gives back, refused or not
unfoldable pub after : Table → Call → Table
after table (Advertise id rank) = (advertised table id rank).table
after table (Report id attempts acked) = (reported table id attempts acked).table
after table (Forget id) = (forgotten table id).table
after table Evaluate = (evaluated table).table

-- the tables that an evaluation gets and gives back
pub record EntryExit : Type 0 where
  pub entry : Table
  pub exit : Table

-- the evaluations of a list: its first call gets the table, each later one the table that the call before it gave back
unfoldable pub evaluations : Table → List Call → List EntryExit
evaluations table [] = []
evaluations table (Advertise id rank ∷ calls) = evaluations (after table (Advertise id rank)) calls
evaluations table (Report id attempts acked ∷ calls) = evaluations (after table (Report id attempts acked)) calls
evaluations table (Forget id ∷ calls) = evaluations (after table (Forget id)) calls
evaluations table (Evaluate ∷ calls) = record { entry = table; exit = after table Evaluate } ∷ evaluations (after table Evaluate) calls

-- how many evaluations changed the parent
unfoldable pub changes : List EntryExit → ℕ
changes [] = 0
changes (visit ∷ visits) = cond (same_parent visit.entry.parent visit.exit.parent) 0 1 + changes visits

-- all rises of the held parent's cost between one evaluation and the next
unfoldable pub rises : List EntryExit → ℕ
rises [] = 0
rises (visit ∷ []) = 0
rises (visit ∷ next ∷ visits) = (held_cost next.entry - held_cost visit.exit) + rises (next ∷ visits)

-- the cost on entry to the first evaluation
unfoldable pub first_cost : List EntryExit → ℕ
first_cost [] = 0
first_cost (visit ∷ visits) = held_cost visit.entry

-- the cost on exit from the last
unfoldable pub last_cost : List EntryExit → ℕ
last_cost [] = 0
last_cost (visit ∷ []) = held_cost visit.exit
last_cost (visit ∷ next ∷ visits) = last_cost (next ∷ visits)

-- the parent held on entry to each evaluation is eligible there
unfoldable pub each_eligible : List EntryExit → Bool
each_eligible [] = true
each_eligible (visit ∷ visits) = eligible (held visit.entry) && each_eligible visits

-- there is at least one evaluation
unfoldable pub some_evaluation : List EntryExit → Bool
some_evaluation [] = false
some_evaluation (visit ∷ visits) = true

-- no evaluation is refused
unfoldable pub none_refused : List EntryExit → Bool
none_refused [] = true
none_refused (visit ∷ visits) = eqb (evaluated visit.entry).number 0 && none_refused visits

-- the lists that the claim is about: a table that is not refused, at least one evaluation, an eligible parent at each
unfoldable pub applies : Table → List Call → Bool
applies table calls = not (broken table) && (some_evaluation (evaluations table calls) && each_eligible (evaluations table calls))

-- the claim
abbrev pub ParentsDoNotFlap : Type 0
ParentsDoNotFlap =
    (table : Table) (calls : List Call) → applies table calls ≡ true →
    let visits = evaluations table calls in 641 * changes visits + last_cost visits ≤ first_cost visits + rises visits

-- without rises there are at most 101 changes
abbrev pub AtMost101Changes : Type 0
AtMost101Changes = (table : Table) (calls : List Call) → applies table calls ≡ true → rises (evaluations table calls) ≡ 0 → changes (evaluations table calls) ≤ 101

-- no evaluation of a list is refused, whose first table is not
abbrev pub NoneRefused : Type 0
NoneRefused = (table : Table) (calls : List Call) → broken table ≡ false → none_refused (evaluations table calls) ≡ true

-- a place's numbers are those of the code's type: an identifier of 64 bits, and 16 bits for each of the others
unfoldable pub place_fits : Place → Bool
place_fits place = ltb place.id (2 ^ 64) && (ltb place.rank (2 ^ 16) && (ltb place.attempts (2 ^ 16) && ltb place.acked (2 ^ 16)))

-- those of all places are
unfoldable pub places_fit : List Place → Bool
places_fit [] = true
places_fit (place ∷ places) = place_fits place && places_fit places

-- a table is one of the code's type: 32 places, and numbers that fit
unfoldable pub table_fits : Table → Bool
table_fits table = eqb (length table.places) 32 && (places_fit table.places && ltb (id_of table.parent) (2 ^ 64))

-- what a call is given fits too, as in a log
unfoldable pub call_fits : Call → Bool
call_fits (Advertise id rank) = ltb id (2 ^ 64) && ltb rank (2 ^ 16)
call_fits (Report id attempts acked) = ltb id (2 ^ 64) && ltb attempts (2 ^ 16)
call_fits (Forget id) = ltb id (2 ^ 64)
call_fits Evaluate = true

-- a table and calls that the code can be given
unfoldable pub both_fit : Table → List Call → Bool
both_fit table [] = table_fits table
both_fit table (call ∷ calls) = call_fits call && both_fit table calls

-- the bound is met, by a list with a change and a rise
abbrev pub BoundIsMet : Type 0
BoundIsMet =
    (table : Table) × (calls : List Call) × (both_fit table calls ≡ true) × (applies table calls ≡ true)
    × (let visits = evaluations table calls in (0 < changes visits) × (0 < rises visits) × (641 * changes visits + last_cost visits ≡ first_cost visits + rises visits))

-- and there is a list with 101 changes and no rise
abbrev pub Reaches101 : Type 0
Reaches101 = (table : Table) × (calls : List Call) × (both_fit table calls ≡ true) × (applies table calls ≡ true) × (rises (evaluations table calls) ≡ 0) × (changes (evaluations table calls) ≡ 101)
