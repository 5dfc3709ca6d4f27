-- The places of a table: which are meant, which break a rule, and the best of them (docs/RULES.md, Neighbours).
-- Assumes nothing.
use Rattle.std.specs.Prelude.{ℕ, Bool, false, cond, not, ◌&&◌, ◌||◌, List, [], ◌∷◌, ltb, eqb}
use Rattle.octets_spec.specs.Choice.{if_lt, if_on}
use Rattle.nbr_metric_spec.specs.declared.Place.{Place}
use Rattle.nbr_metric_spec.specs.Metric.{blank, eligible, path_cost}

-- ---- which places are meant
-- a place is free
unfoldable pub free : Place → Bool
free place = not place.used

-- a place is in use, by this neighbour
unfoldable pub named : ℕ → Place → Bool
named id place = place.used && eqb place.id id

-- some place passes the test
unfoldable pub some_place : (Place → Bool) → List Place → Bool
some_place test [] = false
some_place test (place ∷ places) = test place || some_place test places

-- the lowest-numbered place that passes the test, and the blank place if none does
unfoldable pub first_of : (Place → Bool) → List Place → Place
first_of test [] = blank
first_of test (place ∷ places) = cond (test place) place (first_of test places)

-- the lowest-numbered place that passes the test is changed
unfoldable pub change_first : (Place → Bool) → (Place → Place) → List Place → List Place
change_first test change [] = []
change_first test change (place ∷ places) = cond (test place) (change place ∷ places) (place ∷ change_first test change places)

-- the neighbour is in the table
abbrev pub known : ℕ → List Place → Bool
known id places = some_place (named id) places

-- ---- which places break a rule
-- a place is not all zero
unfoldable pub nonzero : Place → Bool
nonzero place = ltb 0 place.id || (ltb 0 place.rank || (ltb 0 place.attempts || ltb 0 place.acked))

-- attempts over 255, more acknowledged than attempts, or free and not all zero
unfoldable pub unfit : Place → Bool
unfit place = ltb 255 place.attempts || (ltb place.attempts place.acked || (free place && nonzero place))

-- an identifier stands twice among places in use
unfoldable pub twice : List Place → Bool
twice [] = false
twice (place ∷ places) = (place.used && known place.id places) || twice places

-- ---- the best place, among those that pass a test, by a key
-- of two: the one of lesser key, then of lower identifier
unfoldable pub lesser : (Place → ℕ) → Place → Place → Place
lesser key kept place = if_lt (key place) (key kept) place (if_lt (key kept) (key place) kept (if_lt place.id kept.id place kept))

-- the better of two: the one that passes the test, and the one kept so far if neither does
unfoldable pub better : (Place → Bool) → (Place → ℕ) → Place → Place → Place
better test key kept place = if_on (test place) (if_on (test kept) (lesser key kept place) place) kept

-- the best of the places and the one kept so far
unfoldable pub best_of : (Place → Bool) → (Place → ℕ) → Place → List Place → Place
best_of test key kept [] = kept
best_of test key kept (place ∷ places) = best_of test key (better test key kept place) places

-- the best place: the eligible one of least cost, then of lower identifier, and the blank place if none is eligible
abbrev pub best : List Place → Place
best places = best_of eligible path_cost blank places
