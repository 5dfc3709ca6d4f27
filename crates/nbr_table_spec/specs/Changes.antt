-- What a place becomes by a call (docs/RULES.md, Neighbours). Assumes nothing.
use Rattle.std.specs.Prelude.{ℕ, ◌+◌, ◌/◌, Bool, true, cond}
use Rattle.octets_spec.specs.Choice.{if_lt}
use Rattle.nbr_metric_spec.specs.declared.Place.{Place}

-- a place with another rank
abbrev pub with_rank : ℕ → Place → Place
with_rank rank place = record { id = place.id; rank = rank; attempts = place.attempts; acked = place.acked; used = place.used }

-- a place with other counters
abbrev pub with_counters : ℕ → ℕ → Place → Place
with_counters attempts acked place = record { id = place.id; rank = place.rank; attempts = attempts; acked = acked; used = place.used }

-- a neighbour that is added: no attempt yet
abbrev pub newcomer : ℕ → ℕ → Place
newcomer id rank = record { id = id; rank = rank; attempts = 0; acked = 0; used = true }

-- a report: if the attempts would exceed 255, both counters are first halved, rounding down; then the attempts grow by those reported, the
-- acknowledged ones by 0 or 1
unfoldable pub attempted : ℕ → Bool → Place → Place
attempted attempts acked place =
    if_lt 255 (place.attempts + attempts) (with_counters (place.attempts / 2 + attempts) (place.acked / 2 + cond acked 1 0) place)
    (with_counters (place.attempts + attempts) (place.acked + cond acked 1 0) place)
