-- The worked values, as a single list under a single claim: each of them holds (docs/RULES.md, Worked values). They speak of the
-- definitions that the contracts cite. Assumes nothing.
use Rattle.std.specs.Prelude.{ℕ, ◌-◌, ◌^◌, ◌≡◌, Bool, true, false, cond, List, [], ◌∷◌, get_or, replicate, Some, None}
use Rattle.refusal.specs.Refusal.{done, out_of_limits}
use Rattle.slot_spec.specs.Hopping.{channel_of}
use Rattle.nbr_metric_spec.specs.Metric.{blank, increment, eligible}
use Rattle.nbr_metric_spec.specs.JoinMetric.{join_metric}
use Rattle.nbr_metric_spec.specs.declared.Place.{Place}
use Rattle.nbr_table_spec.specs.Calls.{evaluated, id_of, mark_of, reported}
use Rattle.nbr_table_spec.specs.declared.Table.{Table}

-- a neighbour in use, with rank, attempts and acknowledged ones
abbrev pub neighbour : ℕ → ℕ → ℕ → ℕ → Place
neighbour id rank attempts acked = record { id = id; rank = rank; attempts = attempts; acked = acked; used = true }

-- a table that holds neighbour 1 at a path cost, where neighbour 2 has another; one attempt, acknowledged, adds 256
abbrev pub between : ℕ → ℕ → Table
between held_at otherAt = record { places = neighbour 1 (held_at - 256) 1 1 ∷ neighbour 2 (otherAt - 256) 1 1 ∷ replicate 30 blank; parent = Some 1 }

-- a table with one neighbour, in its first place, and no parent
abbrev pub one_neighbour : Place → Table
one_neighbour place = record { places = place ∷ replicate 31 blank; parent = None }

-- two numbers that must be the same: what a definition gives, and what the value is
pub record Worked : Type 0 where
  pub is : ℕ
  pub wants : ℕ

-- the two
abbrev pub worked : ℕ → ℕ → Worked
worked is wants = record { is = is; wants = wants }

-- a truth value as a number
abbrev pub one_if : Bool → ℕ
one_if mark = cond mark 1 0

-- the list
abbrev pub worked_values : List Worked
worked_values =
    -- increments: 75 of 100 attempts acknowledged; 7 of 8; 1 of 1
    worked (increment 100 75) 512
    ∷ worked (increment 8 7) 366
    ∷ worked (increment 1 1) 256
    -- with rank 256: 3 of 11 is eligible, with increment 2304; 3 of 12 is not
    ∷ worked (one_if (eligible (neighbour 1 256 11 3))) 1
    ∷ worked (increment 11 3) 2304
    ∷ worked (one_if (eligible (neighbour 1 256 12 3))) 0
    -- without an attempt it is eligible, with increment 768; 0 of 1, of 4 and of 255 are not
    ∷ worked (one_if (eligible (neighbour 1 256 0 0))) 1
    ∷ worked (increment 0 0) 768
    ∷ worked (one_if (eligible (neighbour 1 256 1 0))) 0
    ∷ worked (one_if (eligible (neighbour 1 256 4 0))) 0
    ∷ worked (one_if (eligible (neighbour 1 256 255 0))) 0
    -- cost 1408 held: kept against 768, changed for 767; the own rank is the cost of the parent that is held then
    ∷ worked (evaluated (between 1408 768)).number done
    ∷ worked (one_if (mark_of (evaluated (between 1408 768)).table.parent)) 1
    ∷ worked (id_of (evaluated (between 1408 768)).table.parent) 1
    ∷ worked (evaluated (between 1408 768)).rank 1408
    ∷ worked (evaluated (between 1408 767)).number done
    ∷ worked (one_if (mark_of (evaluated (between 1408 767)).table.parent)) 1
    ∷ worked (id_of (evaluated (between 1408 767)).table.parent) 2
    ∷ worked (evaluated (between 1408 767)).rank 767
    -- join metrics: ranks 256 and 2816; ranks 255 and 65535 are refused
    ∷ worked (join_metric 256).number done
    ∷ worked (join_metric 256).metric 0
    ∷ worked (join_metric 2816).number done
    ∷ worked (join_metric 2816).metric 10
    ∷ worked (join_metric 255).number out_of_limits
    ∷ worked (join_metric 65535).number out_of_limits
    -- channels: ASN 11, offset 0; ASN 2^40 - 1, offsets 0 and 1
    ∷ worked (channel_of 11 0) 13
    ∷ worked (channel_of (2 ^ 40 - 1) 0) 21
    ∷ worked (channel_of (2 ^ 40 - 1) 1) 16
    -- 1 of 255, one failed attempt reported: halved first
    ∷ worked (reported (one_neighbour (neighbour 1 256 255 1)) 1 1 false).number done
    ∷ worked (get_or (reported (one_neighbour (neighbour 1 256 255 1)) 1 1 false).table.places 0 blank).attempts 128
    ∷ worked (get_or (reported (one_neighbour (neighbour 1 256 255 1)) 1 1 false).table.places 0 blank).acked 0
    ∷ []

-- every value holds
abbrev pub AllHold : List Worked → Type 0
AllHold [] = Unit
AllHold (row ∷ rows) = (row.is ≡ row.wants) × AllHold rows

-- the claim
abbrev pub Values : Type 0
Values = AllHold worked_values
