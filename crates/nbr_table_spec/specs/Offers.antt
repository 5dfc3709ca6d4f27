-- How the code goes about an evaluation: one walk over the places keeps the lowest offer so far, a cost and an identifier; the held
-- parent's place is looked for by itself (docs/RULES.md, Neighbours). The best place of the rules stands in Places.antt; proofs/OfferLaws.antt shows that both agree. Assumes nothing.
use Rattle.std.specs.Prelude.{ℕ, List, [], ◌∷◌, Option}
use Rattle.octets_spec.specs.Choice.{if_lt}
use Rattle.nbr_metric_spec.specs.declared.Place.{Place}
use Rattle.nbr_metric_spec.specs.Metric.{offer}
use Rattle.nbr_table_spec.specs.declared.Offer.{Offer}
use Rattle.nbr_table_spec.specs.declared.Settlement.{Settlement}
use Rattle.nbr_table_spec.specs.declared.Survey.{Survey}
use Rattle.nbr_table_spec.specs.Places.{best}
use Rattle.nbr_table_spec.specs.Calls.{chosen, held_place}

-- what a place offers
abbrev pub offer_of : Place → Offer
offer_of place = record { cost = offer place; id = place.id }

-- the lower of two offers: by cost, then by identifier
unfoldable pub lower : Offer → Offer → Offer
lower kept other =
    if_lt other.cost kept.cost other (if_lt kept.cost other.cost kept (if_lt other.id kept.id other kept))

-- the lowest of an offer and what the places offer
unfoldable pub lowest : Offer → List Place → Offer
lowest kept [] = kept
lowest kept (place ∷ places) = lowest (lower kept (offer_of place)) places

-- what an evaluation looks for in the places
abbrev pub surveyed : List Place → Option ℕ → Survey
surveyed places parent = record { best = offer_of (best places); held = held_place parent places }

-- the choice, with the place of the parent that was held
abbrev pub settlement : List Place → Option ℕ → Settlement
settlement places parent = record { choice = chosen parent (held_place parent places) (best places); held = held_place parent places }
