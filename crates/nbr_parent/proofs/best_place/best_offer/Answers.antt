-- `nbr_parent::best_place::best_offer` meets its contract. Assumes nothing.
use Rattle.nbr_table_spec.proofs.OfferLaws.{lowest_end, surveyWays}
use borrow.Author.Rules.{rules}
use Rattle.nbr_parent.proofs.best_place.best_offer.Goals as goal

pub loop-place-init : goal.loop-place-init
loop-place-init c = search (rules, surveyWays)

pub loop-place-preserved : goal.loop-place-preserved
loop-place-preserved c = search (rules, surveyWays)

pub returns : goal.returns
returns c = lowest_end c.loop-place.kept c.args.places.now c.loop-place.place-index _ c.loop-place.invariant (search rules)
