-- `nbr_parent::best_place::held_place` meets its contract. Assumes nothing.
use Rattle.nbr_table_spec.proofs.OfferLaws.{heldWays}
use borrow.Author.Rules.{rules}
use Rattle.nbr_parent.proofs.best_place.held_place.Goals as goal

pub returns-in-Some-at : goal.returns-in-Some-at
returns-in-Some-at c = search (rules, heldWays)

pub returns-in-None-at : goal.returns-in-None-at
returns-in-None-at c = search (rules, heldWays)

pub returns-in-None : goal.returns-in-None
returns-in-None c = search (rules, heldWays)
