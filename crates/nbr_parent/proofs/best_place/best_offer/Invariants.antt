-- `nbr_parent::best_place::best_offer` meets its contract. The invariant: the lowest offer so far and of what is left is that of the whole. Assumes nothing.
use mathlib.Core.Path.{◌≡◌}
use lib.ListN.{drop}
use Rattle.nbr_table_spec.specs.Places.{best}
use Rattle.nbr_table_spec.specs.Offers.{lowest, offer_of}
use Rattle.nbr_parent.proofs.best_place.best_offer.Given as goal

abbrev pub invariant-loop-place : goal.invariant-loop-place
invariant-loop-place l = lowest l.kept (drop l.place-index l.places) ≡ offer_of (best l.places)
